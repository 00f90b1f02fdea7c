-- `settle_block` meets its contract: a block with a line that is not as printed is refused, and any other is settled.
use Rattle.curves.proofs.Frames.{told_broken, told_read}
use Rattle.sheet.proofs.settle_block.Goals as goal

pub returns-in-Ok : goal.returns-in-Ok
returns-in-Ok c =
    let b = told_read _ c.in-Ok.ensures in
    record { reply = rw b c.settle.ensures.reply; row = rw b c.settle.ensures.row }

pub returns-in-Err : goal.returns-in-Err
returns-in-Err c =
    let b = told_broken _ c.in-Err.ensures in
    record { reply = rw b; row = rw b }
