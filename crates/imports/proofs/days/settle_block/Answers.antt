-- `days::settle_block` meets its contract: the block is lent from its place to the text's end, and a line that is not as printed refuses it.
use mathlib.Core.Path.{ap, ◌∙◌}
use lib.IntN.{ℤ}
use Rattle.exact.proofs.Calls.{handed}
use Rattle.lines.proofs.Pieces.{lent_to_the_end}
use Rattle.imports.specs.Import.{read}
use Rattle.imports.specs.Read.{block_worth}
use Rattle.imports.proofs.Blocks.{told_broken, told_read}
use Rattle.imports.proofs.days.settle_block.Goals as goal

pub returns-in-Err : goal.returns-in-Err
returns-in-Err c = let e = rw (lent_to_the_end c.args.s.now c.args.at) at c.in-Err.ensures in rw (told_broken _ e)

pub returns-in-Ok : goal.returns-in-Ok
returns-in-Ok c =
    let a = c.args in
    let e = rw (lent_to_the_end a.s.now a.at) at c.in-Ok.ensures in
    rw (told_read _ e)
    (c.import_part.ensures ∙ ap (λ (cts : ℤ). block_worth cts a.hours (read c.in-Ok.hour) a.k) (handed a.cts c.ranges.cts.sfits))
