-- `settle_import` meets its contract: the first two lines refuse the whole, or the blocks behind them settle it.
use Rattle.imports.proofs.Heads.{head_inside, hours_few, head_refuses, head_passes}
use Rattle.imports.proofs.settle_import.Goals as goal

pub settle_blocks-requires : goal.settle_blocks-requires
settle_blocks-requires c =
    let s = c.args.s.now in
    let said = c.in-Ok.ensures in
    (rw said.next (head_inside s), rw said.hours (hours_few s))

pub returns-in-Ok : goal.returns-in-Ok
returns-in-Ok c = let said = c.in-Ok.ensures in head_passes _ _ _ _ _ _ said.sound said.name said.cts said.hours said.next c.settle_blocks.ensures

pub returns-in-Err : goal.returns-in-Err
returns-in-Err c = head_refuses _ _ _ c.in-Err.ensures
