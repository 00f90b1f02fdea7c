-- `pieces_in` counts the front and a block for each hour, of which no day has too many.
use native.Mathlib.Omega.{arith}
use lib.ListN.{take}
use Rattle.input.proofs.Few.{said_few, front_few}
use Rattle.input.proofs.pieces_in.Goals as goal

pub overflow_add-result : goal.overflow_add-result
overflow_add-result c =
    let front = c.front_pieces.ensures in
    let said = c.hours_of.ensures in
    let a = c.args in
    let few = said_few a.kind (take a.n a.store.now) in
    let pieces = front_few a.kind in
    record { fits = omega arith }
