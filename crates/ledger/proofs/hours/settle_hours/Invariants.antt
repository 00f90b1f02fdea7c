-- `hours::settle_hours` meets its contract. After k blocks their answers stand in the first k places, and their total is summed.
use Prim.Native.Nat.{◌≤◌}
use lib.ListN.{drop}
use Rattle.ledger.specs.Walk.{answer_of, word_front}
use Rattle.ledger.proofs.Walks.{Gone}
use Rattle.ledger.proofs.hours.settle_hours.Given as goal

abbrev pub invariant-loop-k : goal.invariant-loop-k
invariant-loop-k l = (l.k ≤ l.hours) × Gone l.s (word_front (answer_of l.kind) l.excluded (drop l.at l.s) l.hours) l.answers l.total l.i l.k
