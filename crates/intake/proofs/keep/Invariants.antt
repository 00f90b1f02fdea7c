-- The loop's invariant: the whole text leaves the store and the state that the rest from here leaves.
use lib.ListN.{length}
use Rattle.intake.proofs.Store.{Same}
use Rattle.intake.proofs.keep.Given as goal

abbrev pub invariant-loop-b : goal.invariant-loop-b
invariant-loop-b l = Same l.initial.store l.initial.state l.bytes l.store l.state l.rest

abbrev pub decreases-loop-b : goal.decreases-loop-b
decreases-loop-b l = length l.rest
