-- The loop's invariant: some text stands squeezed in the first n bytes of the store.
use Rattle.intake.proofs.Fronts.{SoFar}
use Rattle.intake.proofs.take_front.Given as goal

abbrev pub invariant-loop : goal.invariant-loop
invariant-loop l = SoFar l.store l.squeezed l.n
