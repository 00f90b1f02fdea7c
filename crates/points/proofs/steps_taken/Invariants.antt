-- `steps_taken` counts the steps that are taken. The loop's invariant: it has counted those among the steps passed, and `before` says whether these
-- are all of them.
use mathlib.Core.Path.{◌≡◌}
use lib.Dec.{eqb}
use lib.ListN.{length, take}
use lib.Signed.{le_z}
use Rattle.std.specs.List.{take_while}
use Rattle.points.proofs.steps_taken.Given as goal

abbrev pub invariant-loop-k : goal.invariant-loop-k
invariant-loop-k l = (l.taken ≡ length (take_while (λ p. le_z p.0 l.pen.0) (take l.k l.at))) × (l.before ≡ eqb l.taken l.k)
