-- `sum_of` gives the sum of the first `n` contributions: before entry i it holds the sum of those before i, which fits.
use mathlib.Core.Path.{◌≡◌}
use Prim.Native.Nat.{◌-◌, ◌≤◌}
use Rattle.exact.specs.Whole.{sum_to}
use Rattle.intervals.specs.Walk.{grains_at}
use Rattle.intervals.proofs.sum_of.Given as goal

abbrev pub invariant-loop-i : goal.invariant-loop-i
invariant-loop-i l = (l.i ≤ l.n) × (l.sum.0 ≡ sum_to (grains_at l.parts) l.i)

abbrev pub decreases-loop-i : goal.decreases-loop-i
decreases-loop-i l = l.n - l.i
