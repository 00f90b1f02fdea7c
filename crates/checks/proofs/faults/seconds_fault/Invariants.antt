-- `faults::seconds_fault` meets its contract. The loop's invariant: the sum is that of the intervals passed, each at most 900.
use mathlib.Core.Path.{◌≡◌}
use Prim.Native.Nat.{◌-◌, ◌≤◌}
use lib.ListN.{get_or}
use Rattle.exact.specs.Whole.{sum_to}
use Rattle.tariff.specs.Hour.{blank}
use Rattle.checks.proofs.faults.seconds_fault.Given as goal

abbrev pub invariant-loop-i : goal.invariant-loop-i
invariant-loop-i l = (l.i ≤ l.n) × (l.sum.0 ≡ sum_to (λ k. (get_or l.iv k blank).s.0) l.i)

abbrev pub decreases-loop-i : goal.decreases-loop-i
decreases-loop-i l = l.n - l.i
