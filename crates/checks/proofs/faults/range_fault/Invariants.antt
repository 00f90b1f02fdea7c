-- `faults::range_fault` meets its contract. The loop's invariant: each interval passed is in range.
use mathlib.Core.Path.{◌≡◌}
use mathlib.Core.Bool.{true}
use Prim.Native.Nat.{ℕ, ◌-◌, ◌<◌, ◌≤◌}
use lib.ListN.{get_or}
use Rattle.tariff.specs.Sheet.{interval_in_range}
use Rattle.tariff.specs.Hour.{blank}
use Rattle.checks.proofs.faults.range_fault.Given as goal

abbrev pub invariant-loop-i : goal.invariant-loop-i
invariant-loop-i l = (l.i ≤ l.n) × ((k : ℕ) → k < l.i → interval_in_range (get_or l.iv k blank) ≡ true)

abbrev pub decreases-loop-i : goal.decreases-loop-i
decreases-loop-i l = l.n - l.i
