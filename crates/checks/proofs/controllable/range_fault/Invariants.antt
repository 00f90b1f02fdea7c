-- `controllable::range_fault` meets its contract. The loop's invariant: each interval passed is in range.
use mathlib.Core.Path.{◌≡◌}
use mathlib.Core.Bool.{true}
use Prim.Native.Nat.{ℕ, ◌-◌, ◌<◌, ◌≤◌}
use lib.ListN.{get_or}
use Rattle.tariff.specs.Controllable.{icl_interval_in_range, blank_icl}
use Rattle.checks.proofs.controllable.range_fault.Given as goal

abbrev pub invariant-loop-i : goal.invariant-loop-i
invariant-loop-i l = (l.i ≤ l.n) × ((k : ℕ) → k < l.i → icl_interval_in_range (get_or l.iv k blank_icl) ≡ true)

abbrev pub decreases-loop-i : goal.decreases-loop-i
decreases-loop-i l = l.n - l.i
