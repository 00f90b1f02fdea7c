-- `curtailed::curtailed_sum` gives the sum of the block: before interval i it holds the sum of those before i, which fits.
use mathlib.Core.Path.{◌≡◌}
use Prim.Native.Nat.{ℕ, ◌-◌, ◌≤◌}
use lib.IntN.{ℤ}
use Rattle.exact.specs.Whole.{sum_to}
use Rattle.tariff.specs.declared.ImportHour.{ImportHour}
use Rattle.tariff.specs.Import.{curtailed, import_grains}
use Rattle.intervals.proofs.curtailed.curtailed_sum.Given as goal

abbrev summed : (cts : ℤ) → ImportHour → ℕ → ℤ
summed cts h i = sum_to (λ j. import_grains cts h (curtailed h j)) i

-- whatever the hour's number
abbrev pub invariant-loop-i : goal.invariant-loop-i
invariant-loop-i l =
    (l.i ≤ l.n) × ((hour : ℤ) → l.sum.0 ≡ summed l.cts (record { hour = hour; den = l.den; dec = l.dec; n = l.n; iv = l.iv }) l.i)

abbrev pub decreases-loop-i : goal.decreases-loop-i
decreases-loop-i l = l.n - l.i
