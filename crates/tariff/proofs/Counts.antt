-- The hours of a day by the count that its text says: no fewer than the shortest day has, and no more than the longest. Each of them may be said there.
use mathlib.Core.Path.{◌≡◌}
use mathlib.Core.Bool.{true}
use Prim.Native.Nat.{ℕ, ◌<◌, ◌≤◌}
use native.Mathlib.Omega.{arith}
use borrow.Author.Tests.{eqb-false}
use lib.Dec.{eqb}
use lib.IntN.{ℤ, pos}
use lib.Signed.{le_z}
use Rattle.std.specs.Prelude.{if◌then◌else◌}
use Rattle.exact.specs.Whole.{over}
use Rattle.exact.proofs.Parts.{arithℤ, by_test, apart}
use Rattle.tariff.specs.Sheet.{SHORTEST_DAY, USUAL_DAY, LONGEST_DAY, is_count, hours_by, is_hour, lies_in}
use Rattle.tariff.proofs.Tests.{and_left, and_right, and_both}

module _ (count : ℤ) where
  pub hours_few : hours_by count ≤ LONGEST_DAY
  hours_few =
      by_test (is_count count) (λ t. (if t then over count else USUAL_DAY) ≤ LONGEST_DAY)
      (λ e. omega (arithℤ, apart count, and_right (le_z (pos 23) count) (le_z count (pos 25)) e))
      (λ e. omega arith)

  pub hours_many : SHORTEST_DAY ≤ hours_by count
  hours_many =
      by_test (is_count count) (λ t. SHORTEST_DAY ≤ (if t then over count else USUAL_DAY))
      (λ e. omega (arithℤ, apart count, and_left (le_z (pos 23) count) (le_z count (pos 25)) e))
      (λ e. omega arith)

  pub hours_some : 0 < hours_by count
  hours_some = omega (arith, hours_many)

-- an hour of a day may be said in it
pub own_hour : (hours k : ℕ) → k < hours → hours ≤ LONGEST_DAY → is_hour hours (pos k) ≡ true
own_hour hours k u few =
    by_test (eqb hours LONGEST_DAY) (λ t. lies_in (pos 0) (if t then pos 24 else pos 23) (pos k) ≡ true)
    (λ e. lies 24 (omega arith))
    (λ e. let other = eqb-false hours LONGEST_DAY e in lies 23 (omega arith))
  where
    lies : (last : ℕ) → k ≤ last → lies_in (pos 0) (pos last) (pos k) ≡ true
    lies last l = and_both (le_z (pos 0) (pos k)) (le_z (pos k) (pos last)) (omega arithℤ) (omega arithℤ)
