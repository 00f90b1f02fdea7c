-- The figures of a day sheet are in range, and the answer is then document 01's derate: it exceeds the room, or the schedules are reduced.
use native.Mathlib.Omega.{arith}
use Rattle.tariff.specs.Units.{MaybeKw}
use Rattle.std.specs.Prelude.{None, Some}
use mathlib.Core.Path.{◌≡◌, refl}
use mathlib.Core.Bool.{true, false}
use mathlib.Core.List.{List}
use Prim.Native.Nat.{ℕ, ◌<◌}
use lib.IntN.{ℤ}
use Rattle.exact.specs.Whole.{Within}
use Rattle.exact.proofs.Apart.{impossible}
use Rattle.exact.proofs.Parts.{arithℤ}
use Rattle.exact.proofs.Tests.{and_both}
use Rattle.tariff.specs.declared.Kw.{Kw}
use Rattle.tariff.specs.declared.DayAhead.{DayAhead}
use Rattle.tariff.specs.declared.Interval.{Interval}
use Rattle.tariff.specs.Sheet.{is_power, ahead_in_range, uol_in_range, interval_in_range}
use Rattle.tariff.specs.Derate.{day_ahead, real_time, exceeds_room, reduced}
use Rattle.tariff.proofs.Ranges.{capacity_within, uol_fits}
use Rattle.tariff.proofs.Reduced.{ahead_within, live_within}
use Rattle.tariff.proofs.Tests.{all_of}
use Rattle.derate.specs.Five.{kw_five}
use Rattle.derate.specs.Derated.{are_powers, deratable_under, deratable, derate_of}

is_power_lem : {z : ℤ} → Within 2000000 z → is_power z ≡ true
is_power_lem {z} w = grind (arith, and_both, arithℤ)

are_powers_lem : (f : ℕ → ℤ) → ((j : ℕ) → j < 5 → Within 2000000 (f j)) → are_powers f ≡ true
are_powers_lem f h = grind (arith, all_of, is_power_lem)

module _ (a : DayAhead) (v : Interval) (ea : ahead_in_range a ≡ true) (ev : interval_in_range v ≡ true) where
  under : (limit : MaybeKw) → uol_in_range limit ≡ true → deratable_under a v limit ≡ true
  under None e = refl
  under (Some limit) e =
      rw (are_powers_lem (day_ahead a) (ahead_within a ea), are_powers_lem (real_time v) (live_within v ev)) (is_power_lem (capacity_within {z = limit.0} e))

  pub sheet_deratable : deratable a v ≡ true
  sheet_deratable = under v.uol (uol_fits v ev)

  pub sheet_exceeds : None ≡ derate_of a v → exceeds_room a v ≡ true
  unfolding derate_of
  sheet_exceeds e = grind (arith, sheet_deratable, impossible)

  pub sheet_reduced : {q : List Kw} → Some q ≡ derate_of a v → (exceeds_room a v ≡ false) × (q ≡ kw_five (reduced a v))
  unfolding derate_of
  sheet_reduced {q} e = grind (arith, sheet_deratable, impossible)
