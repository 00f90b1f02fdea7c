-- The schedules after a derate lie between the real-time and the day-ahead ones, and so in the range of power.
use Rattle.tariff.specs.Units.{MaybeKw}
use Rattle.std.specs.Prelude.{None, Some}
use mathlib.Core.Path.{◌≡◌}
use mathlib.Core.Bool.{true, false}
use Prim.Native.Nat.{ℕ, ◌<◌, ◌≤◌}
use native.Mathlib.Omega.{arith}
use borrow.Author.Tests.{ltb-false}
use lib.IntN.{ℤ, pos, ◌-ℤ◌}
use Rattle.exact.specs.Whole.{over, Within}
use Rattle.exact.proofs.Parts.{apart, less_parts}
use Rattle.tariff.specs.declared.DayAhead.{DayAhead}
use Rattle.tariff.specs.declared.Interval.{Interval}
use Rattle.tariff.specs.Sheet.{ahead_in_range, interval_in_range}
use Rattle.tariff.specs.Derate.{day_ahead, real_time, of_five, red_tot, pot_red, exceeds_under, reduced_by, exceeds_room, reduced}
use Rattle.tariff.proofs.Ranges.{ahead_fits, interval_fits}
use Rattle.tariff.proofs.Ranks.{at_five}
use Rattle.tariff.proofs.Shares.{share_bound}

pub ahead_within : (a : DayAhead) → ahead_in_range a ≡ true → (j : ℕ) → j < 5 → Within 2000000 (day_ahead a j)
ahead_within a e =
    let f = ahead_fits a e in at_five (λ j. Within 2000000 (day_ahead a j)) (f.en, f.reg, f.r1, f.r2, f.r3)

pub live_within : (v : Interval) → interval_in_range v ≡ true → (j : ℕ) → j < 5 → Within 2000000 (real_time v j)
live_within v e =
    let f = interval_fits v e in at_five (λ j. Within 2000000 (real_time v j)) (f.en, f.reg, f.r1, f.r2, f.r3)

-- a cut that is no larger than what lies above r
cut_within : {N : ℕ} (d r : ℤ) (n : ℕ) → Within N d → Within N r → n ≤ over (d -ℤ r) → Within N (d -ℤ pos n)
cut_within d r n u v h =
    omega (arith, less_parts d r, less_parts d (pos n), apart d, apart r, apart (d -ℤ r), apart (d -ℤ pos n))

module _ (a : DayAhead) (v : Interval) (ea : ahead_in_range a ≡ true) (ev : interval_in_range v ≡ true) where
  by_limit : (limit : MaybeKw) → exceeds_under a v limit ≡ false → (j : ℕ) → j < 5 → Within 2000000 (reduced_by a v limit j)
  by_limit None e j u = ahead_within a ea j u
  by_limit (Some limit) e j u =
      cut_within (day_ahead a j) (real_time v j) _ (ahead_within a ea j u) (live_within v ev j u)
      (share_bound (pot_red a v) (red_tot a limit.0) (ltb-false (of_five (pot_red a v)) (red_tot a limit.0) e) j)

  pub reduced_within : exceeds_room a v ≡ false → (j : ℕ) → j < 5 → Within 2000000 (reduced a v j)
  unfolding exceeds_room reduced
  reduced_within e j u = by_limit v.uol e j u
