-- What the derate of any figures answers: those that no day sheet can have are answered as a reduction that has no room.
use Rattle.tariff.specs.Units.{MaybeKw}
use Rattle.std.specs.Prelude.{if◌then◌else◌, Bool, true, not, ◌&&◌, ◌||◌, List, ℕ, ℤ, Option, None, Some}
use Rattle.std.specs.List.{list_all}
use Rattle.tariff.specs.declared.Kw.{Kw}
use Rattle.tariff.specs.declared.DayAhead.{DayAhead}
use Rattle.tariff.specs.declared.Interval.{Interval}
use Rattle.tariff.specs.Sheet.{is_power, all_to}
use Rattle.tariff.specs.Derate.{day_ahead, real_time, exceeds_room, reduced}
use Rattle.derate.specs.Five.{kw_five}

-- each of five schedules is in the range of power
abbrev pub are_powers : (ℕ → ℤ) → Bool
are_powers f = all_to (λ j. is_power (f j)) 5

-- the same of a list, as the code tests it
abbrev pub all_powers : List Kw → Bool
all_powers = list_all (λ k. is_power k.0)

-- where there is a limit, it and the schedules are in the range of power
abbrev pub deratable_under : DayAhead → Interval → MaybeKw → Bool
deratable_under a v None = true
deratable_under a v (Some limit) = are_powers (day_ahead a) && are_powers (real_time v) && is_power limit.0

abbrev pub deratable : DayAhead → Interval → Bool
deratable a v = deratable_under a v v.uol

abbrev pub no_room : DayAhead → Interval → Bool
no_room a v = not (deratable a v) || exceeds_room a v

-- the schedules after the derate, or none without room
unfoldable pub derate_of : DayAhead → Interval → Option (List Kw)
derate_of a v = if no_room a v then None else Some (kw_five (reduced a v))
