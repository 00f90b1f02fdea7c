-- Days with their count of hours, as the words see them.
use Rattle.std.specs.Prelude.{ℕ, min}
use Rattle.tariff.specs.declared.Marks.{Marks}
use Rattle.tariff.specs.declared.MarkedDay.{MarkedDay}
use Rattle.tariff.specs.Sheet.{LONGEST_DAY}

abbrev pub day_of : (hours : ℕ) → Marks → MarkedDay
day_of hours m = record { hours = hours; marks = m }

-- no day has more hours than the longest, so a greater count is taken as that
abbrev pub within : MarkedDay → MarkedDay
within d = day_of (min d.hours LONGEST_DAY) d.marks
