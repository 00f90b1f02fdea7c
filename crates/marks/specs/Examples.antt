-- Days whose excluded hours are computed: P10, the ends of a day of each length, what `rtc` decides, and what comes over midnight.
use Rattle.std.specs.Prelude.{◌≡◌, refl, Bool, true, false, ℕ, ◌+◌, ◌-◌, ◌^◌, replicate}
use Rattle.tariff.specs.declared.Marks.{Marks}
use Rattle.tariff.specs.declared.MarkedDay.{MarkedDay}
use Rattle.tariff.specs.Sheet.{LONGEST_DAY}
use Rattle.tariff.specs.Eligible.{some_to, excluded, no_day}
use Rattle.marks.specs.Word.{word}
use Rattle.marks.specs.Days.{day_of}

-- category (i) in each hour, x4 and x5 as given, no other exception
abbrev day : Bool → (x4 x5 : ℕ) → Marks
day rtc x4 x5 = record { rtc = rtc; cat = replicate LONGEST_DAY 1; x1 = 0; x2 = 0; x3 = 0; x4 = x4; x5 = x5; x6 = 0 }

-- no hour has a category, and each hour that a word can have has x1, x2 and x3
abbrev shut : Marks
shut =
    let all = 2 ^ 32 - 1 in
    record { rtc = true; cat = replicate LONGEST_DAY 0; x1 = all; x2 = all; x3 = all; x4 = 0; x5 = 0; x6 = 0 }

-- the excluded hours of a day between its neighbours
abbrev between : (before own after : MarkedDay) → ℕ
between before own after = word own.hours (excluded before own after)

-- of a day of so many hours whose neighbours are lacking
abbrev out_of : (hours : ℕ) → Marks → ℕ
out_of hours m = between no_day (day_of hours m) no_day

-- what a proof by computation opens
opened : (before own after : MarkedDay) → ℕ
unfolding word excluded some_to
opened = between

-- ---- inside the day

p10 : out_of 24 (day false (2 ^ 5) 0) ≡ 2 ^ 3 + 2 ^ 4 + 2 ^ 5 + 2 ^ 6 + 2 ^ 7
unfolding opened
p10 = refl

-- a mark in the first or the last hour does not come back at the other end of the day, whatever its length
first_hour : (out_of 23 (day false (2 ^ 0) 0) ≡ 2 ^ 0 + 2 ^ 1 + 2 ^ 2)
    × (out_of 24 (day false (2 ^ 0) 0) ≡ 2 ^ 0 + 2 ^ 1 + 2 ^ 2)
    × (out_of 25 (day false (2 ^ 0) 0) ≡ 2 ^ 0 + 2 ^ 1 + 2 ^ 2)
unfolding opened
first_hour = (refl, refl, refl)

last_hour_lem : (out_of 23 (day false (2 ^ 22) 0) ≡ 2 ^ 20 + 2 ^ 21 + 2 ^ 22)
    × (out_of 24 (day false (2 ^ 23) 0) ≡ 2 ^ 21 + 2 ^ 22 + 2 ^ 23)
    × (out_of 25 (day false (2 ^ 24) 0) ≡ 2 ^ 22 + 2 ^ 23 + 2 ^ 24)
unfolding opened
last_hour_lem = (refl, refl, refl)

-- two hours before the end a mark still reaches the last hour, and the day's end cuts off what would lie past it
near_the_end : (out_of 23 (day false (2 ^ 20) 0) ≡ 2 ^ 18 + 2 ^ 19 + 2 ^ 20 + 2 ^ 21 + 2 ^ 22)
    × (out_of 23 (day false (2 ^ 21) 0) ≡ 2 ^ 19 + 2 ^ 20 + 2 ^ 21 + 2 ^ 22)
    × (out_of 25 (day false (2 ^ 22) 0) ≡ 2 ^ 20 + 2 ^ 21 + 2 ^ 22 + 2 ^ 23 + 2 ^ 24)
    × (out_of 25 (day false (2 ^ 23) 0) ≡ 2 ^ 21 + 2 ^ 22 + 2 ^ 23 + 2 ^ 24)
unfolding opened
near_the_end = (refl, refl, refl, refl)

-- a bit above the day is no hour of it
above_the_day : (out_of 23 (day false (2 ^ 23) 0) ≡ 0) × (out_of 24 (day false (2 ^ 24) 0) ≡ 0) × (out_of 25 (day false (2 ^ 25) 0) ≡ 0)
unfolding opened
above_the_day = (refl, refl, refl)

-- x5 acts as x4 does with `rtc`, and without it not even in its own hour
with_rtc_lem : out_of 24 (day true 0 (2 ^ 5)) ≡ 2 ^ 3 + 2 ^ 4 + 2 ^ 5 + 2 ^ 6 + 2 ^ 7
unfolding opened
with_rtc_lem = refl

without_rtc : out_of 24 (day false 0 (2 ^ 5)) ≡ 0
unfolding opened
without_rtc = refl

-- ---- over midnight

-- the hours that x4 excludes of a day of 24 without a mark, from hour h of a day before of so many
abbrev from_before : (hours h : ℕ) → ℕ
from_before hours h = between (day_of hours (day false (2 ^ h) 0)) (day_of 24 (day false 0 0)) no_day

-- of a day of so many hours, from hour h of a day after of 24
abbrev from_after : (hours h : ℕ) → ℕ
from_after hours h = between no_day (day_of hours (day false 0 0)) (day_of 24 (day false (2 ^ h) 0))

-- the last hour of a day reaches two of the next, the one before it one, and the third last none
from_23_before : (from_before 23 22 ≡ 2 ^ 0 + 2 ^ 1) × (from_before 23 21 ≡ 2 ^ 0) × (from_before 23 20 ≡ 0)
unfolding opened
from_23_before = (refl, refl, refl)

from_24_before : (from_before 24 23 ≡ 2 ^ 0 + 2 ^ 1) × (from_before 24 22 ≡ 2 ^ 0) × (from_before 24 21 ≡ 0)
unfolding opened
from_24_before = (refl, refl, refl)

from_25_before : (from_before 25 24 ≡ 2 ^ 0 + 2 ^ 1) × (from_before 25 23 ≡ 2 ^ 0) × (from_before 25 22 ≡ 0)
unfolding opened
from_25_before = (refl, refl, refl)

-- the first hour of a day reaches the last two of the day before it, the second the last one, and the third none
after_23 : (from_after 23 0 ≡ 2 ^ 21 + 2 ^ 22) × (from_after 23 1 ≡ 2 ^ 22) × (from_after 23 2 ≡ 0)
unfolding opened
after_23 = (refl, refl, refl)

after_24 : (from_after 24 0 ≡ 2 ^ 22 + 2 ^ 23) × (from_after 24 1 ≡ 2 ^ 23) × (from_after 24 2 ≡ 0)
unfolding opened
after_24 = (refl, refl, refl)

after_25 : (from_after 25 0 ≡ 2 ^ 23 + 2 ^ 24) × (from_after 25 1 ≡ 2 ^ 24) × (from_after 25 2 ≡ 0)
unfolding opened
after_25 = (refl, refl, refl)

-- a neighbour's x5 asks the neighbour's `rtc`, whatever the day's own is
by_the_neighbours_rtc :
    (between (day_of 24 (day true 0 (2 ^ 23))) (day_of 24 (day false 0 0)) no_day ≡ 2 ^ 0 + 2 ^ 1)
    × (between no_day (day_of 24 (day false 0 0)) (day_of 24 (day true 0 (2 ^ 0))) ≡ 2 ^ 22 + 2 ^ 23)
unfolding opened
by_the_neighbours_rtc = (refl, refl)

not_by_the_own_rtc :
    (between (day_of 24 (day false 0 (2 ^ 23))) (day_of 24 (day true 0 0)) no_day ≡ 0)
    × (between no_day (day_of 24 (day true 0 0)) (day_of 24 (day false 0 (2 ^ 0))) ≡ 0)
unfolding opened
not_by_the_own_rtc = (refl, refl)

-- and the own x5 the own
not_by_the_neighbours_rtc : between (day_of 24 (day true 0 0)) (day_of 24 (day false 0 (2 ^ 5))) (day_of 24 (day true 0 0)) ≡ 0
unfolding opened
not_by_the_neighbours_rtc = refl

-- a bit above a neighbour's day is no hour of it
above_a_neighbour : (from_before 23 23 ≡ 0) × (from_before 24 24 ≡ 0) × (from_before 25 25 ≡ 0)
    × (between no_day (day_of 24 (day false 0 0)) (day_of 1 (day false (2 ^ 1) 0)) ≡ 0)
    × (between (day_of 0 (day false (2 ^ 32 - 1) 0)) (day_of 24 (day false 0 0)) (day_of 0 (day false (2 ^ 32 - 1) 0)) ≡ 0)
unfolding opened
above_a_neighbour = (refl, refl, refl, refl, refl)

-- a neighbour's hours without a category, and its x1 to x3, do not pass midnight
not_over_midnight : between (day_of 24 shut) (day_of 24 (day false 0 0)) (day_of 24 shut) ≡ 0
unfolding opened
not_over_midnight = refl
