-- "Who is eligible": the marks of the day, with those of the days before and after it that reach over midnight, and the interval that lags.
use Rattle.std.specs.Prelude.{if◌then◌else◌, Bool, false, ◌&&◌, ◌||◌, ℕ, zero, suc, ◌+◌, ◌-◌, ◌/◌, ◌%◌, ◌^◌, ltb, leb, eqb, get_or, replicate}
use Rattle.std.specs.Int.Signed.{le_z}
use Rattle.tariff.specs.declared.Marks.{Marks}
use Rattle.tariff.specs.declared.MarkedDay.{MarkedDay}
use Rattle.tariff.specs.declared.Interval.{Interval}
use Rattle.tariff.specs.Sheet.{LONGEST_DAY}

-- bit h of a word is the mark of hour h, hour 0 the lowest
abbrev pub marked : ℕ → ℕ → Bool
marked word h = eqb (word / 2 ^ h % 2) 1

-- the test f holds at some number below n
unfoldable pub some_to : (ℕ → Bool) → ℕ → Bool
some_to f zero = false
some_to f (suc n) = some_to f n || f n

-- two hours at most two apart
abbrev pub near : ℕ → ℕ → Bool
near g h = leb g (h + 2) && leb h (g + 2)

-- x4, and with `rtc=1` x5 and x6, reach the two hours before and after their own as well. A day's `rtc` is asked for its own marks alone
abbrev pub reaches : Marks → ℕ → Bool
reaches m h = marked m.x4 h || (m.rtc && (marked m.x5 h || marked m.x6 h))

-- hour k of the joined days has such a mark: those of the day before come first, then the day's own, then those of the day after, each day by its own
-- count
abbrev pub joined : (before own after : MarkedDay) → ℕ → Bool
joined before own after k =
    if ltb k before.hours
    then reaches before.marks k
    else
    (if ltb k (before.hours + own.hours)
    then reaches own.marks (k - before.hours)
    else reaches after.marks (k - (before.hours + own.hours)))

-- one of the joined days has one at the day's hour h, or at most two hours before or after it
abbrev pub reached : (before own after : MarkedDay) → ℕ → Bool
reached before own after h =
    some_to (λ k. joined before own after k && near k (before.hours + h)) (before.hours + own.hours + after.hours)

-- category 0, x1, x2 and x3 exclude their own hour; x4, x5 and x6 those that they reach, past midnight too
unfoldable pub excluded : (before own after : MarkedDay) → ℕ → Bool
excluded before own after h =
    eqb (get_or own.marks.cat h 0) 0
    || marked own.marks.x1 h
    || marked own.marks.x2 h
    || marked own.marks.x3 h
    || reached before own after h

-- no hour has a category, so that none is eligible, and none has an exception
abbrev pub no_marks : Marks
no_marks = record { rtc = false; cat = replicate LONGEST_DAY 0; x1 = 0; x2 = 0; x3 = 0; x4 = 0; x5 = 0; x6 = 0 }

-- a neighbour that is lacking: no hours, and so no marks
abbrev pub no_day : MarkedDay
no_day = record { hours = 0; marks = no_marks }

-- 25.4: the raw output is at or below the limit
abbrev pub lags : Interval → Bool
lags v = le_z v.ae.0 v.lim.0
