-- "The day sheet": the ranges of its numbers, line by line, and the rules of a curve.
use Rattle.std.specs.Prelude.{if◌then◌else◌, Bool, true, ◌&&◌, ℕ, zero, suc, eqb, get_or, ℤ, pos, neg_ℤ, None, Some}
use Rattle.std.specs.Int.Signed.{lt_z, le_z}
use Rattle.exact.specs.Whole.{over, eq_z}
use Rattle.tariff.specs.declared.Curve.{Curve}
use Rattle.tariff.specs.declared.DayAhead.{DayAhead}
use Rattle.tariff.specs.declared.Interval.{Interval}
use Rattle.tariff.specs.Units.{kw, price, MaybeKw}

-- ---- ranges, both ends included

abbrev pub lies_in : ℤ → ℤ → ℤ → Bool
lies_in low high z = le_z low z && le_z z high

-- a day has 24 hours, and 23 or 25 where the clock changes
abbrev pub USUAL_DAY : ℕ
USUAL_DAY = 24

abbrev pub SHORTEST_DAY : ℕ
SHORTEST_DAY = 23

abbrev pub LONGEST_DAY : ℕ
LONGEST_DAY = 25

abbrev pub is_count : ℤ → Bool
is_count = lies_in (pos SHORTEST_DAY) (pos LONGEST_DAY)

-- the hours of a day by the count that its text says; where no day has so many it is refused, and taken as a usual one
abbrev pub hours_by : (count : ℤ) → ℕ
hours_by count = if is_count count then over count else USUAL_DAY

abbrev pub is_seconds : ℤ → Bool
is_seconds = lies_in (pos 1) (pos 900)

-- the last hour that a block may say on a day of so many hours: with 25 of them it is 24. With 23 it is still 23, which is then out of order
abbrev pub last_hour : (hours : ℕ) → ℤ
last_hour hours = if eqb hours LONGEST_DAY then pos 24 else pos 23

abbrev pub is_hour : (hours : ℕ) → ℤ → Bool
is_hour hours = lies_in (pos 0) (last_hour hours)

-- energy, `ae`, `eop`, `lim` and curve points
abbrev pub is_power : ℤ → Bool
is_power = lies_in (neg_ℤ (pos 2000000)) (pos 2000000)

-- reserves, regulation, `co`, `mv` and `uol`
abbrev pub is_capacity : ℤ → Bool
is_capacity = lies_in (pos 0) (pos 2000000)

-- reserve and regulation bids, `pmv` and `bmv`
abbrev pub is_bid : ℤ → Bool
is_bid = lies_in (pos 0) (pos 1000000)

-- all other prices
abbrev pub is_price : ℤ → Bool
is_price = lies_in (neg_ℤ (pos 1000000)) (pos 1000000)

-- a mark, as `rtc`, `cts` and `cut` are
abbrev pub is_mark : ℤ → Bool
is_mark = lies_in (pos 0) (pos 1)

-- `unit` of a day, and `import`
abbrev pub is_name : ℤ → Bool
is_name = lies_in (pos 1) (pos 9999999)

-- ---- the steps of a curve

abbrev pub end_of : Curve → ℕ → ℤ
end_of c j = (get_or c.to j (kw (pos 0))).0

abbrev pub price_of : Curve → ℕ → ℤ
price_of c j = (get_or c.at j (price (pos 0))).0

-- a step begins at the end of the one before, the first at the curve's start
abbrev pub begin_of : Curve → ℕ → ℤ
begin_of c zero = c.start.0
begin_of c (suc j) = end_of c j

-- the test f holds at each number below n
unfoldable pub all_to : (ℕ → Bool) → ℕ → Bool
all_to f zero = true
all_to f (suc n) = all_to f n && f n

-- ---- each line's numbers are in their ranges

unfoldable pub ahead_in_range : DayAhead → Bool
ahead_in_range a =
    is_power a.en.0
    && (is_capacity a.reg.0 && is_capacity a.r1.0 && is_capacity a.r2.0 && is_capacity a.r3.0)
    && (is_bid a.breg.0 && is_bid a.b1.0 && is_bid a.b2.0 && is_bid a.b3.0)

abbrev pub step_in_range : Curve → ℕ → Bool
step_in_range c j = is_power (end_of c j) && is_price (price_of c j)

unfoldable pub curve_in_range : Curve → Bool
curve_in_range c = is_power c.start.0 && all_to (step_in_range c) c.n

-- a number that is missing has no range to keep
abbrev pub given_in : (ℤ → Bool) → MaybeKw → Bool
given_in in_range None = true
given_in in_range (Some k) = in_range k.0

abbrev pub uol_in_range : MaybeKw → Bool
uol_in_range = given_in is_capacity

abbrev pub eop_in_range : MaybeKw → Bool
eop_in_range = given_in is_power

unfoldable pub interval_in_range : Interval → Bool
interval_in_range v =
    is_seconds v.s.0
    && (is_power v.en.0 && is_power v.ae.0 && eop_in_range v.eop && is_power v.lim.0)
    && (is_capacity v.r1.0 && is_capacity v.r2.0 && is_capacity v.r3.0 && is_capacity v.reg.0 && is_capacity v.co.0 && is_capacity v.mv.0)
    && uol_in_range v.uol
    && (is_bid v.breg.0 && is_bid v.pmv.0 && is_bid v.bmv.0)
    && (is_price v.pen.0 && is_price v.preg.0 && is_price v.p1.0 && is_price v.p2.0 && is_price v.p3.0)

-- ---- the rules of a curve

-- ends rise strictly, the first above the start
abbrev pub rises : Curve → ℕ → Bool
rises c j = lt_z (begin_of c j) (end_of c j)

-- from the third step on no price is below the one before: the first step is the minimum generation block and may be dearer
abbrev pub is_fair : Curve → ℕ → Bool
is_fair c zero = true
is_fair c (suc zero) = true
is_fair c (suc (suc j)) = le_z (price_of c (suc j)) (price_of c (suc (suc j)))

abbrev pub step_keeps : Curve → ℕ → Bool
step_keeps c j = rises c j && is_fair c j

-- with no step the start is 0
unfoldable pub curve_keeps : Curve → Bool
curve_keeps c = if eqb c.n 0 then eq_z c.start.0 (pos 0) else all_to (step_keeps c) c.n
