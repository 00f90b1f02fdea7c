-- Checks 1 to 5 over a whole block, of whatever kind its hour is. Line 1 has the hour and its schedules, 2 and 3 the curves, 4 the first
-- interval.
use Rattle.std.specs.Prelude.{Bool, ◌&&◌, ℕ, ◌+◌, leb, ℤ, pos}
use Rattle.exact.specs.Whole.{eq_z, sum_to}
use Rattle.tariff.specs.declared.Curve.{Curve}
use Rattle.tariff.specs.declared.Expected.{Expected}
use Rattle.tariff.specs.declared.Expected.TheVariants.{Any, Says}
use Rattle.tariff.specs.Sheet.{LONGEST_DAY, is_hour, curve_in_range, curve_keeps}
use Rattle.tariff.specs.Reply.{FORM, RANGE, ORDER, CURVE, SECONDS, Verdict, clear, unless, ◌then◌, first_of}

-- ---- each check, over what it reads

-- a curve has at most 12 steps, and a block at most 30 intervals: line 34 would be one too many
unfoldable pub form_in : (da rt : Curve) → (n : ℕ) → Verdict
form_in da rt n = unless (leb da.n 12) FORM 2 then unless (leb rt.n 12) FORM 3 then unless (leb n 30) FORM 34

-- `first` tells whether line 1 is in its ranges, and `line` whether interval line i is
unfoldable pub range_in : (first : Bool) → (da rt : Curve) → (line : ℕ → Bool) → (n : ℕ) → Verdict
range_in first da rt line n =
    unless first RANGE 1
    then unless (curve_in_range da) RANGE 2
    then unless (curve_in_range rt) RANGE 3
    then first_of (λ i. unless (line i) RANGE (i + 4)) n

unfoldable pub order_in : (said : ℤ) → Expected → Verdict
order_in said Any = clear
order_in said (Says hour hours) = unless (eq_z said hour) ORDER 1

unfoldable pub curves_in : (da rt : Curve) → Verdict
curves_in da rt = unless (curve_keeps da) CURVE 2 then unless (curve_keeps rt) CURVE 3

unfoldable pub seconds_in : (seconds : ℕ → ℤ) → (n : ℕ) → Verdict
seconds_in seconds n = unless (eq_z (sum_to seconds n) (pos 3600)) SECONDS 0

-- ---- all of them, over what they read of a record

pub record Parts : Type 0 where
  -- line 1: the hour that it says, and whether its other numbers are in their ranges
  pub hour : ℤ
  pub ahead_in_range : Bool
  pub da : Curve
  pub rt : Curve
  -- the intervals: how many, whether the numbers of interval i are in their ranges, and its seconds
  pub n : ℕ
  pub interval_in_range : ℕ → Bool
  pub seconds : ℕ → ℤ

-- the hours of the day that a block stands in; one that stands in none may say any hour of the longest
abbrev pub hours_around : Expected → ℕ
hours_around Any = LONGEST_DAY
hours_around (Says hour hours) = hours

abbrev pub form_of : Parts → Verdict
form_of p = form_in p.da p.rt p.n

abbrev pub range_of : Parts → Expected → Verdict
range_of p expected = range_in (is_hour (hours_around expected) p.hour && p.ahead_in_range) p.da p.rt p.interval_in_range p.n

abbrev pub order_of : Parts → Expected → Verdict
order_of p = order_in p.hour

abbrev pub curves_of : Parts → Verdict
curves_of p = curves_in p.da p.rt

abbrev pub seconds_of : Parts → Verdict
seconds_of p = seconds_in p.seconds p.n

-- the first fault of them stands
abbrev pub fault_of : Parts → Expected → Verdict
fault_of p expected = form_of p then range_of p expected then order_of p expected then curves_of p then seconds_of p
