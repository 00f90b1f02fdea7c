-- The words of the demands: which kilowatts an eligible interval must price, when each check refuses, and what two hours have in common.
use Rattle.std.specs.Prelude.{◌≡◌, Bool, true, false, ◌&&◌, ℕ, zero, suc, ◌+◌, ◌<◌, ◌≤◌, ℤ, ◌≤ℤ◌, ◌<ℤ◌, None}
use Rattle.exact.specs.Whole.{min_z, max_z}
use Rattle.tariff.specs.declared.Curve.{Curve}
use Rattle.tariff.specs.declared.Hour.{Hour}
use Rattle.tariff.specs.declared.Expected.{Expected}
use Rattle.tariff.specs.declared.Expected.TheVariants.{Says}
use Rattle.tariff.specs.Sheet.{is_hour, curve_in_range, curve_keeps}
use Rattle.tariff.specs.Curve.{Amount, known, none, quote}
use Rattle.tariff.specs.Reply.{clear}
use Rattle.tariff.specs.Eligible.{lags}
use Rattle.tariff.specs.Derate.{exceeds_room, reduced}
use Rattle.tariff.specs.Point.{point_on, point_of}
use Rattle.tariff.specs.Contributions.{curve_in, lower_in, limit_in}
use Rattle.tariff.specs.Checks.{Parts, hours_around, form_of, range_of, order_of, curves_of, seconds_of}
use Rattle.tariff.specs.Outcome.{Outcome, first_stop}
use Rattle.tariff.specs.Hour.{interval, parts_of, outcome_at}

-- kilowatt k lies between a and b, whichever is the greater
pub record Between (a b k : ℤ) : Type 0 where
  pub low : min_z a b ≤ℤ k
  pub high : k <ℤ max_z a b

-- interval i is one of an hour that is not excluded, and does not lag
pub record IsEligible (h : Hour) (is_excluded : Bool) (i : ℕ) : Type 0 where
  pub counted : i < h.n
  pub not_excluded : is_excluded ≡ false
  pub not_lagging : lags (interval h i) ≡ false

-- ---- what an interval asks of the curves

-- interval i is eligible and leaves its operating point to the real-time curve
pub record MustFind (h : Hour) (is_excluded : Bool) (i : ℕ) : Type 0 where
  pub eligible : IsEligible h is_excluded i
  pub not_given : (interval h i).eop ≡ None

-- interval i is eligible, neither POINT nor DERATE refuses it, and kilowatt k lies between D and the limit
pub record MustPrice (h : Hour) (is_excluded : Bool) (i : ℕ) (k : ℤ) : Type 0 where
  pub eligible : IsEligible h is_excluded i
  pub E : ℤ
  pub found : point_of h.rt (interval h i) ≡ known E
  pub no_derate : exceeds_room h.ahead (interval h i) ≡ false
  pub needed : Between (reduced h.ahead (interval h i) 0) (limit_in h.ahead (interval h i) E) k

-- the price of kilowatt k on the curve that interval i is settled by
abbrev pub price_in : Hour → ℕ → ℤ → Amount
price_in h i k = quote (curve_in (lower_in h.ahead (interval h i)) h.da h.rt) k

-- ---- when each of the checks 10, 6 and 7 refuses interval i

-- POINT: it must find its operating point, and the real-time curve is empty
pub record PointRefused (h : Hour) (is_excluded : Bool) (i : ℕ) : Type 0 where
  pub asked : MustFind h is_excluded i
  pub empty : h.rt.n ≡ 0

-- DERATE: it is eligible, has its operating point, and its reduction exceeds the room for it
pub record DerateRefused (h : Hour) (is_excluded : Bool) (i : ℕ) : Type 0 where
  pub eligible : IsEligible h is_excluded i
  pub E : ℤ
  pub found : point_of h.rt (interval h i) ≡ known E
  pub exceeded : exceeds_room h.ahead (interval h i) ≡ true

-- REACH: a kilowatt that it must price has no price
pub record Unpriced (h : Hour) (is_excluded : Bool) (i : ℕ) : Type 0 where
  pub kilowatt : ℤ
  pub needed : MustPrice h is_excluded i kilowatt
  pub missing : price_in h i kilowatt ≡ none

-- ---- the first interval that one of them refuses stops the hour. Each of them excludes the others in its own interval

-- one of three checks refuses interval i, and none of them an interval before it
pub record FirstOf (This Second Third : ℕ → Type 0) (i : ℕ) : Type 0 where
  pub here : This i
  pub first : (j : ℕ) → j < i → This j → ⊥
  pub no_second_before : (j : ℕ) → j < i → Second j → ⊥
  pub no_third_before : (j : ℕ) → j < i → Third j → ⊥

-- one of three checks refuses some interval, and neither of the two others one before it
pub record SomeOf (This Second Third : ℕ → Type 0) : Type 0 where
  pub at : ℕ
  pub here : This at
  pub no_second_before : (j : ℕ) → j < at → Second j → ⊥
  pub no_third_before : (j : ℕ) → j < at → Third j → ⊥

-- REACH: no DERATE and no POINT comes first
abbrev pub FirstUnpriced : Hour → Bool → ℕ → Type 0
FirstUnpriced h is_excluded = FirstOf (Unpriced h is_excluded) (DerateRefused h is_excluded) (PointRefused h is_excluded)

abbrev pub SomeUnpriced : Hour → Bool → Type 0
SomeUnpriced h is_excluded = SomeOf (Unpriced h is_excluded) (DerateRefused h is_excluded) (PointRefused h is_excluded)

-- DERATE: no REACH and no POINT comes first
abbrev pub FirstExceeded : Hour → Bool → ℕ → Type 0
FirstExceeded h is_excluded = FirstOf (DerateRefused h is_excluded) (Unpriced h is_excluded) (PointRefused h is_excluded)

abbrev pub SomeExceeded : Hour → Bool → Type 0
SomeExceeded h is_excluded = SomeOf (DerateRefused h is_excluded) (Unpriced h is_excluded) (PointRefused h is_excluded)

-- POINT: no REACH and no DERATE comes first
abbrev pub FirstPointless : Hour → Bool → ℕ → Type 0
FirstPointless h is_excluded = FirstOf (PointRefused h is_excluded) (Unpriced h is_excluded) (DerateRefused h is_excluded)

abbrev pub SomePointless : Hour → Bool → Type 0
SomePointless h is_excluded = SomeOf (PointRefused h is_excluded) (Unpriced h is_excluded) (DerateRefused h is_excluded)

-- ---- the lines of a block of any kind of hour: 1 has the hour and the day-ahead schedules, 2 and 3 the two curves, i + 4 interval i. There is no line 0

-- a line's numbers are in their ranges
abbrev pub line_in_range : Parts → Expected → ℕ → Bool
line_in_range p expected zero = true
line_in_range p expected (suc zero) = is_hour (hours_around expected) p.hour && p.ahead_in_range
line_in_range p expected (suc (suc zero)) = curve_in_range p.da
line_in_range p expected (suc (suc (suc zero))) = curve_in_range p.rt
line_in_range p expected (suc (suc (suc (suc i)))) = p.interval_in_range i

-- a line breaks no rule of a curve
abbrev pub line_keeps : Parts → ℕ → Bool
line_keeps p zero = true
line_keeps p (suc zero) = true
line_keeps p (suc (suc zero)) = curve_keeps p.da
line_keeps p (suc (suc (suc zero))) = curve_keeps p.rt
line_keeps p (suc (suc (suc (suc i)))) = true

-- of the lines 1 to `last`, `line` is the first that fails the test
pub record FirstLine (test : ℕ → Bool) (last line : ℕ) : Type 0 where
  pub counted : line ≤ last
  pub fails : test line ≡ false
  pub first : (j : ℕ) → j < line → test j ≡ true

-- `line` is the first with a number outside its range: a block has three lines and one for each interval
abbrev pub FirstOutOfRange : Parts → Expected → ℕ → Type 0
FirstOutOfRange p expected = FirstLine (line_in_range p expected) (p.n + 3)

-- `line`, 2 or 3, is the first whose curve breaks a rule
abbrev pub FirstCurveBroken : Parts → ℕ → Type 0
FirstCurveBroken p = FirstLine (line_keeps p) 3

-- an hour is expected, and the block says another
pub record SaysAnotherHour (said : ℤ) (expected : Expected) : Type 0 where
  pub hour : ℤ
  pub hours : ℕ
  pub asked : expected ≡ Says hour hours
  pub other : said ≡ hour → ⊥

-- ---- checks that find no fault, of any kind of hour

-- form, ranges, order and curves are as they must be
pub record LawfulBlock (p : Parts) (expected : Expected) : Type 0 where
  pub form : form_of p ≡ clear
  pub range : range_of p expected ≡ clear
  pub order : order_of p expected ≡ clear
  pub curves : curves_of p ≡ clear

-- and the seconds make a whole hour: no check over the block refuses
pub record WholeBlock (p : Parts) (expected : Expected) : Type 0 where
  pub lawful : LawfulBlock p expected
  pub seconds : seconds_of p ≡ clear

-- no check refuses: none over the block, none in any interval, and the lent row has an entry for each interval
pub record PassesAll (p : Parts) (outcome : ℕ → Outcome) (expected : Expected) (room : ℕ) : Type 0 where
  pub whole : WholeBlock p expected
  pub intervals : first_stop outcome p.n ≡ clear
  pub fits : p.n ≤ room

-- a generator's
abbrev pub Lawful : Hour → Expected → Type 0
Lawful h = LawfulBlock (parts_of h)

abbrev pub WholeHour : Hour → Expected → Type 0
WholeHour h = WholeBlock (parts_of h)

abbrev pub Passes : Hour → (is_excluded : Bool) → Expected → (room : ℕ) → Type 0
Passes h is_excluded = PassesAll (parts_of h) (outcome_at h is_excluded)

-- ---- two hours, and two curves

-- two hours alike in all but their curves
pub record Alike (h g : Hour) : Type 0 where
  pub hour : h.hour ≡ g.hour
  pub ahead : h.ahead ≡ g.ahead
  pub n : h.n ≡ g.n
  pub iv : h.iv ≡ g.iv

-- in each interval that must find its operating point, both hours have one and the same, or neither has one
abbrev pub SamePoints : (h g : Hour) → (is_excluded : Bool) → Type 0
SamePoints h g is_excluded = (i : ℕ) → MustFind h is_excluded i → point_on h.rt (interval h i).pen.0 ≡ point_on g.rt (interval h i).pen.0

-- each eligible interval gives its own: then nothing is asked of the hours' points
abbrev pub PointsGiven : Hour → (is_excluded : Bool) → Type 0
PointsGiven h is_excluded = (i : ℕ) → MustFind h is_excluded i → ⊥

-- E is the first kilowatt, from the curve's start on, that costs more than `pen` or has no price
pub record FirstDear (c : Curve) (pen E : ℤ) : Type 0 where
  pub from : c.start.0 ≤ℤ E
  pub cheap : (k : ℤ) → c.start.0 ≤ℤ k → k <ℤ E → (p : ℤ) × (quote c k ≡ known p) × (p ≤ℤ pen)
  pub dear : (p : ℤ) → quote c E ≡ known p → pen <ℤ p

-- two curves give every kilowatt the same price, or none: one curve, however it is cut into steps
pub record SamePrices (c d : Curve) : Type 0 where
  pub each : (k : ℤ) → quote c k ≡ quote d k

-- d has every price that c has, and perhaps more
pub record Extends (c d : Curve) : Type 0 where
  pub keeps : (k p : ℤ) → quote c k ≡ known p → quote d k ≡ known p
