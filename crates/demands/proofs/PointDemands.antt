-- The demands of request 7, the operating point from the curve, on one page. The point is `point_on c pen`: what an interval with `eop=-` finds on
-- its real-time curve, or none. Demand 3 in the request's wording is on the page of the demands; here is what it is for hours that give `eop`, and
-- for curves that are cut into other steps. PointWitness.antt has small texts that meet the conditions, and shows that demand 3 needs the new one.
use mathlib.Core.Path.{◌≡◌, refl, ap}
use mathlib.Core.Bool.{Bool, true, false}
use mathlib.Core.List.{List}
use mathlib.Core.Logic.{◌↔◌}
use Prim.Native.Nat.{ℕ, ◌+◌, ◌-◌, ◌<◌, ◌≤◌}
use lib.IntN.{ℤ, pos}
use lib.ListN.{length}
use lib.Signed.{◌≤ℤ◌, ◌<ℤ◌}
use Rattle.tariff.specs.declared.Curve.{Curve}
use Rattle.tariff.specs.declared.Hour.{Hour}
use Rattle.tariff.specs.declared.Expected.{Expected}
use Rattle.tariff.specs.declared.Expected.TheVariants.{Any, Says}
use Rattle.tariff.specs.Sheet.{end_of, price_of, begin_of, curve_keeps}
use Rattle.tariff.specs.Curve.{known}
use Rattle.tariff.specs.Point.{point_on}
use Rattle.tariff.specs.Reply.{paid, refused, REACH, POINT, clear, fault}
use Rattle.tariff.specs.Demand.{MustPrice, price_in, PointRefused, FirstPointless, SomePointless, FirstDear, PointsGiven, SamePrices, Lawful, WholeHour, Extends}
use Rattle.tariff.specs.Total.{Pays}
use Rattle.tariff.proofs.PointDemands.{
  the_point_is_the_first_dear_kilowatt,
  any_cutting_gives_the_same_point,
  the_point_lies_on_the_curve,
  a_step_at_pen_is_taken,
  a_dearer_step_is_never_taken,
  a_point_refusal_needs_no_price,
  a_point_refusal_bars_reach,
  given_points_are_shared,
}
use Rattle.lines.specs.Pieces.{piece}
use Rattle.blocks.specs.Block.{block_of, read}
use Rattle.sheet.specs.Settle.{reply_to, row_to, hour_said}
use Rattle.sheet.specs.Apart.{CurvesApart}
use Rattle.sheet.proofs.BlockPoints.{
  block_point_exactly_when_nothing_to_find_it_on,
  block_refused_for_point_exactly_when_some_interval_has_none,
  any_cutting_of_a_block_settles_alike,
}
use Rattle.ledger.specs.Day.{front_of, day_reply}
use Rattle.ledger.specs.Demand.{DaysApart, BothRead, PricedAlike, PricedWhereGiven, one, priced, Recut}
use Rattle.ledger.proofs.DayPoints.{
  point_of_an_hour_exactly_when_nothing_to_find_it_on,
  an_hour_is_refused_for_point_exactly_when_some_interval_has_none,
  an_interval_without_its_point_bars_reach_in_a_day,
  any_cutting_of_a_day_settles_alike,
}
use Rattle.answers.specs.Answers.{refusal_text, answer_text}
use Rattle.printed.specs.Printed.{header_end, contributions_of, hour_text, day_text}
use Rattle.printed.proofs.Texts.{printed_alike}
use Rattle.demands.proofs.Printed.{lent, same_answer}
use Rattle.demands.proofs.Demands.{
  only_those_prices_matter,
  such_blocks_are_printed_alike,
  such_days_are_printed_alike,
  adding_curve_never_moves_a_cent,
  adding_curve_changes_no_byte_of_an_hour,
  adding_curve_to_a_day_never_moves_a_cent,
}

-- ==== The point

-- It is the first kilowatt, from the curve's start on, that costs more than `pen` or has no price: so it speaks of no steps.
pub a_point_is_the_first_dear_kilowatt :
    (c : Curve)
    → curve_keeps c ≡ true
    → 0 < c.n
    → (pen E : ℤ)
    → (point_on c pen ≡ known E) ↔ FirstDear c pen E
a_point_is_the_first_dear_kilowatt = the_point_is_the_first_dear_kilowatt

-- Any cutting of a curve gives the same point.
pub any_cutting_of_a_curve_gives_the_same_point :
    (c d : Curve)
    → curve_keeps c ≡ true
    → curve_keeps d ≡ true
    → SamePrices c d
    → (pen : ℤ)
    → point_on c pen ≡ point_on d pen
any_cutting_of_a_curve_gives_the_same_point = any_cutting_gives_the_same_point

-- It lies between the curve's start and its last end.
pub a_point_lies_on_its_curve :
    (c : Curve)
    → curve_keeps c ≡ true
    → (pen E : ℤ)
    → point_on c pen ≡ known E
    → (c.start.0 ≤ℤ E) × (E ≤ℤ end_of c (c.n - 1))
a_point_lies_on_its_curve = the_point_lies_on_the_curve

-- A step is taken where it and every step before it cost no more than `pen`, one at `pen` too; one that costs more never is, nor any behind it.
pub a_cheap_step_behind_cheap_ones_is_taken :
    (c : Curve)
    → curve_keeps c ≡ true
    → (pen E : ℤ)
    → point_on c pen ≡ known E
    → (j : ℕ)
    → j < c.n
    → ((i : ℕ) → i ≤ j → price_of c i ≤ℤ pen)
    → end_of c j ≤ℤ E
a_cheap_step_behind_cheap_ones_is_taken = a_step_at_pen_is_taken

pub no_dear_step_is_taken :
    (c : Curve)
    → curve_keeps c ≡ true
    → (pen E : ℤ)
    → point_on c pen ≡ known E
    → (j : ℕ)
    → j < c.n
    → pen <ℤ price_of c j
    → E ≤ℤ begin_of c j
no_dear_step_is_taken = a_dearer_step_is_never_taken

-- ==== POINT

-- An hour is refused for its point exactly when no check from 1 to 5 refuses it, some eligible interval has `eop=-` over an empty real-time curve,
-- and no derate or reach refusal comes before that interval.
pub refused_for_point_exactly_when_some_interval_finds_none :
    (s : List ℕ) (h : Hour) (is_excluded : Bool) (expected : Expected) (room : ℕ)
    → block_of s ≡ read h
    → ((place : ℕ) × (reply_to (block_of s) is_excluded expected room ≡ refused POINT place)) ↔ (WholeHour h expected × SomePointless h is_excluded)
refused_for_point_exactly_when_some_interval_finds_none = block_refused_for_point_exactly_when_some_interval_has_none

-- So is hour k of a day.
pub refused_for_point_in_a_day_exactly_when_some_interval_finds_none :
    (s : List ℕ)
    → (front_of s).fault ≡ clear
    → (k : ℕ) (h : Hour)
    → block_of (piece k (front_of s).body) ≡ read h
    → ((place : ℕ) × (day_reply (front_of s) k ≡ refused POINT place))
    ↔ (WholeHour h (Says (pos k) (front_of s).hours) × SomePointless h ((front_of s).is_excluded k))
refused_for_point_in_a_day_exactly_when_some_interval_finds_none s = an_hour_is_refused_for_point_exactly_when_some_interval_has_none (front_of s) refl

-- Its place is the first such interval, from 1.
pub point_exactly_when_an_interval_finds_none :
    (s : List ℕ) (h : Hour) (is_excluded : Bool) (expected : Expected) (room i : ℕ)
    → block_of s ≡ read h
    → (reply_to (block_of s) is_excluded expected room ≡ refused POINT (i + 1)) ↔ (WholeHour h expected × FirstPointless h is_excluded i)
point_exactly_when_an_interval_finds_none = block_point_exactly_when_nothing_to_find_it_on

-- So in a day.
pub point_in_a_day_exactly_when_an_interval_finds_none :
    (s : List ℕ)
    → (front_of s).fault ≡ clear
    → (k : ℕ) (h : Hour)
    → block_of (piece k (front_of s).body) ≡ read h
    → (i : ℕ)
    → (day_reply (front_of s) k ≡ refused POINT (i + 1)) ↔ (WholeHour h (Says (pos k) (front_of s).hours) × FirstPointless h ((front_of s).is_excluded k) i)
point_in_a_day_exactly_when_an_interval_finds_none s = point_of_an_hour_exactly_when_nothing_to_find_it_on (front_of s) refl

-- `hour` then prints its number and its place, and nothing else.
pub an_interval_without_its_point_is_printed :
    (s : List ℕ) (h : Hour) (i : ℕ)
    → block_of s ≡ read h
    → WholeHour h Any
    → FirstPointless h false i
    → hour_text s ≡ refusal_text (fault POINT (i + 1))
unfolding hour_text
an_interval_without_its_point_is_printed s h i x whole first =
    ap (answer_text (hour_said (block_of s)) (contributions_of (block_of s))) ((point_exactly_when_an_interval_finds_none s h false Any 30 i x).1 (whole, first))

-- Such an interval needs no prices, and bars REACH from there on.
pub an_interval_without_its_point_needs_no_price :
    (h : Hour) (is_excluded : Bool) (i : ℕ)
    → PointRefused h is_excluded i
    → (k : ℤ)
    → MustPrice h is_excluded i k
    → ⊥
an_interval_without_its_point_needs_no_price = a_point_refusal_needs_no_price

pub an_interval_without_its_point_bars_reach :
    (s : List ℕ) (h : Hour) (is_excluded : Bool) (expected : Expected) (room i j : ℕ)
    → block_of s ≡ read h
    → PointRefused h is_excluded i
    → reply_to (block_of s) is_excluded expected room ≡ refused REACH (j + 1)
    → j < i
an_interval_without_its_point_bars_reach s h is_excluded expected room i j x p e = a_point_refusal_bars_reach h is_excluded expected room i j p (rw x at e)

pub an_interval_without_its_point_bars_reach_in_its_day :
    (s : List ℕ)
    → (front_of s).fault ≡ clear
    → (k : ℕ) (h : Hour)
    → block_of (piece k (front_of s).body) ≡ read h
    → (i j : ℕ)
    → PointRefused h ((front_of s).is_excluded k) i
    → day_reply (front_of s) k ≡ refused REACH (j + 1)
    → j < i
an_interval_without_its_point_bars_reach_in_its_day s = an_interval_without_its_point_bars_reach_in_a_day (front_of s) refl

-- ==== Demand 3 where every eligible interval gives its `eop`: as before request 7, without its condition

module _ (s t : List ℕ) (h g : Hour) (apart : CurvesApart s t) (x : block_of s ≡ read h) (y : block_of t ≡ read g) where
  pub where_eop_is_given_only_those_prices_matter :
      (is_excluded : Bool) (expected : Expected) (row : List ℤ)
      → PointsGiven h is_excluded
      → Lawful h expected
      → Lawful g expected
      → ((i : ℕ) (k : ℤ) → MustPrice h is_excluded i k → price_in h i k ≡ price_in g i k)
      → (reply_to (block_of s) is_excluded expected (length row) ≡ reply_to (block_of t) is_excluded expected (length row)) × (row_to (block_of s) is_excluded expected row ≡ row_to (block_of t) is_excluded expected row)
  where_eop_is_given_only_those_prices_matter is_excluded expected row given f f' =
      only_those_prices_matter s t h g is_excluded expected row apart x y f f' (given_points_are_shared h g is_excluded given)

  pub where_eop_is_given_such_blocks_are_printed_alike :
      PointsGiven h false
      → Lawful h Any
      → Lawful g Any
      → ((i : ℕ) (k : ℤ) → MustPrice h false i k → price_in h i k ≡ price_in g i k)
      → hour_text s ≡ hour_text t
  where_eop_is_given_such_blocks_are_printed_alike given f f' = such_blocks_are_printed_alike s t h g apart x y f f' (given_points_are_shared h g false given)

  pub where_eop_is_given_adding_curve_never_moves_a_cent :
      (is_excluded : Bool) (expected : Expected) (row : List ℤ) (sum cents : ℤ)
      → PointsGiven h is_excluded
      → Lawful g expected
      → Extends h.da g.da
      → Extends h.rt g.rt
      → reply_to (block_of s) is_excluded expected (length row) ≡ paid sum cents
      → (reply_to (block_of t) is_excluded expected (length row) ≡ paid sum cents) × (row_to (block_of t) is_excluded expected row ≡ row_to (block_of s) is_excluded expected row)
  where_eop_is_given_adding_curve_never_moves_a_cent is_excluded expected row sum cents given f da rt =
      adding_curve_never_moves_a_cent s t h g is_excluded expected row apart x y sum cents f da rt (given_points_are_shared h g is_excluded given)

  pub where_eop_is_given_adding_curve_changes_no_byte :
      PointsGiven h false
      → Lawful g Any
      → Extends h.da g.da
      → Extends h.rt g.rt
      → Pays (reply_to (block_of s) false Any 30)
      → hour_text s ≡ hour_text t
  where_eop_is_given_adding_curve_changes_no_byte given f da rt =
      adding_curve_changes_no_byte_of_an_hour s t h g apart x y f da rt (given_points_are_shared h g false given)

-- And of days.
module _ (s t : List ℕ) (apart : DaysApart (front_of s) (front_of t)) where
  pub where_eop_is_given_such_days_are_printed_alike :
      BothRead (front_of s) (front_of t) (λ k h j. PricedWhereGiven h j ((front_of s).is_excluded k) (Says (pos k) (front_of s).hours))
      → day_text s ≡ day_text t
  where_eop_is_given_such_days_are_printed_alike alike = such_days_are_printed_alike s t apart (λ k u h j x y. shared (alike k u h j x y))
    where
      shared : {h j : Hour} {is_excluded : Bool} {expected : Expected} → PricedWhereGiven h j is_excluded expected → PricedAlike h j is_excluded expected
      shared (one e) = one e
      shared {h} {j} {is_excluded} (priced f f' given prices) = priced f f' (given_points_are_shared h j is_excluded given) prices

  pub where_eop_is_given_adding_curve_to_a_day_never_moves_a_cent :
      ((k : ℕ) → k < (front_of s).hours → Pays (day_reply (front_of s) k))
      → BothRead (front_of s) (front_of t)
      (λ k h j. PointsGiven h ((front_of s).is_excluded k) × Lawful j (Says (pos k) (front_of s).hours) × Extends h.da j.da × Extends h.rt j.rt)
      → day_text s ≡ day_text t
  where_eop_is_given_adding_curve_to_a_day_never_moves_a_cent pays longer =
      adding_curve_to_a_day_never_moves_a_cent s t apart pays
      (λ k u h j x y. let w = longer k u h j x y in (w.1, w.2, w.3, given_points_are_shared h j ((front_of s).is_excluded k) w.0))

-- ==== Demand 3 where the curves are the same, cut into other steps: with `eop=-` or without, and where no check from 1 to 4 refuses either hour
-- with nothing to ask of points or prices

pub any_cutting_has_one_answer :
    (s t : List ℕ) (h g : Hour) (is_excluded : Bool) (expected : Expected) (row : List ℤ)
    → CurvesApart s t
    → block_of s ≡ read h
    → block_of t ≡ read g
    → Lawful h expected
    → Lawful g expected
    → SamePrices h.da g.da
    → SamePrices h.rt g.rt
    → (reply_to (block_of s) is_excluded expected (length row) ≡ reply_to (block_of t) is_excluded expected (length row)) × (row_to (block_of s) is_excluded expected row ≡ row_to (block_of t) is_excluded expected row)
any_cutting_has_one_answer = any_cutting_of_a_block_settles_alike

pub any_cutting_is_printed_alike :
    (s t : List ℕ) (h g : Hour)
    → CurvesApart s t
    → block_of s ≡ read h
    → block_of t ≡ read g
    → Lawful h Any
    → Lawful g Any
    → SamePrices h.da g.da
    → SamePrices h.rt g.rt
    → hour_text s ≡ hour_text t
any_cutting_is_printed_alike s t h g o x y f f' da rt =
    let same = any_cutting_has_one_answer s t h g false Any lent o x y f f' da rt in same_answer s t h g o x y same.0 same.1

pub any_cutting_of_a_day_is_printed_alike :
    (s t : List ℕ)
    → DaysApart (front_of s) (front_of t)
    → BothRead (front_of s) (front_of t) (λ k h j. Recut h j (Says (pos k) (front_of s).hours))
    → day_text s ≡ day_text t
any_cutting_of_a_day_is_printed_alike s t apart cut =
    printed_alike header_end (front_of s) (front_of t) (any_cutting_of_a_day_settles_alike (front_of s) (front_of t) apart cut)
