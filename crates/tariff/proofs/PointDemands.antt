-- The theorems of request 7: the operating point on a curve, when an interval has none, and demand 3 where the curve is asked for it.
use mathlib.Core.Path.{◌≡◌, refl}
use mathlib.Core.Bool.{Bool, true}
use mathlib.Core.List.{List}
use mathlib.Core.Logic.Iff
use mathlib.Core.Logic.{◌↔◌}
use Prim.Native.Nat.{ℕ, ◌+◌, ◌-◌, ◌<◌, ◌≤◌}
use native.Mathlib.Decide.{dec_lt}
use native.Mathlib.Omega.{arith}
use lib.ListN.{length}
use lib.IntN.{ℤ}
use lib.Signed.{◌≤ℤ◌, ◌<ℤ◌}
use Rattle.tariff.specs.declared.Curve.{Curve}
use Rattle.tariff.specs.declared.Hour.{Hour}
use Rattle.tariff.specs.declared.Expected.{Expected}
use Rattle.tariff.specs.Sheet.{end_of, price_of, begin_of, curve_keeps}
use Rattle.tariff.specs.Curve.{known}
use Rattle.tariff.specs.Point.{point_on}
use Rattle.tariff.specs.Reply.{refused, REACH, POINT}
use Rattle.tariff.specs.Hour.{parts_of, reply, row_after}
use Rattle.tariff.specs.Demand.{MustPrice, FirstUnpriced, PointRefused, FirstPointless, SomePointless, FirstDear, SamePoints, PointsGiven, SamePrices, Alike, Lawful, WholeHour}
use Rattle.tariff.proofs.Points.{point_when, point_same, point_between, cheap_taken, dear_left}
use Rattle.tariff.proofs.Alike.{cut_points, cut_prices}
use Rattle.tariff.proofs.Given.{stop_given, some_given}
use Rattle.tariff.proofs.Ordered.{whole_when, generator}
use Rattle.tariff.proofs.ByInterval.{first_pointless, some_pointless}
use Rattle.tariff.proofs.Needed.{point_is_missing}
use Rattle.tariff.proofs.Demands.{only_needed_prices_matter, reach_exactly_when_unpriced}

-- ---- the point

-- The point is the first kilowatt, from the curve's start on, that costs more than `pen` or has no price: so it speaks of no steps.
pub the_point_is_the_first_dear_kilowatt :
    (c : Curve)
    → curve_keeps c ≡ true
    → 0 < c.n
    → (pen E : ℤ)
    → (point_on c pen ≡ known E) ↔ FirstDear c pen E
the_point_is_the_first_dear_kilowatt = point_when

-- Any cutting of a curve gives the same point, or none where it gives none.
pub any_cutting_gives_the_same_point :
    (c d : Curve)
    → curve_keeps c ≡ true
    → curve_keeps d ≡ true
    → SamePrices c d
    → (pen : ℤ)
    → point_on c pen ≡ point_on d pen
any_cutting_gives_the_same_point = point_same

-- It lies between the curve's start and its last end.
pub the_point_lies_on_the_curve :
    (c : Curve)
    → curve_keeps c ≡ true
    → (pen E : ℤ)
    → point_on c pen ≡ known E
    → (c.start.0 ≤ℤ E) × (E ≤ℤ end_of c (c.n - 1))
the_point_lies_on_the_curve = point_between

-- A step is taken where it and every step before it cost no more than `pen`, one at `pen` too.
pub a_step_at_pen_is_taken :
    (c : Curve)
    → curve_keeps c ≡ true
    → (pen E : ℤ)
    → point_on c pen ≡ known E
    → (j : ℕ)
    → j < c.n
    → ((i : ℕ) → i ≤ j → price_of c i ≤ℤ pen)
    → end_of c j ≤ℤ E
a_step_at_pen_is_taken = cheap_taken

-- One that costs more is never taken, nor is any behind it, however cheap.
pub a_dearer_step_is_never_taken :
    (c : Curve)
    → curve_keeps c ≡ true
    → (pen E : ℤ)
    → point_on c pen ≡ known E
    → (j : ℕ)
    → j < c.n
    → pen <ℤ price_of c j
    → E ≤ℤ begin_of c j
a_dearer_step_is_never_taken = dear_left

-- ---- POINT

-- POINT is given exactly when no check from 1 to 5 refuses and an eligible interval has `eop=-` over an empty real-time curve: at the first
-- such interval, and where no DERATE and no REACH comes first.
pub point_exactly_when_nothing_to_find_it_on :
    (h : Hour) (is_excluded : Bool) (expected : Expected) (room i : ℕ)
    → (reply h is_excluded expected room ≡ refused POINT (i + 1)) ↔ (WholeHour h expected × FirstPointless h is_excluded i)
point_exactly_when_nothing_to_find_it_on h is_excluded expected room i =
    Iff.trans (stop_given (generator h is_excluded expected) room POINT refl i) (Iff.and (whole_when (parts_of h) expected) (first_pointless h is_excluded i))

-- So an hour is refused for its point exactly when no check from 1 to 5 refuses it, some eligible interval has `eop=-` over an empty
-- real-time curve, and no derate or reach refusal comes before that interval.
pub refused_for_point_exactly_when_some_interval_has_none :
    (h : Hour) (is_excluded : Bool) (expected : Expected) (room : ℕ)
    → ((place : ℕ) × (reply h is_excluded expected room ≡ refused POINT place)) ↔ (WholeHour h expected × SomePointless h is_excluded)
refused_for_point_exactly_when_some_interval_has_none h is_excluded expected room =
    Iff.trans (some_given (generator h is_excluded expected) room POINT refl) (Iff.and (whole_when (parts_of h) expected) (some_pointless h is_excluded))

-- Such an interval needs no prices.
pub a_point_refusal_needs_no_price :
    (h : Hour) (is_excluded : Bool) (i : ℕ)
    → PointRefused h is_excluded i
    → (k : ℤ)
    → MustPrice h is_excluded i k
    → ⊥
a_point_refusal_needs_no_price h is_excluded i p k m = point_is_missing h is_excluded i p m.E m.found

-- And it bars REACH from there on.
pub a_point_refusal_bars_reach :
    (h : Hour) (is_excluded : Bool) (expected : Expected) (room i j : ℕ)
    → PointRefused h is_excluded i
    → reply h is_excluded expected room ≡ refused REACH (j + 1)
    → j < i
a_point_refusal_bars_reach h is_excluded expected room i j p e =
    let w = ((reach_exactly_when_unpriced h is_excluded expected room j).0 e).1 in
    go w (dec_lt j i) (dec_lt i j)
  where
    go : FirstUnpriced h is_excluded j → Dec (j < i) → Dec (i < j) → j < i
    go w (yes u) v = u
    go w (no u) (yes v) = absurd (w.no_third_before i v p)
    go w (no u) (no v) =
        let same : i ≡ j = omega arith in
        absurd (a_point_refusal_needs_no_price h is_excluded i p w.here.kilowatt (rw (← same) at w.here.needed))

-- ---- demand 3

-- An hour whose eligible intervals all give `eop` shares its points with any other: there demand 3 asks no more than before.
pub given_points_are_shared : (h g : Hour) (is_excluded : Bool) → PointsGiven h is_excluded → SamePoints h g is_excluded
given_points_are_shared h g is_excluded given i m = absurd (given i m)

-- Hours that are alike in all but how their curves are cut into steps have one reply and one row, whether the curve is asked for a point or not.
pub any_cutting_settles_alike :
    (h g : Hour) (is_excluded : Bool) (expected : Expected) (row : List ℤ)
    → Alike h g
    → Lawful h expected
    → Lawful g expected
    → SamePrices h.da g.da
    → SamePrices h.rt g.rt
    → (reply h is_excluded expected (length row) ≡ reply g is_excluded expected (length row)) × (row_after h is_excluded expected row ≡ row_after g is_excluded expected row)
any_cutting_settles_alike h g is_excluded expected row a f f' da rt =
    only_needed_prices_matter h g is_excluded expected row a f f' (cut_points h g is_excluded expected f f' rt) (λ i k m. cut_prices h g a da rt i k)
