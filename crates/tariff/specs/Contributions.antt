-- "Contributions (25.3.1, 25.3.4)": energy by its lower or upper branch, reserves, regulation, movement.
use Rattle.std.specs.Prelude.{if◌then◌else◌, Bool, ◌&&◌, ◌||◌, ℤ, pos, ◌+ℤ◌, ◌-ℤ◌, ◌*ℤ◌}
use Rattle.std.specs.Int.Signed.{lt_z, le_z}
use Rattle.exact.specs.Whole.{min_z, max_z, eq_z}
use Rattle.tariff.specs.declared.Curve.{Curve}
use Rattle.tariff.specs.declared.DayAhead.{DayAhead}
use Rattle.tariff.specs.declared.Interval.{Interval}
use Rattle.tariff.specs.Units.{grains_of, moved_grains}
use Rattle.tariff.specs.Curve.{Amount, change, integral}
use Rattle.tariff.specs.Derate.{reduced}

-- ---- energy: D is day-ahead energy after the derate, R real-time energy, E the operating point (Point.antt), and A the capped `ae`

-- A is capped at R + `co` when R > 0
abbrev pub capped : (R ae co : ℤ) → ℤ
capped R ae co = if lt_z (pos 0) R then min_z ae (R +ℤ co) else ae

-- D > 0 and R < D, or D < 0 and R > D
abbrev pub is_lower : (D R : ℤ) → Bool
is_lower D R = (lt_z (pos 0) D && lt_z R D) || (lt_z D (pos 0) && lt_z D R)

unfoldable pub lower_limit : (D R E A : ℤ) → ℤ
lower_limit D R E A =
    if lt_z (pos 0) D
    then
    (if lt_z R E
    then max_z (min_z (max_z R (min_z A E)) D) (pos 0)
    else max_z (min_z (min_z R (max_z A E)) D) (pos 0))
    else min_z (min_z (max_z (max_z D A) E) R) (pos 0)

-- D > 0, or D = 0 and R > 0; D < 0, or D = 0 and R < 0
abbrev pub is_inject : (D R : ℤ) → Bool
is_inject D R = lt_z (pos 0) D || (eq_z D (pos 0) && lt_z (pos 0) R)

abbrev pub is_withdraw : (D R : ℤ) → Bool
is_withdraw D R = lt_z D (pos 0) || (eq_z D (pos 0) && lt_z R (pos 0))

unfoldable pub upper_limit : (D R E A : ℤ) → ℤ
upper_limit D R E A =
    if is_inject D R
    then (if le_z E R && le_z D E then min_z R (max_z A E) else max_z R (min_z A E))
    else (if is_withdraw D R then min_z R (max_z A E) else pos 0)

-- the branch that is taken, lower or upper, has its limit, LL or UL, and its curve
abbrev pub limit_of : (D R E A : ℤ) → ℤ
limit_of D R E A = if is_lower D R then lower_limit D R E A else upper_limit D R E A

abbrev pub curve_in : (lower : Bool) → (da rt : Curve) → Curve
curve_in lower da rt = if lower then da else rt

abbrev pub lower_grains : (D LL pen s : ℤ) → ℤ → ℤ
lower_grains D LL pen s cost = ((D -ℤ LL) *ℤ pen -ℤ cost) *ℤ s

abbrev pub upper_grains : (D UL pen s : ℤ) → ℤ → ℤ
upper_grains D UL pen s cost = min_z (((D -ℤ UL) *ℤ pen +ℤ cost) *ℤ s) (pos 0)

-- by the branch: the lower one makes grains of what the day-ahead curve costs from its limit to D, the upper one of what the real-time
-- curve costs from D to its limit; none where a kilowatt to be priced has no price
unfoldable pub energy_by : (lower : Bool) → (da rt : Curve) → (D limit : ℤ) → (below above : ℤ → ℤ) → Amount
energy_by lower da rt D limit below above = if lower then change below (integral da limit D) else change above (integral rt D limit)

abbrev pub energy : (lower : Bool) → (da rt : Curve) → (D limit pen s : ℤ) → Amount
energy lower da rt D limit pen s = energy_by lower da rt D limit (lower_grains D limit pen s) (upper_grains D limit pen s)

-- ---- reserves, regulation and movement: d and r are the day-ahead and the real-time schedule

unfoldable pub reserve : (d r price bid s : ℤ) → ℤ
reserve d r price bid s = if lt_z r d then grains_of (d -ℤ r) (price -ℤ bid) s else grains_of (d -ℤ r) price s

unfoldable pub regulation : (d r price bid liveBid s : ℤ) → ℤ
regulation d r price bid liveBid s =
    if lt_z r d then grains_of (d -ℤ r) (price -ℤ bid) s else grains_of (d -ℤ r) (max_z (price -ℤ liveBid) (pos 0)) s

unfoldable pub movement : (mv pmv bmv : ℤ) → ℤ
movement mv pmv bmv = moved_grains mv (max_z (pmv -ℤ bmv) (pos 0))

-- ---- an interval: the schedules are the reduced ones, the bids those of line 1

-- A
abbrev pub capped_of : Interval → ℤ
capped_of v = capped v.en.0 v.ae.0 v.co.0

-- the branch that it takes, and that branch's limit
abbrev pub lower_in : DayAhead → Interval → Bool
lower_in a v = is_lower (reduced a v 0) v.en.0

abbrev pub limit_in : DayAhead → Interval → (E : ℤ) → ℤ
limit_in a v E = limit_of (reduced a v 0) v.en.0 E (capped_of v)

abbrev pub energy_of : Curve → Curve → DayAhead → Interval → (E : ℤ) → Amount
energy_of da rt a v E = energy (lower_in a v) da rt (reduced a v 0) (limit_in a v E) v.pen.0 v.s.0

unfoldable pub other_than_energy : DayAhead → Interval → ℤ
other_than_energy a v =
    regulation (reduced a v 1) v.reg.0 v.preg.0 a.breg.0 v.breg.0 v.s.0
    +ℤ reserve (reduced a v 2) v.r1.0 v.p1.0 a.b1.0 v.s.0
    +ℤ reserve (reduced a v 3) v.r2.0 v.p2.0 a.b2.0 v.s.0
    +ℤ reserve (reduced a v 4) v.r3.0 v.p3.0 a.b3.0 v.s.0
    -ℤ movement v.mv.0 v.pmv.0 v.bmv.0
