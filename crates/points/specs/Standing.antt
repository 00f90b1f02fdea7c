-- An interval before its derate: it lags, it has no operating point, or it has one.
use Rattle.std.specs.Prelude.{if◌then◌else◌, leb, ℤ, None, Some}
use Rattle.tariff.specs.declared.Curve.{Curve}
use Rattle.tariff.specs.declared.Interval.{Interval}
use Rattle.tariff.specs.Units.{kw, MaybeKw}
use Rattle.tariff.specs.Curve.{Amount, known, none}
use Rattle.tariff.specs.Eligible.{lags}
use Rattle.tariff.specs.Point.{point_on, point_by}
use Rattle.points.specs.declared.Standing.{Standing}
use Rattle.points.specs.declared.Standing.TheVariants.{Lags, Pointless, At}

-- the point that a curve has; one with more steps than a block can have is asked for none, since its hour is refused for FORM
unfoldable pub point_found : Curve → (pen : ℤ) → Amount
point_found c pen = if leb c.n 12 then point_on c pen else none

-- a point as the code holds it
abbrev pub to_maybe : Amount → MaybeKw
to_maybe (known E) = Some (kw E)
to_maybe none = None

-- where an interval stands that does not lag
abbrev pub standing_by : Amount → Standing
standing_by (known E) = At (kw E)
standing_by none = Pointless

unfoldable pub standing_of : (rt : Curve) → Interval → Standing
standing_of rt v = if lags v then Lags else standing_by (point_by v.eop (point_found rt v.pen.0))
