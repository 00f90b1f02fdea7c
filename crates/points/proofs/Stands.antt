-- Where an interval stands, by its tests.
use mathlib.Core.Path.{◌≡◌, refl, ap}
use Prim.Native.Nat.{◌≤◌}
use Rattle.std.specs.Prelude.{if◌then◌else◌, None, Some}
use Rattle.exact.proofs.Apart.{impossible}
use Rattle.tariff.specs.declared.Curve.{Curve}
use Rattle.tariff.specs.declared.Interval.{Interval}
use Rattle.tariff.specs.declared.Kw.{Kw}
use Rattle.tariff.specs.Units.{kw}
use Rattle.tariff.specs.Curve.{Amount, known, none}
use Rattle.tariff.specs.Eligible.{lags}
use Rattle.tariff.specs.Point.{point_of}
use Rattle.points.specs.declared.Standing.TheVariants.{Lags, Pointless, At}
use Rattle.points.specs.Standing.{to_maybe, standing_by, standing_of}
use Rattle.points.proofs.Taken.{found_known}

-- what the code holds of a point says where its interval stands
pub held_at : (x : Amount) {e : Kw} → to_maybe x ≡ Some e → standing_by x ≡ At e
held_at (known E) {e} q = let same : kw E ≡ e = cc in ap At same
held_at none q = impossible cc

pub held_not : (x : Amount) → to_maybe x ≡ None → standing_by x ≡ Pointless
held_not (known E) q = impossible cc
held_not none q = refl

-- of an hour in form it is document 01's E, where it has one
pub standing_is : (rt : Curve) (v : Interval) → rt.n ≤ 12 → standing_of rt v ≡ (if lags v then Lags else standing_by (point_of rt v))
unfolding standing_of
standing_is rt v u = rw (found_known rt v.pen.0 u)
