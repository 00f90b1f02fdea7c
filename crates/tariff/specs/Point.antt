-- Request 7, "Operating point from the curve": what `eop=-` leaves to the real-time curve and `pen`.
use Rattle.tariff.specs.Units.{MaybeKw}
use Rattle.std.specs.Prelude.{if◌then◌else◌, ℕ, zero, suc, ◌+◌, eqb, ℤ, None, Some}
use Rattle.std.specs.Int.Signed.{le_z}
use Rattle.tariff.specs.declared.Curve.{Curve}
use Rattle.tariff.specs.declared.Interval.{Interval}
use Rattle.tariff.specs.Sheet.{price_of, begin_of}
use Rattle.tariff.specs.Curve.{Amount, known, none}

-- of the `left` steps from step j on, the first that costs more than `pen`; where none does, the step behind them
unfoldable pub first_dearer : (prices : ℕ → ℤ) → (pen : ℤ) → (j left : ℕ) → ℕ
first_dearer prices pen j zero = j
first_dearer prices pen j (suc left) = if le_z (prices j) pen then first_dearer prices pen (j + 1) left else j

-- the steps before that one are taken: each of them, and every step before it, costs no more than `pen`. The point is the end of the last of
-- them, and the curve's start where the first step costs more. A curve without steps has no point
unfoldable pub point_on : Curve → (pen : ℤ) → Amount
point_on c pen = if eqb c.n 0 then none else known (begin_of c (first_dearer (price_of c) pen 0 c.n))

-- E: `eop` where the sheet gives it
abbrev pub point_by : MaybeKw → Amount → Amount
point_by (Some eop) found = known eop.0
point_by None found = found

abbrev pub point_of : (rt : Curve) → Interval → Amount
point_of rt v = point_by v.eop (point_on rt v.pen.0)
