-- Operating points, computed: the curves of samples/hour/point.txt, which docs/answers.md works by hand, and the edges of the request's words.
use Rattle.std.specs.Prelude.{◌≡◌, refl, ◌∷◌, ℤ, pos, neg_ℤ, replicate, None, Some}
use Rattle.tariff.specs.declared.Curve.{Curve}
use Rattle.tariff.specs.Units.{kw, price}
use Rattle.tariff.specs.Curve.{Amount, known, none}
use Rattle.tariff.specs.Point.{first_dearer, point_on, point_by}

-- three steps from `start` on
abbrev three_steps : (start to at to' at' to'' at'' : ℤ) → Curve
three_steps start to at to' at' to'' at'' =
    record {
      start = kw start;
      n = 3;
      to = kw to ∷ kw to' ∷ kw to'' ∷ replicate 9 (kw (pos 0));
      at = price at ∷ price at' ∷ price at'' ∷ replicate 9 (price (pos 0));
    }

-- its first step is dearer than its second, as a minimum generation block may be
abbrev plant : Curve
plant = three_steps (pos 0) (pos 40000) (pos 2500) (pos 90000) (pos 2000) (pos 120000) (pos 4000)

-- it starts below 0, as a storage unit's does
abbrev storage : Curve
storage = three_steps (neg_ℤ (pos 50000)) (neg_ℤ (pos 20000)) (neg_ℤ (pos 100)) (pos 0) (pos 1500) (pos 30000) (pos 3000)

abbrev no_steps : Curve
no_steps = record { start = kw (pos 0); n = 0; to = replicate 12 (kw (pos 0)); at = replicate 12 (price (pos 0)) }

-- what a proof by computation opens
opened : Curve → ℤ → Amount
unfolding first_dearer point_on
opened = point_on

-- a step at `pen` is taken, and one that costs a cent more is not
at_its_price : (point_on plant (pos 4000) ≡ known (pos 120000)) × (point_on plant (pos 3999) ≡ known (pos 90000))
unfolding opened
at_its_price = (refl, refl)

-- where the first step costs more, none behind it is taken, however cheap: the point is the curve's start
dear_first_step : (point_on plant (pos 2499) ≡ known (pos 0)) × (point_on storage (neg_ℤ (pos 101)) ≡ known (neg_ℤ (pos 50000)))
unfolding opened
dear_first_step = (refl, refl)

-- a point may lie below 0, or at 0 between two steps
below_zero : (point_on storage (neg_ℤ (pos 100)) ≡ known (neg_ℤ (pos 20000))) × (point_on storage (pos 2999) ≡ known (pos 0))
unfolding opened
below_zero = (refl, refl)

-- past the last end there is no point, whatever `pen` is
last_end : point_on plant (pos 1000000) ≡ known (pos 120000)
unfolding opened
last_end = refl

-- a curve without steps has no point, and is not asked where `eop` is given
without_steps : (point_on no_steps (pos 5000) ≡ none)
    × (point_by None (point_on no_steps (pos 5000)) ≡ none)
    × (point_by (Some (kw (pos 7))) (point_on no_steps (pos 5000)) ≡ known (pos 7))
unfolding opened
without_steps = (refl, refl, refl)
