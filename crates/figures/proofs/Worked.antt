-- The worked example of section "Programs": its four intervals, each computed once.
use Rattle.std.specs.Prelude.{◌≡◌, refl, pos, neg_ℤ}
use Rattle.exact.specs.Whole.{span, min_z, max_z}
use Rattle.tariff.specs.Curve.{quote_from, quote, sum_up, integral}
use Rattle.tariff.specs.Derate.{exceeds_room, reduced}
use Rattle.tariff.specs.Contributions.{lower_limit, upper_limit, energy_by, reserve, regulation, movement, other_than_energy}
use Rattle.tariff.specs.Hour.{interval, outcome}
use Rattle.tariff.specs.Outcome.{gives}
use Rattle.figures.specs.Sample.{worked}

pub worked_gives :
    (outcome worked (interval worked 0) ≡ gives (pos 27000000000))
    × (outcome worked (interval worked 1) ≡ gives (pos 72900000000))
    × (outcome worked (interval worked 2) ≡ gives (neg_ℤ (pos 9000000000)))
    × (outcome worked (interval worked 3) ≡ gives (pos 0))
unfolding outcome exceeds_room reduced energy_by lower_limit upper_limit min_z max_z integral span sum_up quote quote_from other_than_energy regulation reserve movement
worked_gives = (refl, refl, refl, refl)
