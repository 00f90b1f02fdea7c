-- The claim of the table: what the definitions compute is what the papers print.
use Rattle.std.specs.Prelude.{refl}
use Rattle.std.proofs.Common.{ap}
use Rattle.exact.specs.Whole.{span, min_z, max_z, up_to, sum_to}
use Rattle.tariff.specs.Units.{cents_of}
use Rattle.tariff.specs.Sheet.{all_to, ahead_in_range, curve_in_range, interval_in_range, curve_keeps}
use Rattle.tariff.specs.Curve.{quote_from, quote, sum_up, integral}
use Rattle.tariff.specs.Reply.{first_of}
use Rattle.tariff.specs.Eligible.{some_to, excluded}
use Rattle.tariff.specs.Derate.{floor_of, remainder, left_over, share, exceeds_room, reduced}
use Rattle.tariff.specs.Contributions.{lower_limit, upper_limit, energy_by, reserve, regulation, movement, other_than_energy}
use Rattle.tariff.specs.Checks.{form_in, range_in, order_in, curves_in, seconds_in}
use Rattle.tariff.specs.Hour.{outcome, outcome_at}
use Rattle.tariff.specs.Outcome.{first_stop, reply_by}
use Rattle.figures.specs.Table.{Holds, done, ◌and◌, said, replied, figures}
use Rattle.figures.proofs.Worked.{worked_gives}
use Rattle.figures.proofs.Paid.{worked_paid}

pub figures_hold : Holds figures
unfolding
    outcome exceeds_room reduced energy_by lower_limit upper_limit min_z max_z integral span sum_up quote quote_from other_than_energy regulation reserve movement
    cents_of up_to share floor_of remainder left_over excluded some_to
    reply_by form_in range_in ahead_in_range curve_in_range interval_in_range all_to first_of order_in curves_in curve_keeps seconds_in sum_to first_stop outcome_at
figures_hold =
    ap said worked_gives.0
    and ap said worked_gives.1
    and ap said worked_gives.2
    and ap said worked_gives.3
    and ap replied worked_paid
    and refl and refl and refl and refl and refl and refl and refl and refl and refl and refl and refl and done
