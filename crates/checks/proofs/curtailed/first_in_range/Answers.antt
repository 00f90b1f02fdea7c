-- `first_in_range` joins the tests of line 1.
use mathlib.Core.Path.{◌≡◌, ◌∙◌, ap}
use mathlib.Core.Bool.{◌&&◌}
use Rattle.tariff.specs.Sheet.{is_hour}
use Rattle.exact.proofs.Calls.{handed}
use Rattle.checks.proofs.curtailed.first_in_range.Goals as goal
use Rattle.checks.proofs.curtailed.first_in_range.Goals.{After-is_hour}

-- the hour is handed over by its bits
hour-told : (c : After-is_hour) → c.is_hour.result ≡ is_hour c.args.hours c.args.hour
hour-told c = c.is_hour.ensures ∙ ap (is_hour c.args.hours) (handed c.args.hour c.ranges.hour.sfits)

pub returns : goal.returns
returns c = λ i. hour-told (goal.at.returns c).After-is_hour i && c.is_capacity.ensures i && c.is_price.ensures i
