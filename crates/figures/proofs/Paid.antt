-- The worked example of section "Programs": the reply that its four intervals make.
use Rattle.std.specs.Prelude.{◌≡◌, false, pos}
use Rattle.exact.specs.Whole.{sum_to}
use Rattle.tariff.specs.declared.Expected.TheVariants.{Any}
use Rattle.tariff.specs.Units.{cents_of}
use Rattle.tariff.specs.Sheet.{all_to, ahead_in_range, curve_in_range, interval_in_range, curve_keeps}
use Rattle.tariff.specs.Reply.{paid, first_of}
use Rattle.tariff.specs.Checks.{form_in, range_in, order_in, curves_in, seconds_in}
use Rattle.tariff.specs.Hour.{outcome_at, reply}
use Rattle.tariff.specs.Outcome.{first_stop, reply_by, sum_by}
use Rattle.figures.specs.Sample.{worked}
use Rattle.figures.proofs.Worked.{worked_gives}

pub worked_paid : reply worked false Any 30 ≡ paid (pos 90900000000) (pos 25250)
unfolding reply_by form_in range_in ahead_in_range curve_in_range interval_in_range all_to first_of order_in curves_in curve_keeps seconds_in first_stop outcome_at sum_by sum_to cents_of
worked_paid = rw (worked_gives.0, worked_gives.1, worked_gives.2, worked_gives.3)
