-- `block_fault` meets its contract: the checks are asked in their order, and the first fault stands.
use Rattle.tariff.specs.Hour.{interval, parts_of}
use Rattle.tariff.proofs.Ranges.{form_says, range_says, interval_fits}
use Rattle.tariff.proofs.Answers.{found_told}
use Rattle.checks.proofs.block_fault.Goals as goal

pub order_or_curve_fault-requires : goal.order_or_curve_fault-requires
order_or_curve_fault-requires c = let f = form_says (parts_of c.args.h) (found_told c.form_fault.ensures c.in_ok-form_fault.was) in (f.0, f.1)

pub seconds_fault-requires : goal.seconds_fault-requires
seconds_fault-requires c =
    let a = c.args in
    (found_told c.form_fault.ensures c.in_ok-form_fault.was, λ i u. (interval_fits (interval a.h i) ((range_says (parts_of a.h) a.expected (found_told c.range_fault.ensures c.in_ok-range_fault.was)).4 i u)).s)
