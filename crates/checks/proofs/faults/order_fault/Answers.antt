-- `faults::order_fault` meets its contract: a block that has to say an hour says it, or is refused.
use mathlib.Core.Path.{◌≡◌, sym, ◌∙◌}
use Rattle.exact.specs.Whole.{eq_z}
use Rattle.tariff.specs.Checks.{order_in}
use Rattle.exact.proofs.Calls.{handed}
use Rattle.checks.proofs.faults.order_fault.Goals as goal
use Rattle.checks.proofs.faults.order_fault.Goals.{After-same_hour}

pub returns-in-Any : goal.returns-in-Any
unfolding order_in
returns-in-Any c = rw c.in-Any.is

-- the call's answer, of the numbers that its bits stand for
answer : (c : After-same_hour) → c.same_hour.result ≡ eq_z c.args.said c.in-Says.hour
answer c =
    let hour = handed c.in-Says.hour c.in-Says.known_told-1-own.given.0.1 in
    let said = handed c.args.said c.ranges.said.sfits in
    c.same_hour.ensures ∙ (λ i. eq_z (said i) (hour i))

pub returns-then-same_hour : goal.returns-then-same_hour
unfolding order_in
returns-then-same_hour c = rw (c.in-Says.is, sym (answer (goal.at.returns-then-same_hour c).After-same_hour) ∙ c.if-same_hour.true)

pub returns-else-same_hour : goal.returns-else-same_hour
unfolding order_in
returns-else-same_hour c = rw (c.in-Says.is, sym (answer (goal.at.returns-else-same_hour c).After-same_hour) ∙ c.if-same_hour.false)
