-- `curtailed::order_fault` meets its contract: a block says its place, or is refused.
use mathlib.Core.Path.{◌≡◌, sym, ◌∙◌, ap}
use lib.IntN.{ℤ, pos}
use Rattle.exact.specs.Whole.{eq_z}
use Rattle.tariff.specs.Import.{import_order}
use Rattle.exact.proofs.Calls.{handed}
use Rattle.checks.proofs.curtailed.order_fault.Goals as goal
use Rattle.checks.proofs.curtailed.order_fault.Goals.{After-is_place}

-- the call's answer, of the number that the hour's bits stand for
answer : (c : After-is_place) → eq_z c.args.h.hour (pos c.args.k) ≡ c.is_place.result
answer c =
    sym (c.is_place.ensures ∙ ap (λ (z : ℤ). eq_z z (pos c.args.k)) (handed c.args.h.hour c.struct_told-1.given.0.1))

pub returns-then-is_place : goal.returns-then-is_place
unfolding import_order
returns-then-is_place c = rw (answer (goal.at.returns-then-is_place c).After-is_place ∙ c.if-is_place.true)

pub returns-else-is_place : goal.returns-else-is_place
unfolding import_order
returns-else-is_place c = rw (answer (goal.at.returns-else-is_place c).After-is_place ∙ c.if-is_place.false)
