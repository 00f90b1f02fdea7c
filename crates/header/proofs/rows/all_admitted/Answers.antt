use mathlib.Core.Path.{sym, ◌∙◌, ap}
use Rattle.tariff.specs.Eligible.{marked}
use Rattle.tariff.proofs.Tests.{all_not}
use Rattle.header.proofs.rows.all_admitted.Goals as goal

pub returns-then-not-is_marked : goal.returns-then-not-is_marked
returns-then-not-is_marked c =
    let other = ap (marked c.args.admitted) (sym c.from.ensures) ∙ sym c.is_marked.ensures ∙ c.if-not-is_marked.true in
    sym (all_not _ _ _ c.loop-b-test.true other)
