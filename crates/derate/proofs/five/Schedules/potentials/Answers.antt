-- `Schedules::potentials`: no two powers lie further apart than a cut may be.
use Rattle.std.proofs.Common.{rules, arith, ◌-ℤ◌}
use Rattle.exact.specs.Whole.{over}
use Rattle.derate.specs.Five.{kw_at}
use Rattle.derate.proofs.Fives.{gap_small, cuts_same}
use Rattle.derate.proofs.five.Schedules.potentials.Goals as goal

pub invariant_of-result : goal.invariant_of-result
invariant_of-result c =
    let d = c.args.self in
    let live = c.args.rts in
    record { small = record { small = λ j u. grind (arith, gap_small d.kw live.kw j d.in_range live.in_range u) } }

pub returns : goal.returns
returns c =
    cuts_same (λ j. over (kw_at c.args.self.kw j -ℤ kw_at c.args.rts.kw j)) (search rules) (λ j u. grind arith)
