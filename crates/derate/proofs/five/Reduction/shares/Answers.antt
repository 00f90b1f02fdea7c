-- `Reduction::shares`: what the floors leave of the reduction is handed out by the remainders.
use Rattle.std.proofs.Common.{arith}
use mathlib.Core.Path.{◌≡◌}
use Rattle.tariff.specs.Derate.{share}
use Rattle.derate.specs.Five.{cut_at, cut_five}
use Rattle.derate.proofs.Fives.{rounded_small, rounded_within, shares_small}
use Rattle.derate.proofs.Rounds.{left_few, shares_are}
use Rattle.derate.proofs.five.Reduction.shares.Goals as goal
use Rattle.derate.proofs.five.Reduction.shares.Goals.{After-hand_out}

pub invariant_of-rounded : goal.invariant_of-rounded
invariant_of-rounded c = record { small = grind (arith, rounded_small) }

pub overflow_sub-left : goal.overflow_sub-left
overflow_sub-left c = grind (arith, rounded_within)

pub hand_out-requires : goal.hand_out-requires
hand_out-requires c = grind (arith, left_few)

handed : (c : After-hand_out) → c.hand_out.result ≡ cut_five (share (cut_at c.args.self.potred.kw) c.args.self.redtot.0)
handed c = grind (arith, shares_are)

pub invariant_of-result : goal.invariant_of-result
invariant_of-result c =
    let r = c.args.self in
    record { small = shares_small r.potred.kw r.redtot.0 r.potred.small r.has_room (handed (goal.at.invariant_of-result c).After-hand_out) }

pub returns : goal.returns
returns c = handed (goal.at.returns c).After-hand_out
