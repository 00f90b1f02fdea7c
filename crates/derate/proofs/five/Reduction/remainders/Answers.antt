-- `Reduction::remainders`: each is what the product leaves over.
use Rattle.std.proofs.Common.{rules, arith}
use Rattle.tariff.specs.Derate.{remainder}
use Rattle.derate.specs.Five.{cut_at}
use Rattle.derate.proofs.Fives.{cuts_same}
use Rattle.derate.proofs.five.Reduction.remainders.Goals as goal

pub returns : goal.returns
unfolding remainder
returns c = cuts_same (remainder (cut_at c.args.self.potred.kw) c.args.self.redtot.0) (search rules) (λ j u. grind arith)
