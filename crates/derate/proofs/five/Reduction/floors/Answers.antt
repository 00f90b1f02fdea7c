-- `Reduction::floors`: each part is the product over the room, and no more than its potential.
use Rattle.std.proofs.Common.{rules, arith}
use Rattle.tariff.specs.Derate.{floor_of}
use Rattle.derate.specs.Five.{cut_at}
use Rattle.derate.proofs.Fives.{cuts_same}
use Rattle.derate.proofs.five.Reduction.floors.Goals as goal

pub returns : goal.returns
unfolding floor_of
returns c = cuts_same (floor_of (cut_at c.args.self.potred.kw) c.args.self.redtot.0) (search rules) (λ j u. grind arith)
