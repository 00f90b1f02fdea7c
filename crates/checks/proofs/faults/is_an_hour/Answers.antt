-- `faults::is_an_hour` meets its contract: a number is 3600 when its bits are.
use lib.IntN.{pos}
use lib.Dec.{lit<}
use Rattle.exact.proofs.Bits.{eq_is}
use Rattle.checks.proofs.faults.is_an_hour.Goals as goal

pub returns : goal.returns
returns c = eq_is c.args.s.0 (pos 3600) c.struct_told-1.given.0.1 (lit< tt)
