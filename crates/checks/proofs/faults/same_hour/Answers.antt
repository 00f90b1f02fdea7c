-- `faults::same_hour` meets its contract: two numbers are the same when their bits are.
use Rattle.exact.proofs.Bits.{eq_is}
use Rattle.checks.proofs.faults.same_hour.Goals as goal

pub returns : goal.returns
returns c = eq_is c.args.a c.args.b c.ranges.a.sfits c.ranges.b.sfits
