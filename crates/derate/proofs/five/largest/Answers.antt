use Rattle.derate.proofs.Searches.{leads_all}
use Rattle.derate.proofs.five.largest.Goals as goal

pub returns : goal.returns
returns c = leads_all _ _ c.loop-j.invariant c.loop-j-test.false c.requires
