-- `walk::run_from` begins at the lower of D and the limit, with nothing priced.
use lib.IntN.{pos}
use Rattle.tariff.specs.Units.{kw, grains}
use Rattle.intervals.proofs.walk.run_from.Goals as goal

pub returns : goal.returns
returns c = λ i. record { at = kw (c.kw_min.ensures i); cost = grains (pos 0) }
