-- `walk::finish` gives the interval's contribution from the cost of its stretch; no sum on the way is too large.
use Rattle.exact.specs.Whole.{Within}
use Rattle.exact.proofs.Range.{within_lit, within_min, within_zero}
use Rattle.intervals.specs.Task.{finished}
use Rattle.intervals.proofs.Tasks.{energy_within}
use Rattle.intervals.proofs.walk.finish.Goals as goal
use Rattle.intervals.proofs.walk.finish.Goals.{After-energy_part-energy}

energy-fits : (c : After-energy_part-energy) → Within 11600000000000000 c.energy_part-energy.result.0
energy-fits c = rw c.energy_part-energy.ensures (energy_within c.args.t c.args.cost.0 c.requires.0 c.requires.1)

pub grains_plus-requires : goal.grains_plus-requires
grains_plus-requires c = (within_lit tt (energy-fits (goal.at.grains_plus-requires c).After-energy_part-energy), within_lit tt c.requires.0.others)

pub grains_plus-requires-else-t : goal.grains_plus-requires-else-t
grains_plus-requires-else-t c = (
  rw c.loss_or_zero.ensures (within_lit tt (within_min (energy-fits (goal.at.grains_plus-requires-else-t c).After-energy_part-energy) (within_zero 11600000000000000))),
  within_lit tt c.requires.0.others,
)

pub returns-then-t : goal.returns-then-t
unfolding finished
returns-then-t c = rw (c.grains_plus.ensures, c.energy_part-energy.ensures, c.if-t.true)

pub returns-else-t : goal.returns-else-t
unfolding finished
returns-else-t c = rw (c.grains_plus-else-t.ensures, c.loss_or_zero.ensures, c.energy_part-energy.ensures, c.if-t.false)
