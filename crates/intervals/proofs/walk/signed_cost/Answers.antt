-- `walk::signed_cost` gives the cost, or its negative where the limit is below D.
use mathlib.Core.Path.{sym, ◌∙◌}
use Rattle.intervals.proofs.walk.signed_cost.Goals as goal

pub returns-then-below : goal.returns-then-below
returns-then-below c = rw (c.grains_minus.ensures, sym c.below.ensures ∙ c.if-below.true)

pub returns-else-below : goal.returns-else-below
returns-else-below c = rw (sym c.below.ensures ∙ c.if-below.false)
