-- `prepare::capped_output` caps the output at the schedule and `co`, where the schedule is above 0.
use mathlib.Core.Path.{sym, ◌∙◌}
use Rattle.intervals.proofs.prepare.capped_output.Goals as goal

pub returns-then-below : goal.returns-then-below
returns-then-below c =
    rw (sym c.below.ensures ∙ c.if-below.true, c.kw_min.ensures, c.kw_plus.ensures)

pub returns-else-below : goal.returns-else-below
returns-else-below c = rw (sym c.below.ensures ∙ c.if-below.false)
