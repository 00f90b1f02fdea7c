-- `walk::run_on` goes on to the step's end, or to `high`, where the step ends above the run; nothing on the way is too large.
use mathlib.Core.Path.{◌≡◌, sym, ◌∙◌}
use Rattle.exact.specs.Whole.{min_z}
use Rattle.exact.proofs.Range.{within_min}
use Rattle.intervals.proofs.Scans.{min_swap, runs_on}
use Rattle.intervals.proofs.walk.run_on.Goals as goal

pub cost_plus-requires : goal.cost_plus-requires
cost_plus-requires c =
    let w = c.requires in
    (w.0, w.1, rw c.kw_min-up.ensures (search (within_min, w.2, w.3)), w.4, w.5)

-- the lesser of the step's end and `high` is one, whichever is named first
pub returns-then-below : goal.returns-then-below
returns-then-below c =
    let s = c.args in
    let lesser : c.kw_min-up.result.0 ≡ min_z s.e.0 s.high.0 = search (min_swap, c.kw_min-up.ensures) in
    runs_on s.run s.high.0 s.e.0 s.p.0 s.s.0 (sym c.below.ensures ∙ c.if-below.true) lesser c.cost_plus.ensures

pub returns-else-below : goal.returns-else-below
returns-else-below c = rw (sym c.below.ensures ∙ c.if-below.false)
