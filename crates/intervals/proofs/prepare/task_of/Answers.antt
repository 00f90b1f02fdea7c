-- `prepare::task_of` gives what the interval asks by where it stands: nothing, POINT, or what it asks with its operating point.
use mathlib.Core.Path.{◌≡◌, sym, ap, ◌∙◌}
use Rattle.points.specs.declared.Standing.{Standing}
use Rattle.intervals.specs.Task.{task_of}
use Rattle.intervals.proofs.Tasks.{asked_at, standing_asks}
use Rattle.intervals.proofs.prepare.task_of.Goals as goal
use Rattle.intervals.proofs.prepare.task_of.Goals.{After-standing_of}

-- where the interval is found to stand, there it asks
asks : (c : After-standing_of) {s : Standing} → c.standing_of.result ≡ s
    → asked_at c.args.rt c.args.a c.args.v c.args.place s
    ≡ task_of c.args.rt c.args.a c.args.v c.args.place
asks c e =
    let g = c.args in
    ap (asked_at g.rt g.a g.v g.place) (sym e ∙ c.standing_of.ensures) ∙ standing_asks g.rt g.a g.v g.place c.requires.0

pub returns-in-Lags : goal.returns-in-Lags
returns-in-Lags c = c.idle.ensures ∙ asks (goal.at.returns-in-Lags c).After-standing_of c.in-Lags.is

pub returns-in-Pointless : goal.returns-in-Pointless
returns-in-Pointless c = c.idle-in-Pointless.ensures ∙ asks (goal.at.returns-in-Pointless c).After-standing_of c.in-Pointless.is

pub derated_task-requires : goal.derated_task-requires
derated_task-requires c = (c.requires.1, c.requires.2)

pub returns-in-At : goal.returns-in-At
returns-in-At c = c.derated_task.ensures ∙ asks (goal.at.returns-in-At c).After-standing_of c.in-At.is
