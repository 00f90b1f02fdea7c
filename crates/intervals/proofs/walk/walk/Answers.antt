use mathlib.Core.Path.{sym, ap, ◌∙◌}
use Rattle.intervals.specs.declared.steps.Run.{Run}
use Rattle.intervals.proofs.Scans.{Priced, scan_begins, scan_short, turn_within, scan_goes_on, scan_reaches, cost_nothing}
use Rattle.intervals.specs.Task.{task_at, outcomes_of}
use Rattle.intervals.proofs.Turns.{Asks, asks, turn_stops, turn_unreached, turn_before, turn_goes_on}
use Rattle.intervals.proofs.Walks.{walk_begins, walk_ends}
use Rattle.intervals.proofs.walk.walk.Goals as goal
use Rattle.intervals.proofs.walk.walk.Goals.{After-run_from-run, Joined-below, then-below+else-below-2+else-c-j+then-not-below, else-below}

pub hour-init : goal.hour-init
hour-init c = (c.requires.few, walk_begins _ _)

-- ---- the stretch that interval i asks
asked : (c : After-run_from-run)
    → Asks (outcomes_of c.args.da c.args.rt c.args.tasks) c.args.n c.hour.i (task_at c.args.tasks c.hour.i)
    c.curve_for-c.result c.run_from-run.result.at.0 c.kw_max-high.result.0
asked c =
    asks c.requires c.if-n-i.false c.in_default.is
    c.curve_for-c.ensures (ap (λ (r : Run). r.at.0) c.run_from-run.ensures) c.kw_max-high.ensures

pub scan-init : goal.scan-init
scan-init c =
    scan_begins
    ((asked (goal.at.scan-init c).After-run_from-run).stretch
    (sym c.below.ensures ∙ c.if-below.true)
    (sym c.below-then-below.ensures ∙ c.if-below-2.false))
    (ap (λ (r : Run). r.cost.0) c.run_from-run.ensures)

pub run_on-run-requires : goal.run_on-run-requires
run_on-run-requires c = turn_within c.scan.invariant c.if-c-j.false

pub scan-preserved : goal.scan-preserved
scan-preserved c =
    scan_goes_on c.scan.invariant c.if-c-j.false c.run_on-run.ensures (sym c.below-in-scan.ensures ∙ c.if-not-below.false)

-- ---- where the ways of the scan meet, the stretch is priced
priced : (c : Joined-below)
    → Priced c.curve_for-c.result c.run_from-run.result.at.0 c.kw_max-high.result.0 (task_at c.args.tasks c.hour.i).s.0 c.if-below.run.cost.0
priced c =
    elim c.if-below.branch [
      | then-below+else-below-2+else-c-j+then-not-below w ↦
          scan_reaches w.scan.invariant w.if-c-j.false w.run_on-run.ensures w.run-is (sym w.below-in-scan.ensures ∙ w.if-not-below.true)
      | else-below w ↦
          cost_nothing (sym c.below.ensures ∙ w.if-below.false)
          (ap (λ (r : Run). r.cost.0) w.run-is ∙ ap (λ (r : Run). r.cost.0) c.run_from-run.ensures)
    ]

pub finish-requires : goal.finish-requires
finish-requires c =
    ((asked (goal.at.finish-requires c).After-run_from-run).fits, (priced (goal.at.finish-requires c).Joined-below).size)

pub hour-preserved : goal.hour-preserved
hour-preserved c =
    let l = c.hour.invariant in (
      l.0,
      turn_goes_on (asked (goal.at.hour-preserved c).After-run_from-run) l.1 (priced (goal.at.hour-preserved c).Joined-below) c.finish.result
          c.finish.ensures,
    )

pub returns-then-n-i : goal.returns-then-n-i
returns-then-n-i c = walk_ends c.hour.invariant.1 c.if-n-i.true

pub returns-in-Err : goal.returns-in-Err
returns-in-Err c = turn_stops c.requires c.if-n-i.false c.hour.invariant.1 c.in-Err.is

pub returns-then-below-2 : goal.returns-then-below-2
returns-then-below-2 c =
    turn_before (asked (goal.at.returns-then-below-2 c).After-run_from-run) c.hour.invariant.1
    (sym c.below.ensures ∙ c.if-below.true)
    (sym c.below-then-below.ensures ∙ c.if-below-2.true)

pub returns-then-c-j : goal.returns-then-c-j
returns-then-c-j c =
    turn_unreached (asked (goal.at.returns-then-c-j c).After-run_from-run) c.hour.invariant.1 (scan_short c.scan.invariant c.if-c-j.true)
