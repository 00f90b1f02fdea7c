-- `prepare::derated_task` gives what an interval with its operating point asks: a reduction with no room, or its stretch.
use mathlib.Core.Path.{◌≡◌}
use mathlib.Core.Bool.{false}
use Rattle.tariff.specs.Derate.{exceeds_room, reduced}
use Rattle.tariff.proofs.Ranges.{interval_fits}
use Rattle.tariff.proofs.Reduced.{reduced_within}
use Rattle.derate.specs.Five.{kw_five}
use Rattle.derate.proofs.Fives.{closes}
use Rattle.derate.proofs.Sheets.{sheet_exceeds, sheet_reduced}
use Rattle.intervals.specs.Task.{derated_task}
use Rattle.intervals.proofs.Tasks.{task_same}
use Rattle.intervals.proofs.prepare.derated_task.Goals as goal
use Rattle.intervals.proofs.prepare.derated_task.Goals.{In-Some}

pub returns-in_default : goal.returns-in_default
unfolding derated_task
returns-in_default c = rw (sheet_exceeds c.args.a c.args.v c.requires.0 c.requires.1 c.in_default.ensures) c.idle.ensures

-- the interval is one of a sheet, so its derate is document 01's
told : (c : In-Some) → (exceeds_room c.args.a c.args.v ≡ false) × (c.in-Some.schedules ≡ kw_five (reduced c.args.a c.args.v))
told c = sheet_reduced c.args.a c.args.v c.requires.0 c.requires.1 c.in-Some.ensures

pub capped_output-counted-requires : goal.capped_output-counted-requires
capped_output-counted-requires c = let g = interval_fits c.args.v c.requires.1 in (g.en, g.co)

pub others-requires : goal.others-requires
others-requires c =
    let t = told (goal.at.others-requires c).In-Some in
    let s = c.args in
    (c.requires.0, c.requires.1, t.1, rw t.1 (closes (reduced s.a s.v) (reduced_within s.a s.v c.requires.0 c.requires.1 t.0)))

pub returns : goal.returns
unfolding derated_task
returns c =
    let t = told (goal.at.returns c).In-Some in
    let s = c.args in
    rw t.0 (task_same s.a s.v s.e.0 c.in-Some.schedules t.1 c.is_lower.ensures c.capped_output-counted.ensures c.limit_of-limit.ensures c.others.ensures)
