use mathlib.Core.Path.{◌≡◌, subst}
use mathlib.Core.Bool.{false}
use Prim.Native.Nat.{ℕ}
use native.Mathlib.Omega.{arith}
use Rattle.tariff.specs.Hour.{parts_of}
use Rattle.tariff.proofs.Ranges.{form_says}
use Rattle.intervals.specs.Task.{asked, TasksOf}
use Rattle.intervals.proofs.Fits.{in_range_lem, tasks_begin, tasks_next, tasks_idle}
use Rattle.intervals.proofs.prepare.tasks_of.Goals as goal

pub returns-then-excluded : goal.returns-then-excluded
returns-then-excluded c = rw c.if-excluded.true (tasks_idle _ c.idle-tasks.ensures)

pub loop-i-init : goal.loop-i-init
loop-i-init c = (omega arith, (form_says (parts_of c.args.h) c.requires.0).2, tasks_begin)

pub task_of-requires : goal.task_of-requires
task_of-requires c =
    in_range_lem c.args.h c.requires c.loop-i-test.true

pub loop-i-preserved : goal.loop-i-preserved
loop-i-preserved c =
    let l = c.loop-i.invariant in
    (omega arith, l.1, tasks_next l.2 (omega arith) c.task_of.ensures)

pub returns : goal.returns
returns c =
    let l = c.loop-i in
    let h = c.args.h in
    let end : l.i ≡ h.n = omega arith in
    rw c.if-excluded.false (subst (λ (n : ℕ). TasksOf (asked h false) n l.tasks) end l.invariant.2)
