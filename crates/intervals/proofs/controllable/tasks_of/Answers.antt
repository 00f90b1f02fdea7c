use mathlib.Core.Bool.{false}
use mathlib.Core.Path.{◌≡◌, subst}
use Prim.Native.Nat.{ℕ}
use native.Mathlib.Omega.{arith}
use Rattle.intervals.specs.Task.{icl_asked, TasksOf}
use Rattle.intervals.proofs.Fits.{tasks_begin, tasks_next, tasks_idle}
use Rattle.intervals.proofs.controllable.tasks_of.Goals as goal

pub returns-then-excluded : goal.returns-then-excluded
returns-then-excluded c = rw c.if-excluded.true (tasks_idle _ c.idle-tasks.ensures)

pub loop-i-init : goal.loop-i-init
loop-i-init c = (omega arith, c.requires, tasks_begin)

pub loop-i-preserved : goal.loop-i-preserved
loop-i-preserved c =
    let l = c.loop-i.invariant in
    (omega arith, l.1, tasks_next l.2 (omega arith) c.icl_task.ensures)

pub returns : goal.returns
returns c =
    let l = c.loop-i in
    let h = c.args.h in
    let end : l.i ≡ h.n = omega arith in
    rw c.if-excluded.false (subst (λ (n : ℕ). TasksOf (icl_asked h false) n l.tasks) end l.invariant.2)
