-- `prepare::tasks_of` gives what each interval asks: before interval i the first i have their tasks.
use mathlib.Core.Bool.{false}
use Prim.Native.Nat.{◌-◌, ◌≤◌}
use Rattle.intervals.specs.Task.{asked, TasksOf}
use Rattle.intervals.proofs.prepare.tasks_of.Given as goal

abbrev pub invariant-loop-i : goal.invariant-loop-i
invariant-loop-i l = (l.i ≤ l.h.n) × (l.h.n ≤ 30) × TasksOf (asked l.h false) l.i l.tasks

abbrev pub decreases-loop-i : goal.decreases-loop-i
decreases-loop-i l = l.h.n - l.i
