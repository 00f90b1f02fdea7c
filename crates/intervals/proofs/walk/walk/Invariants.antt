-- `walk::walk` meets its contract. At interval i the walk is `Walking`: the intervals before are clear and their contributions
-- written; inside, the scan is `Scanning` the curve's steps. Assumes nothing.
use Prim.Native.Nat.{◌-◌, ◌≤◌}
use Rattle.intervals.proofs.Scans.{Scanning}
use Rattle.intervals.specs.Task.{outcomes_of}
use Rattle.intervals.proofs.Walks.{Walking}
use Rattle.intervals.proofs.walk.walk.Given as goal

abbrev pub invariant-scan : goal.invariant-scan
invariant-scan l = Scanning l.c l.initial.run.at.0 l.high.0 l.t.s.0 l.run l.j

abbrev pub decreases-scan : goal.decreases-scan
decreases-scan l = l.c.n - l.j

abbrev pub invariant-hour : goal.invariant-hour
invariant-hour l = (l.n ≤ 30) × Walking (outcomes_of l.da l.rt l.tasks) l.n l.parts l.i

abbrev pub decreases-hour : goal.decreases-hour
decreases-hour l = l.n - l.i
