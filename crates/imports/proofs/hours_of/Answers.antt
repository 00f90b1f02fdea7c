-- `hours_of` reads the count on line 1, or takes the day for a usual one.
use mathlib.Core.Path.{refl}
use borrow.Author.Rules.{rules}
use Rattle.exact.proofs.Held.{held_is}
use Rattle.imports.proofs.Heads.{hours_said, usual_hours}
use Rattle.imports.proofs.hours_of.Goals as goal
use Rattle.imports.proofs.hours_of.Goals.{in-Some, in-None}

pub returns : goal.returns
returns c =
    elim c.match-read_line.branch [
      | in-Some w ↦ rw (c.hours_by.ensures, w.count-is, held_is w.in-Some.line.count _ (search rules) refl) (hours_said _ w.in-Some.ensures)
      | in-None w ↦ rw (c.hours_by.ensures, w.count-is) (usual_hours _ w.in-None.ensures)
    ]
