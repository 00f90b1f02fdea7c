-- `said_by` meets its contract: what the record holds, and zeros where a line is not as printed.
use mathlib.Core.Path.{refl}
use borrow.Author.Rules.{rules}
use Rattle.exact.proofs.Held.{held_is}
use Rattle.curves.proofs.Frames.{told_broken, told_read}
use Rattle.sheet.proofs.said_by.Goals as goal

pub returns-in-Ok : goal.returns-in-Ok
returns-in-Ok c =
    let b = told_read _ c.in-Ok.ensures in
    (rw b (held_is c.in-Ok.hour.hour _ (search rules) refl), rw b)

pub returns-in-Err : goal.returns-in-Err
returns-in-Err c = let b = told_broken _ c.in-Err.ensures in (rw b, rw b)
