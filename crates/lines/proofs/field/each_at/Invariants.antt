-- `field::each_at` reads a line's fields. The loop's invariant: n of them are read, up to the place i.
use lib.ListN.{length}
use Rattle.lines.proofs.Lines.{Reading}
use Rattle.lines.proofs.field.each_at.Given as goal

abbrev pub invariant-loop-n : goal.invariant-loop-n
invariant-loop-n l = Reading l.first l.s l.at (length l.initial.values) l.values l.i l.n
