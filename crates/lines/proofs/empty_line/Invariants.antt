-- `empty_line` goes over each byte once. The loop's invariant: the rest of the text has its first empty line where what stands from the next byte
-- on has it.
use mathlib.Core.Path.{◌≡◌}
use Prim.Native.Nat.{◌+◌}
use lib.ListN.{drop}
use Rattle.lines.specs.Cut.{empty_in}
use Rattle.lines.proofs.empty_line.Given as goal

abbrev pub invariant-loop-n : goal.invariant-loop-n
invariant-loop-n l = empty_in l.start l.b-items l.at ≡ empty_in l.begins (drop l.n l.b-items) (l.at + l.n)
