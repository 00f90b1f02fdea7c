-- `heads::odd_line` finds the first line out of range. The loop's invariant: each line passed is in range.
use mathlib.Core.Path.{◌≡◌}
use mathlib.Core.Bool.{true}
use Prim.Native.Nat.{ℕ, ◌<◌}
use Rattle.header.specs.Header.{layout_by}
use Rattle.header.proofs.HeaderLines.{is_in_range}
use Rattle.header.proofs.heads.odd_line.Given as goal

abbrev pub invariant-loop-j : goal.invariant-loop-j
invariant-loop-j l = (k : ℕ) → k < l.j → is_in_range (layout_by l.layout.form l.layout.judged) l.layout.hours l.s k ≡ true
