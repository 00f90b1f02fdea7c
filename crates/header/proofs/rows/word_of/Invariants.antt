-- `rows::word_of` makes a row's word. The loop's invariant: it is the word of the hours passed.
use mathlib.Core.Path.{◌≡◌}
use Prim.Native.Nat.{◌-◌}
use lib.Dec.{eqb}
use lib.ListN.{get_or}
use Rattle.marks.specs.Word.{word}
use Rattle.header.proofs.rows.word_of.Given as goal

abbrev pub invariant-loop-h : goal.invariant-loop-h
invariant-loop-h l = l.word ≡ word l.h (λ h. eqb (get_or l.row h 0 - 48) l.digit)
