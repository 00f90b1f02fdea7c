-- `Day::no_category` marks the hours without a category. The loop's invariant: the row so far is the word of the hours passed.
use mathlib.Core.Path.{◌≡◌}
use lib.Dec.{eqb}
use lib.ListN.{get_or}
use Rattle.marks.specs.Word.{word}
use Rattle.marks.proofs.words.Day.no_category.Given as goal

abbrev pub invariant-loop-h : goal.invariant-loop-h
invariant-loop-h l = l.row ≡ word l.h (λ k. eqb (get_or l.self.of.marks.cat k 0) 0)
