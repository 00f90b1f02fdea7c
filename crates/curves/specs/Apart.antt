-- Two block texts that differ in their curve lines only, whatever line 1 is: `head` is the place behind it.
use Rattle.text.specs.Text.{Next}
use Rattle.std.specs.Prelude.{◌≡◌, List, ◌++◌, ℕ, ◌+◌, length, Some}
use Rattle.keys.specs.Keys.{DA, RT}
use Rattle.lines.specs.Line.{and_then}
use Rattle.curves.specs.CurveLine.{curve_line}

-- line 1 of a text ends where `first` does, and its two curve lines where `curves` does
pub record InThree (head : List ℕ → ℕ → Next) (s first curves rest : List ℕ) : Type 0 where
  pub parts : s ≡ first ++ curves ++ rest
  pub line1 : head s 0 ≡ Some (length first)
  pub lines23 : and_then (curve_line DA s (length first)) (curve_line RT s) ≡ Some (length first + length curves)

pub record CurvesApart (head : List ℕ → ℕ → Next) (s t : List ℕ) : Type 0 where
  pub first : List ℕ
  pub curves : List ℕ
  pub others : List ℕ
  pub rest : List ℕ
  pub one : InThree head s first curves rest
  pub other : InThree head t first others rest
