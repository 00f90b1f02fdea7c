-- Two block texts that differ in their curve lines only.
use Rattle.std.specs.Prelude.{List, ℕ}
use Rattle.curves.specs.Apart as apart
use Rattle.blocks.specs.Block.{ahead_line}

-- line 1 of a text ends where `first` does, and its two curve lines where `curves` does
abbrev pub InThree : (s first curves rest : List ℕ) → Type 0
InThree = apart.InThree ahead_line

abbrev pub CurvesApart : (s t : List ℕ) → Type 0
CurvesApart = apart.CurvesApart ahead_line
