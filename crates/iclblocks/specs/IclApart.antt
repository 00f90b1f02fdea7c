-- Two block texts of an internal controllable line that differ in their curve lines only.
use Rattle.std.specs.Prelude.{List, ℕ}
use Rattle.curves.specs.Apart.{InThree, CurvesApart}
use Rattle.iclblocks.specs.IclBlock.{icl_hour_line}

-- line 1 of a text ends where `first` does, and its two curve lines where `curves` does
abbrev pub IclInThree : (s first curves rest : List ℕ) → Type 0
IclInThree = InThree icl_hour_line

abbrev pub IclCurvesApart : (s t : List ℕ) → Type 0
IclCurvesApart = CurvesApart icl_hour_line
