-- What the first bytes of a text say of its day: how many hours it has, by a day's own header, by that of an internal controllable line, or by an
-- import's first two lines. And what stands in front of its blocks: so many headers, in which long runs of digits are squeezed, and so many pieces.
use Rattle.std.specs.Prelude.{List, ℕ}
use Rattle.header.specs.Header.{hours_of}
use Rattle.header.specs.IclHeader.{icl_hours_of}
use Rattle.imports.specs.Import.{hours_in}
use Rattle.lines.specs.Pieces.{rest_after}
use Rattle.input.specs.declared.Kind.{Kind}
use Rattle.input.specs.declared.Kind.TheVariants.{Day, Line, Import}

abbrev pub heads_of : Kind → ℕ
heads_of Day = 3
heads_of Line = 1
heads_of Import = 0

-- a header is a piece, and so are an import's first two lines
abbrev pub front_pieces : Kind → ℕ
front_pieces Day = 3
front_pieces Line = 1
front_pieces Import = 1

-- a day's own header stands behind that of the day before
abbrev pub hours_said : Kind → List ℕ → ℕ
hours_said Day s = hours_of (rest_after 1 s)
hours_said Line s = icl_hours_of s
hours_said Import s = hours_in s
