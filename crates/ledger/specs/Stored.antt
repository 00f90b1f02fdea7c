-- Stored sheets have one header each, which is their first piece. Three of them make one input of `day`: the header of the day before, the day's own, that
-- of the day after, and the day's own blocks. A neighbour that is lacking gives one empty line.
use Rattle.std.specs.Prelude.{List, [], ◌∷◌, ◌++◌, ℕ}
use Rattle.text.specs.Text.{LF}
use Rattle.lines.specs.Cut.{behind}
use Rattle.lines.specs.Pieces.{first_piece}

abbrev pub lacking : List ℕ
lacking = LF ∷ []

-- `before` and `after` are the neighbours' headers, or `lacking`
abbrev pub day_input : (before sheet after : List ℕ) → List ℕ
day_input before sheet after = before ++ (first_piece sheet ++ (after ++ behind sheet))
