-- The least block, and what would be read as it where a text held more than bytes.
use Rattle.std.specs.Prelude.{◌≡◌, refl, List, [], ◌∷◌, ◌++◌, ℕ}
use Rattle.exact.specs.Whole.{up_to}
use Rattle.text.specs.Text.{bytes, key_at}
use Rattle.text.specs.Number.{digit_at, more_digits, natural_at, number_at}
use Rattle.lines.specs.Line.{value_at, field_at, after_fields, value_in, line_at, closes}
use Rattle.lines.specs.Series.{series_place, series_in, series_at}
use Rattle.blocks.specs.Block.{Block, block_at, block_of}
use Rattle.curves.specs.CurveLine.{curve_line, curve_said}
use Rattle.spelling.specs.Spelt.{IsText, ended, closed}

-- what a proof by computation opens
reading : List ℕ → Block
unfolding block_of block_at series_at series_in series_place curve_said curve_line closes line_at value_in after_fields field_at value_at key_at number_at natural_at more_digits digit_at up_to
reading s = block_of s

abbrev least : List ℕ
least = bytes "hour=0 en=0 reg=0 r1=0 r2=0 r3=0 breg=0 b1=0 b2=0 b3=0\nda=0 n=0\nrt=0 n=0\n"

at_the_end : IsText least least
at_the_end = ended refl

at_an_empty_line : IsText (least ++ bytes "\n?") least
at_an_empty_line = closed (bytes "?") refl

-- 256 is no byte: it stands past the end of a text, and would close a block as that end does
no_byte_closes : block_of (least ++ (256 ∷ [])) ≡ block_of least
unfolding reading
no_byte_closes = refl
