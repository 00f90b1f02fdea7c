-- What a proof by computation opens: the reading of a block and of a header, and the checks of an hour and what its intervals contribute.
use mathlib.Core.Bool.{false}
use mathlib.Core.List.{List}
use Prim.Native.Nat.{ℕ}
use lib.IntN.{ℤ}
use Rattle.exact.specs.Whole.{span, min_z, max_z, up_to, sum_to}
use Rattle.tariff.specs.declared.Curve.{Curve}
use Rattle.tariff.specs.declared.Hour.{Hour}
use Rattle.tariff.specs.declared.Expected.TheVariants.{Any}
use Rattle.tariff.specs.Units.{cents_of}
use Rattle.tariff.specs.Sheet.{all_to, ahead_in_range, curve_in_range, interval_in_range, curve_keeps}
use Rattle.tariff.specs.Curve.{Amount, quote_from, quote, sum_up, integral}
use Rattle.tariff.specs.Reply.{Reply, Verdict, first_of}
use Rattle.tariff.specs.Point.{first_dearer, point_on}
use Rattle.tariff.specs.Derate.{exceeds_room, reduced}
use Rattle.tariff.specs.Contributions.{lower_limit, upper_limit, energy_by, reserve, regulation, movement, other_than_energy}
use Rattle.tariff.specs.Outcome.{first_stop, sum_by, reply_by}
use Rattle.tariff.specs.Checks.{form_in, range_in, order_in, curves_in, seconds_in}
use Rattle.tariff.specs.Hour.{block_fault, outcome, outcome_at, reply}
use Rattle.tariff.specs.Eligible.{some_to, excluded}
use Rattle.marks.specs.Word.{word}
use Rattle.text.specs.Text.{key_at}
use Rattle.text.specs.Number.{digit_at, more_digits, natural_at, number_at}
use Rattle.lines.specs.Line.{value_at, field_at, after_fields, value_in, line_at, closes}
use Rattle.lines.specs.Cut.{empty_in, behind}
use Rattle.lines.specs.Pieces.{rest_after, first_piece, piece}
use Rattle.lines.specs.Series.{series_place, series_in, series_at}
use Rattle.curves.specs.CurveLine.{curve_line, curve_said}
use Rattle.blocks.specs.Block.{Block, block_at, block_of}
use Rattle.header.specs.Layout.{digits_at, row_at, said_at, header_line, line_place, line_in_range, layout_form, layout_range, number_on, digit_on}
use Rattle.header.specs.Header.{header_fault, row_word, marks_by}

unfoldable pub reading : List ℕ → Block
unfolding
    block_of block_at series_at series_in series_place curve_said curve_line closes line_at value_in after_fields field_at value_at key_at
    number_at natural_at more_digits digit_at up_to
reading s = block_of s

-- its pieces
unfoldable pub cutting : List ℕ → List ℕ
unfolding rest_after behind empty_in first_piece
cutting s = piece 0 s

-- the header and its marks
unfoldable pub judging : List ℕ → Verdict
unfolding
    layout_form layout_range line_in_range number_on digit_on row_word marks_by line_place header_line said_at row_at digits_at value_in after_fields field_at
    value_at key_at number_at natural_at more_digits digit_at all_to first_of up_to word excluded some_to
judging s = header_fault s

-- what an interval must price, and at what price
unfoldable pub pricing : Curve → ℤ → Amount
unfolding exceeds_room reduced lower_limit upper_limit min_z max_z quote quote_from first_dearer point_on
pricing c k = quote c k

-- checks 1 to 5
unfoldable pub checking : Hour → Verdict
unfolding form_in range_in ahead_in_range curve_in_range interval_in_range all_to first_of order_in curves_in curve_keeps seconds_in sum_to
checking h = block_fault h Any

unfoldable pub settling : Hour → Reply
unfolding
    checking pricing outcome energy_by integral span sum_up other_than_energy regulation reserve movement outcome_at first_stop sum_by
    sum_to cents_of reply_by
settling h = reply h false Any 30
