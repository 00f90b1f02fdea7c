-- What the first lines of a sheet decide, whatever stands behind them: its form, its count and its layout, and where the line `unit` begins.
use Rattle.std.specs.Prelude.{Some}
use mathlib.Core.Path.{◌≡◌, refl}
use mathlib.Core.Bool.{Bool, true, false}
use mathlib.Core.List.{List, ◌++◌}
use Prim.Native.Nat.{ℕ, zero, suc, ◌<◌}
use native.Mathlib.Omega.{arith}
use lib.IntN.{pos}
use lib.ListN.{length}
use Rattle.tariff.specs.Sheet.{USUAL_DAY, is_count, hours_by}
use Rattle.text.specs.Text.{key_at}
use Rattle.text.specs.Number.{digit_at, more_digits, natural_at, number_at}
use Rattle.lines.specs.Line.{value_at, field_at, after_fields, value_in}
use Rattle.header.specs.declared.layout.Line.{Line}
use Rattle.header.specs.Layout.{said_at, header_line, line_place, line_in_range, number_on}
use Rattle.header.specs.Header.{layout_by, is_form2, form_by, count_of, layout_of, hours_of}
use Rattle.header.proofs.HeaderLines.{is_in_range}
use Rattle.header.proofs.Forms.{lines_before}
use Rattle.archive.specs.declared.Way.{Way}
use Rattle.archive.specs.declared.Way.TheVariants.{Up, Down}
use Rattle.archive.specs.Move.{first_lines}

-- whether the sheets that go this way are of form 2
abbrev pub is_two : Way → Bool
is_two Up = false
is_two Down = true

form_said_lem : (way : Way) (rest : List ℕ) → is_form2 (first_lines way ++ rest) ≡ is_two way
unfolding value_in after_fields field_at value_at key_at number_at natural_at more_digits digit_at
form_said_lem Up rest = refl
form_said_lem Down rest = refl

count_said_lem : (way : Way) (rest : List ℕ) → count_of (first_lines way ++ rest) ≡ pos USUAL_DAY
unfolding number_on line_place header_line said_at value_in after_fields field_at value_at key_at number_at natural_at more_digits digit_at
count_said_lem Up rest = refl
count_said_lem Down rest = refl

module _ (way : Way) (rest : List ℕ) where
  abbrev pub sheet : List ℕ
  sheet = first_lines way ++ rest

  abbrev pub layout : List Line
  layout = layout_by (form_by (is_two way)) true

  pub form_is : is_form2 sheet ≡ is_two way
  form_is = form_said_lem way rest

  pub hours_are : hours_of sheet ≡ USUAL_DAY
  hours_are = λ i. hours_by (count_said_lem way rest i)

  pub layout_is : layout_of sheet ≡ layout
  layout_is = λ i. layout_by (form_by (form_said_lem way rest i)) (is_count (count_said_lem way rest i))

-- the line `unit` begins behind them, and they are in range
pub unit_begins : (way : Way) (rest : List ℕ) → line_place (layout way rest) USUAL_DAY (lines_before (is_two way)) (first_lines way ++ rest) ≡ Some (length (first_lines way))
unfolding line_place header_line said_at after_fields field_at value_at key_at number_at natural_at more_digits digit_at
unit_begins Up rest = refl
unit_begins Down rest = refl

pub first_in_range_lem : (way : Way) (rest : List ℕ) (j : ℕ) → j < lines_before (is_two way) → is_in_range (layout way rest) USUAL_DAY (first_lines way ++ rest) j ≡ true
unfolding line_in_range line_place header_line said_at value_in after_fields field_at value_at key_at number_at natural_at more_digits digit_at
first_in_range_lem Up rest zero u = refl
first_in_range_lem Up rest (suc j) u = absurd (omega arith)
first_in_range_lem Down rest zero u = refl
first_in_range_lem Down rest (suc zero) u = refl
first_in_range_lem Down rest (suc (suc j)) u = absurd (omega arith)
