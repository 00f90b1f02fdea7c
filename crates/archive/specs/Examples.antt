-- Sheets that move, and one for each way to be refused.
use Rattle.std.specs.Prelude.{◌≡◌, refl, List, [], ◌∷◌, ◌++◌, ℕ, pos, replicate}
use Rattle.exact.specs.Whole.{up_to}
use Rattle.tariff.specs.Sheet.{USUAL_DAY, all_to}
use Rattle.tariff.specs.Reply.{Verdict, fault, first_of}
use Rattle.text.specs.Text.{ZERO, bytes, key_at}
use Rattle.text.specs.Decimal.{natural, number}
use Rattle.text.specs.Number.{digit_at, more_digits, natural_at, number_at}
use Rattle.keys.specs.Keys.{FORM_LINE, HOURS_LINE}
use Rattle.lines.specs.Line.{value_at, field_at, after_fields, value_in}
use Rattle.lines.specs.Print.{fields, line}
use Rattle.marks.specs.Word.{word}
use Rattle.header.specs.Layout.{digits_at, row_at, run_of, said_at, header_line, line_place, line_in_range, layout_form, layout_range, number_on, digit_on}
use Rattle.archive.specs.declared.Way.{Way}
use Rattle.archive.specs.declared.Way.TheVariants.{Up, Down}
use Rattle.archive.specs.Move.{first_lines, moved, move_fault, moved_text, Moves}

-- what a proof by computation opens
judged : Way → List ℕ → Verdict
unfolding move_fault moved layout_form layout_range line_in_range number_on digit_on line_place header_line said_at row_at digits_at run_of value_in after_fields field_at value_at key_at number_at natural_at more_digits digit_at all_to first_of up_to word
judged = move_fault

-- ---- the first lines are those of the table's keys
form1_lines : first_lines Up ≡ line FORM_LINE 1 (number (pos 1) ∷ [])
unfolding line fields natural
form1_lines = refl

form2_lines : first_lines Down ≡ line FORM_LINE 1 (number (pos 2) ∷ []) ++ line HOURS_LINE 1 (number (pos USUAL_DAY) ∷ [])
unfolding line fields natural
form2_lines = refl

-- ---- a sheet whose rows are all alike, of which one block stands and does not end
abbrev pub sheet : (first : List ℕ) → (unit : List ℕ) → (digits : ℕ) → List ℕ
sheet first unit digits =
    let row = replicate digits ZERO ++ bytes "\n" in
    first ++ bytes "unit=" ++ unit ++ bytes "\nrtc=1\ncat=" ++ row ++ bytes "x1=" ++ row ++ bytes "x2=" ++ row ++ bytes "x3=" ++ row
    ++ bytes "x4=" ++ row ++ bytes "x5=" ++ row ++ bytes "x6=" ++ row ++ bytes "\nhour=0 en"

abbrev pub one : List ℕ
one = sheet (bytes "form=1\n") (bytes "4711") 24

abbrev pub two : List ℕ
two = sheet (bytes "form=2\nhours=24\n") (bytes "4711") 24

pub goes_up : Moves Up one two
unfolding judged
goes_up = record { passes = refl; becomes = refl }

pub goes_down : Moves Down two one
unfolding judged
goes_down = record { passes = refl; becomes = refl }

is_written : moved_text Up one ≡ two
unfolding judged
is_written = refl

-- ---- FORM comes first, in the layout that the sheet has
cut_in_the_header : move_fault Up (bytes "form=1\nunit=47") ≡ fault 1 2
unfolding judged
cut_in_the_header = refl

form_before_the_way : move_fault Up (sheet (bytes "form=2\nhours=24\n") (bytes "4711") 23) ≡ fault 1 5
unfolding judged
form_before_the_way = refl

-- ---- RANGE at line 1: the wrong way, or a form that there is not, in front of RANGE at any other line
form2_goes_up : move_fault Up (sheet (bytes "form=2\nhours=24\n") (bytes "0") 24) ≡ fault 2 1
unfolding judged
form2_goes_up = refl

form1_goes_down : move_fault Down (sheet (bytes "form=1\n") (bytes "0") 24) ≡ fault 2 1
unfolding judged
form1_goes_down = refl

form3_goes_up : move_fault Up (sheet (bytes "form=3\n") (bytes "4711") 24) ≡ fault 2 1
unfolding judged
form3_goes_up = refl

form3_goes_down : move_fault Down (sheet (bytes "form=3\n") (bytes "4711") 24) ≡ fault 2 1
unfolding judged
form3_goes_down = refl

-- ---- RANGE at another line
no_unit_goes_up : move_fault Up (sheet (bytes "form=1\n") (bytes "0") 24) ≡ fault 2 2
unfolding judged
no_unit_goes_up = refl

other_count_goes_down : move_fault Down (sheet (bytes "form=2\nhours=22\n") (bytes "4711") 7) ≡ fault 2 2
unfolding judged
other_count_goes_down = refl

-- it comes before BACK
no_unit_goes_down : move_fault Down (sheet (bytes "form=2\nhours=25\n") (bytes "0") 25) ≡ fault 2 3
unfolding judged
no_unit_goes_down = refl

-- ---- BACK, and nothing is written
short_day_goes_down : move_fault Down (sheet (bytes "form=2\nhours=23\n") (bytes "4711") 23) ≡ fault 9 2
unfolding judged
short_day_goes_down = refl

long_day_goes_down : move_fault Down (sheet (bytes "form=2\nhours=25\n") (bytes "4711") 25) ≡ fault 9 2
unfolding judged
long_day_goes_down = refl

nothing_is_written : moved_text Down (sheet (bytes "form=2\nhours=25\n") (bytes "4711") 25) ≡ []
unfolding judged
nothing_is_written = refl
