-- "Our archive, up and back": a stored sheet of form 1 becomes one of form 2, and back. Moving up adds `hours=24` and changes the form number;
-- moving down undoes both. Only the header is rewritten, and the blocks are not looked at.
use Rattle.std.specs.Prelude.{◌≡◌, Bool, true, not, List, [], ◌++◌, ℕ, eqb, ℤ, pos, length, drop, Some}
use Rattle.tariff.specs.Sheet.{USUAL_DAY}
use Rattle.tariff.specs.Reply.{RANGE, BACK, Verdict, clear, fault, unless, ◌then◌}
use Rattle.text.specs.Text.{bytes}
use Rattle.keys.specs.Keys.{FORM_LINE}
use Rattle.header.specs.Layout.{number_from, layout_form, layout_range}
use Rattle.header.specs.Header.{is_form2, layout_of, hours_of}
use Rattle.archive.specs.declared.Way.{Way}
use Rattle.archive.specs.declared.Way.TheVariants.{Up, Down}

abbrev pub back : Way → Way
back Up = Down
back Down = Up

-- ---- the text: the first lines of the one form stand in place of the other's, and every byte behind them as it was

-- what a sheet that goes this way begins with
abbrev pub first_lines : Way → List ℕ
first_lines Up = bytes "form=1\n"
first_lines Down = bytes "form=2\nhours=24\n"

unfoldable pub moved : Way → List ℕ → List ℕ
moved way s = first_lines (back way) ++ drop (length (first_lines way)) s

-- ---- the refusals, in their order

-- a form 2 sheet does not go up, and no other goes down
abbrev pub goes : Way → (two : Bool) → Bool
goes Up two = not two
goes Down two = two

-- form 1 has days of 24 hours only
abbrev pub fits : Way → (hours : ℕ) → Bool
fits Up hours = true
fits Down hours = eqb hours USUAL_DAY

-- the header's FORM, then RANGE, where the wrong way is RANGE at line 1, then BACK at the line `hours`
unfoldable pub move_fault : Way → List ℕ → Verdict
move_fault way s =
    layout_form (layout_of s) (hours_of s) s
    then unless (goes way (is_form2 s)) RANGE 1
    then layout_range (layout_of s) (hours_of s) s
    then unless (fits way (hours_of s)) BACK 2

-- ---- what is written: the moved sheet, or nothing

abbrev pub moved_under : Verdict → Way → List ℕ → List ℕ
moved_under clear way s = moved way s
moved_under (fault number place) way s = []

abbrev pub moved_text : Way → List ℕ → List ℕ
moved_text way s = moved_under (move_fault way s) way s

-- ---- the words of the promises

-- the form whose sheets go this way, and the one that a sheet's line 1 says
abbrev pub form_for : Way → ℤ
form_for Up = pos 1
form_for Down = pos 2

abbrev pub form_said : List ℕ → ℤ
form_said s = number_from FORM_LINE s (Some 0)

-- a sheet s goes this way and becomes t
pub record Moves (way : Way) (s t : List ℕ) : Type 0 where
  pub passes : move_fault way s ≡ clear
  pub becomes : moved way s ≡ t
