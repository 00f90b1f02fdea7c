-- The demands of request 2, the archive up and back, on one page: `Moves way s t` says that the sheet s is not refused on its way, and becomes t.
use mathlib.Core.Path.{◌≡◌}
use mathlib.Core.Bool.{true}
use mathlib.Core.List.{List, [], ◌++◌}
use mathlib.Core.Logic.{◌↔◌, ◌⊎◌}
use Prim.Native.Nat.{ℕ}
use lib.ListN.{length}
use Rattle.tariff.specs.Sheet.{SHORTEST_DAY, LONGEST_DAY}
use Rattle.tariff.specs.Reply.{RANGE, BACK, clear, fault}
use Rattle.lines.specs.Pieces.{OnePiece}
use Rattle.lines.specs.Squeezed.{squeezed}
use Rattle.intake.specs.Front.{Decides}
use Rattle.header.specs.Layout.{layout_form}
use Rattle.header.specs.Header.{is_form2, layout_of, hours_of, header_fault}
use Rattle.ledger.specs.Stored.{day_input}
use Rattle.printed.specs.Printed.{day_text}
use Rattle.archive.specs.declared.Way.{Way}
use Rattle.archive.specs.declared.Way.TheVariants.{Down}
use Rattle.archive.specs.Move.{back, first_lines, move_fault, moved_text, form_for, form_said, Moves}
use Rattle.archived.proofs.ArchiveDemands.{
  what_moves_comes_back,
  only_the_first_lines_are_rewritten,
  what_is_printed_stays,
  range_at_1_exactly_for_the_wrong_way_or_another_form,
  back_exactly_when_another_count_goes_down,
  of_a_refused_sheet_nothing_is_written,
  what_came_is_refused_as_the_whole,
  what_came_and_the_rest_is_the_moved_sheet,
}
use Rattle.archive.proofs.move_sheet.Statement as moving
use Rattle.archive.proofs.move_sheet.Met as moving_is

pub the_moving_call_answers : {M : Type 1} → moving.statement M
the_moving_call_answers = moving_is.met

-- Up and then down gives the same bytes, and down and then up.
pub a_moved_sheet_comes_back : (way : Way) (s t : List ℕ) → Moves way s t → Moves (back way) t s
a_moved_sheet_comes_back = what_moves_comes_back

-- Only the header is rewritten: behind its first lines every byte is the old one.
pub only_its_first_lines_are_rewritten :
    (way : Way) (s t : List ℕ) → Moves way s t → (rest : List ℕ) × (s ≡ first_lines way ++ rest) × (t ≡ first_lines (back way) ++ rest)
only_its_first_lines_are_rewritten = only_the_first_lines_are_rewritten

-- What `day` prints of a sheet between any neighbours' headers is, byte for byte, what it prints of the moved one between them.
pub a_moved_sheet_is_printed_alike :
    (way : Way) (s t : List ℕ)
    → Moves way s t
    → (before after : List ℕ)
    → OnePiece before
    → OnePiece after
    → day_text (day_input before s after) ≡ day_text (day_input before t after)
a_moved_sheet_is_printed_alike = what_is_printed_stays

-- BACK exactly when 23 or 25 hours go down and nothing else refuses; RANGE at line 1 exactly for the wrong way or another form number.
pub back_exactly_when_23_or_25_hours_go_down :
    (way : Way) (s : List ℕ) (place : ℕ)
    → (move_fault way s ≡ fault BACK place)
    ↔ ((way ≡ Down) × (place ≡ 2) × (header_fault s ≡ clear) × (is_form2 s ≡ true) × ((hours_of s ≡ SHORTEST_DAY) ⊎ (hours_of s ≡ LONGEST_DAY)))
back_exactly_when_23_or_25_hours_go_down = back_exactly_when_another_count_goes_down

pub range_at_1_exactly_when_line_1_says_another_form :
    (way : Way) (s : List ℕ) → (move_fault way s ≡ fault RANGE 1) ↔ ((layout_form (layout_of s) (hours_of s) s ≡ clear) × (form_said s ≡ form_for way → ⊥))
range_at_1_exactly_when_line_1_says_another_form = range_at_1_exactly_for_the_wrong_way_or_another_form

-- On a refusal nothing is written.
pub a_refused_sheet_writes_nothing : (way : Way) (s : List ℕ) (number place : ℕ) → move_fault way s ≡ fault number place → moved_text way s ≡ []
a_refused_sheet_writes_nothing = of_a_refused_sheet_nothing_is_written

-- Of a sheet of any length the front that was read decides, and what is written of it, and then the rest as it comes, is the moved sheet.
pub the_front_and_the_rest_are_the_moved_sheet :
    (way : Way) (text more : List ℕ)
    → Decides text (length (squeezed 1 text))
    → (move_fault way (squeezed 1 text) ≡ move_fault way (text ++ more))
    × (move_fault way (text ++ more) ≡ clear → moved_text way (squeezed 1 text) ++ more ≡ moved_text way (text ++ more))
the_front_and_the_rest_are_the_moved_sheet way text more enough =
    (what_came_is_refused_as_the_whole way text more enough, what_came_and_the_rest_is_the_moved_sheet way text more enough)
