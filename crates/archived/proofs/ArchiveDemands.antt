-- The promises of request 2, "our archive, up and back", on one page: of every sheet, which is a list of bytes, any bytes. `Moves way s t` says that the
-- sheet s is not refused on its way, up or down, and becomes t.
use mathlib.Core.Path.{◌≡◌, sym, ◌∙◌, ap, subst}
use mathlib.Core.Bool.{true}
use mathlib.Core.List.{List, [], ◌++◌}
use mathlib.Core.Logic.{◌↔◌, ◌⊎◌}
use Prim.Native.Nat.{ℕ, suc, ◌+◌, ◌≤◌}
use lib.ListN.{length}
use Rattle.tariff.specs.Sheet.{SHORTEST_DAY, USUAL_DAY, LONGEST_DAY}
use Rattle.tariff.specs.Reply.{FORM, RANGE, BACK, Verdict, clear, fault}
use Rattle.lines.specs.Cut.{behind}
use Rattle.lines.specs.Pieces.{first_piece, OnePiece}
use Rattle.lines.specs.Squeezed.{squeezed}
use Rattle.header.specs.Layout.{layout_form}
use Rattle.header.specs.Header.{is_form2, layout_of, hours_of, header_fault, unit_of}
use Rattle.intake.specs.Front.{Decides}
use Rattle.ledger.specs.Headers.{day_said}
use Rattle.ledger.specs.Day.{front_of}
use Rattle.ledger.specs.Demand.{SettledAlike}
use Rattle.ledger.specs.Stored.{day_input}
use Rattle.ledger.proofs.StoredAlike.{SameSheet, own_exchanged, before_exchanged, after_exchanged}
use Rattle.printed.specs.Printed.{header_end, day_text}
use Rattle.printed.proofs.Texts.{printed_alike}
use Rattle.archive.specs.declared.Way.{Way}
use Rattle.archive.specs.declared.Way.TheVariants.{Down}
use Rattle.archive.specs.Move.{back, first_lines, move_fault, moved_under, moved_text, form_for, form_said, Moves}
use Rattle.archive.proofs.FirstLines.{is_two}
use Rattle.archive.proofs.Refusals.{moves_when, when_moves, form_when, wrong_way_when, range_when, back_when}
use Rattle.archived.proofs.Moving.{rest, begins, moved_is, goes_back, same_day, same_blocks, same_unit, moved_fits}
use Rattle.archived.proofs.Fronts.{same_answer, rest_passes, ended_moves}

-- ==== what becomes of a sheet that moves

module _ (way : Way) (s t : List ℕ) (m : Moves way s t) where
  -- Up and then down gives the same bytes, and down and then up, wherever a sheet can go down.
  pub what_moves_comes_back : Moves (back way) t s
  what_moves_comes_back = subst (λ (l : List ℕ). Moves (back way) l s) m.becomes (goes_back way s m.passes)

  -- Only its first lines are rewritten: every byte behind them is the old one.
  pub only_the_first_lines_are_rewritten : (rest : List ℕ) × (s ≡ first_lines way ++ rest) × (t ≡ first_lines (back way) ++ rest)
  only_the_first_lines_are_rewritten = (rest way s m.passes, begins way s m.passes, sym m.becomes ∙ moved_is way s m.passes)

  -- It says the same unit and the same of its day, hours and marks; and the blocks are the same, byte for byte.
  pub the_unit_stays : unit_of s ≡ unit_of t
  the_unit_stays = same_unit way s m.passes ∙ ap unit_of m.becomes

  pub the_day_and_the_blocks_stay : (day_said s ≡ day_said t) × (behind s ≡ behind t)
  the_day_and_the_blocks_stay = (same_day way s m.passes ∙ ap day_said m.becomes, same_blocks way s m.passes ∙ ap behind m.becomes)

  says_the_same : SameSheet s t
  says_the_same =
      record {
        one_read = (moves_when s way m.passes).0;
        other_read_lem = (moves_when t (back way) what_moves_comes_back.passes).0;
        unit = the_unit_stays;
        day = the_day_and_the_blocks_stay.0;
      }

  -- So its answers are equal hour by hour, and the total, whatever the headers of its neighbours are; and what `day` prints is the same, byte for byte.
  module _ (before after : List ℕ) (one : OnePiece before) (other : OnePiece after) where
    pub the_answers_stay : SettledAlike (front_of (day_input before s after)) (front_of (day_input before t after))
    the_answers_stay = own_exchanged before after s t one other says_the_same the_day_and_the_blocks_stay.1

    pub what_is_printed_stays : day_text (day_input before s after) ≡ day_text (day_input before t after)
    what_is_printed_stays = printed_alike header_end _ _ the_answers_stay

  -- And so it is with the days beside it, where their headers are read and of its unit: its header may stand as a neighbour's, moved or not.
  module _ (sheet : List ℕ) (read : header_fault sheet ≡ clear) (unit : unit_of s ≡ unit_of sheet) where
    pub what_is_printed_of_the_day_after_stays :
        (after : List ℕ) → OnePiece after → day_text (day_input (first_piece s) sheet after) ≡ day_text (day_input (first_piece t) sheet after)
    what_is_printed_of_the_day_after_stays after one = printed_alike header_end _ _ (before_exchanged sheet s t read says_the_same unit after one)

    pub what_is_printed_of_the_day_before_stays :
        (before : List ℕ) → OnePiece before → day_text (day_input before sheet (first_piece s)) ≡ day_text (day_input before sheet (first_piece t))
    what_is_printed_of_the_day_before_stays before one = printed_alike header_end _ _ (after_exchanged sheet s t read says_the_same unit before one)

-- ==== which sheets move, and what refuses the others

module _ (way : Way) (s : List ℕ) where
  -- A sheet moves exactly when its header is not refused, it has the form that goes this way, and its day has 24 hours.
  pub moves_exactly_when : (move_fault way s ≡ clear) ↔ ((header_fault s ≡ clear) × (is_form2 s ≡ is_two way) × (hours_of s ≡ USUAL_DAY))
  moves_exactly_when = (moves_when s way, λ e. when_moves s way e.0 e.1 e.2)

  -- FORM is the header's, at its line.
  pub form_exactly_when_the_header_is : (line : ℕ) → (move_fault way s ≡ fault FORM line) ↔ (header_fault s ≡ fault FORM line)
  form_exactly_when_the_header_is = form_when s way

  -- RANGE at line 1 exactly when nothing is FORM and that line says another form: the wrong way, or a form that there is not.
  pub range_at_1_exactly_for_the_wrong_way_or_another_form :
      (move_fault way s ≡ fault RANGE 1) ↔ ((layout_form (layout_of s) (hours_of s) s ≡ clear) × (form_said s ≡ form_for way → ⊥))
  range_at_1_exactly_for_the_wrong_way_or_another_form = wrong_way_when s way

  -- RANGE at any other line is the header's, where the sheet has the form that goes this way.
  pub other_range_exactly_when_the_header_is :
      (j : ℕ) → (move_fault way s ≡ fault RANGE (suc (suc j))) ↔ ((is_form2 s ≡ is_two way) × (header_fault s ≡ fault RANGE (suc (suc j))))
  other_range_exactly_when_the_header_is = range_when s way

  -- BACK, at the line `hours`, exactly when 23 or 25 hours go down and nothing else refuses.
  pub back_exactly_when_another_count_goes_down :
      (place : ℕ)
      → (move_fault way s ≡ fault BACK place)
      ↔ ((way ≡ Down) × (place ≡ 2) × (header_fault s ≡ clear) × (is_form2 s ≡ true) × ((hours_of s ≡ SHORTEST_DAY) ⊎ (hours_of s ≡ LONGEST_DAY)))
  back_exactly_when_another_count_goes_down = back_when s way

  -- On a refusal nothing is written.
  pub of_a_refused_sheet_nothing_is_written : (number place : ℕ) → move_fault way s ≡ fault number place → moved_text way s ≡ []
  of_a_refused_sheet_nothing_is_written number place e = ap (λ (v : Verdict). moved_under v way s) e

  -- A page that is nine bytes longer than the sheet holds what it becomes whole.
  pub nine_bytes_more_are_enough : length (moved_text way s) ≤ length s + 9
  nine_bytes_more_are_enough = moved_fits way s

-- ==== a sheet of any length, in bounded memory

-- The text that came, squeezed, decides where its header has closed or 10,640 bytes of it stand: it is refused as every sheet is that begins so; and
-- what is written of it, and then the rest as it comes, is what the whole sheet becomes.
module _ (way : Way) (text more : List ℕ) (enough : Decides text (length (squeezed 1 text))) where
  pub what_came_is_refused_as_the_whole : move_fault way (squeezed 1 text) ≡ move_fault way (text ++ more)
  what_came_is_refused_as_the_whole = same_answer way text more enough

  pub what_came_and_the_rest_is_the_moved_sheet : move_fault way (text ++ more) ≡ clear → moved_text way (squeezed 1 text) ++ more ≡ moved_text way (text ++ more)
  what_came_and_the_rest_is_the_moved_sheet = rest_passes way text more enough

-- Where the input has ended, what is written of the text that came is what it becomes.
pub what_came_to_its_end_is_moved_whole : (way : Way) (text : List ℕ) → moved_text way (squeezed 1 text) ≡ moved_text way text
what_came_to_its_end_is_moved_whole = ended_moves
