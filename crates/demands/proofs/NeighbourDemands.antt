-- The promises of request 5, "the two hours don't stop at midnight", of what `day` settles and prints, on one page. An input is s; its headers are s, rest_after 1 s and
-- rest_after 2 s, each up to its empty line. They rest on ledger's MidnightDemands, that of a moved neighbour on archived's ArchiveDemands; NeighbourWitness has inputs that some of them speak of.
use mathlib.Core.Path.{◌≡◌}
use mathlib.Core.Bool.{true, false}
use mathlib.Core.List.{List}
use mathlib.Core.Logic.{◌↔◌, ◌⊎◌}
use Prim.Native.Nat.{ℕ, ◌+◌, ◌<◌}
use lib.IntN.{pos}
use Rattle.tariff.specs.declared.Expected.TheVariants.{Says}
use Rattle.tariff.specs.Reply.{RANGE, clear, fault}
use Rattle.tariff.specs.Eligible.{near}
use Rattle.marks.specs.Alone.{excluded_alone}
use Rattle.marks.specs.Reached.{ReachedFromBefore, ReachedFromAfter}
use Rattle.marks.specs.Alike.{JoinedAlikeBut}
use Rattle.lines.specs.Cut.{behind}
use Rattle.lines.specs.Pieces.{rest_after, first_piece, OnePiece}
use Rattle.header.specs.Header.{hours_of, header_fault, unit_of, unit_line}
use Rattle.ledger.specs.Headers.{day_said, neighbour_of, neighbour_fault}
use Rattle.ledger.specs.Day.{generator_answer, front_of, day_replies, day_reply, day_total}
use Rattle.ledger.specs.Stored.{lacking, day_input}
use Rattle.ledger.specs.Midnight.{Stands, OtherUnit, Refuses, SameBlocks, NeighboursAlike, AlikeButCatToX3, AlikeInX4}
use Rattle.ledger.proofs.MidnightDemands.{
  a_day_is_read_exactly_when_its_headers_stand,
  the_first_header_at_fault_refuses,
  another_unit_is_range_at_its_line,
  an_hour_is_excluded_inside_its_day_or_by_a_neighbours_mark,
  a_stored_sheet_alone_is_answered_as_before,
  a_neighbours_cat_and_x1_to_x3_change_nothing,
  without_its_rtc_x5_and_x6_of_a_neighbour_change_nothing,
  a_mark_moves_no_hour_further_than_two,
}
use Rattle.answers.specs.Answers.{refused_ending, day_lines}
use Rattle.archive.specs.declared.Way.{Way}
use Rattle.archive.specs.Move.{Moves}
use Rattle.archived.proofs.ArchiveDemands.{what_is_printed_of_the_day_after_stays, what_is_printed_of_the_day_before_stays}
use Rattle.printed.specs.Printed.{header_end, day_page, day_text}
use Rattle.printed.proofs.Texts.{printed_alike}

-- ==== refusals

-- A day is read exactly when its own header is, and each neighbour is lacking, or its header is read and of the same unit.
pub a_day_is_read_exactly_when :
    (s : List ℕ)
    → ((front_of s).fault ≡ clear) ↔ ((header_fault (rest_after 1 s) ≡ clear) × Stands s (rest_after 1 s) × Stands (rest_after 2 s) (rest_after 1 s))
a_day_is_read_exactly_when = a_day_is_read_exactly_when_its_headers_stand

-- A header that refuses prints its refusal alone, and which header it is ends the line.
pub a_refused_header_is_named :
    (s : List ℕ) (header number place : ℕ) → Refuses s header number place → day_text s ≡ refused_ending (header_end header) number place
unfolding day_page
a_refused_header_is_named s header number place r = λ i. day_lines (header_end (r.1 i)) (r.0 i) (day_replies (front_of s)) (day_total (front_of s))

-- The first at fault does, in the order read: the day before, its own, the day after.
pub headers_refuse_in_the_order_read :
    (s : List ℕ) (number place : ℕ)
    → (neighbour_fault s ≡ fault number place → Refuses s 0 number place)
    × (neighbour_fault s ≡ clear → header_fault (rest_after 1 s) ≡ fault number place → Refuses s 1 number place)
    × (neighbour_fault s ≡ clear → header_fault (rest_after 1 s) ≡ clear → neighbour_fault (rest_after 2 s) ≡ fault number place → Refuses s 2 number place)
headers_refuse_in_the_order_read = the_first_header_at_fault_refuses

-- Then a neighbour of another unit, the day before first: RANGE at its line `unit`.
pub then_a_neighbour_of_another_unit :
    (s : List ℕ)
    → neighbour_fault s ≡ clear
    → header_fault (rest_after 1 s) ≡ clear
    → neighbour_fault (rest_after 2 s) ≡ clear
    → (OtherUnit s (rest_after 1 s) → Refuses s 0 RANGE (unit_line s))
    × (Stands s (rest_after 1 s) → OtherUnit (rest_after 2 s) (rest_after 1 s) → Refuses s 2 RANGE (unit_line (rest_after 2 s)))
then_a_neighbour_of_another_unit = another_unit_is_range_at_its_line

-- ==== the joined marks

-- An hour is excluded exactly when document 01's rule excludes it inside its day, or a mark of a neighbour, x4, or x5 or x6 under that day's own `rtc`, lies
-- at most two hours away along the joined days.
pub an_hour_is_excluded_exactly_when :
    (s : List ℕ) (k : ℕ)
    → k < (front_of s).hours
    → ((front_of s).is_excluded k ≡ true)
    ↔ ((excluded_alone (day_said (rest_after 1 s)) k ≡ true)
    ⊎ ReachedFromBefore (neighbour_of s) k
    ⊎ ReachedFromAfter (day_said (rest_after 1 s)) (neighbour_of (rest_after 2 s)) k)
an_hour_is_excluded_exactly_when = an_hour_is_excluded_inside_its_day_or_by_a_neighbours_mark

-- Without neighbours a stored sheet whose header is read has as many hours as before, and each is answered as before: by its block, excluded as document 01's rule says.
pub both_lacking_is_as_before :
    (sheet : List ℕ)
    → header_fault sheet ≡ clear
    → ((front_of (day_input lacking sheet lacking)).fault ≡ clear)
    × ((front_of (day_input lacking sheet lacking)).hours ≡ hours_of sheet)
    × ((k : ℕ)
    → day_reply (front_of (day_input lacking sheet lacking)) k
    ≡ generator_answer (rest_after k (behind sheet)) (excluded_alone (day_said sheet) k) (Says (pos k) (hours_of sheet)))
both_lacking_is_as_before = a_stored_sheet_alone_is_answered_as_before

-- Where both inputs are read, a neighbour's categories and its x1 to x3 change no byte that is printed; and without its own `rtc` its x5 and x6 none.
pub cat_and_x1_to_x3_of_a_neighbour_change_no_byte : (s t : List ℕ) → NeighboursAlike AlikeButCatToX3 s t → day_text s ≡ day_text t
cat_and_x1_to_x3_of_a_neighbour_change_no_byte s t o =
    printed_alike header_end (front_of s) (front_of t) (a_neighbours_cat_and_x1_to_x3_change_nothing s t o)

pub without_its_rtc_x5_and_x6_of_a_neighbour_change_no_byte : (s t : List ℕ) → NeighboursAlike AlikeInX4 s t → day_text s ≡ day_text t
without_its_rtc_x5_and_x6_of_a_neighbour_change_no_byte s t o =
    printed_alike header_end (front_of s) (front_of t) (without_its_rtc_x5_and_x6_of_a_neighbour_change_nothing s t o)

-- Where both inputs are read, a mark moves no hour further than two, along the joined days.
pub a_mark_moves_no_hour_further :
    (s t : List ℕ)
    → SameBlocks s t
    → (g : ℕ)
    → JoinedAlikeBut g (neighbour_of s) (day_said (rest_after 1 s)) (neighbour_of (rest_after 2 s)) (neighbour_of t) (day_said (rest_after 1 t)) (neighbour_of (rest_after 2 t))
    → (k : ℕ)
    → near g ((neighbour_of s).hours + k) ≡ false
    → day_reply (front_of s) k ≡ day_reply (front_of t) k
a_mark_moves_no_hour_further = a_mark_moves_no_hour_further_than_two

-- ==== stored sheets that move (request 2) between their neighbours

-- A sheet that moves up or down changes no byte of what is printed of the days beside it, where their headers are read and of its unit.
pub a_moved_neighbour_is_printed_alike :
    (way : Way) (s t : List ℕ)
    → Moves way s t
    → (sheet : List ℕ)
    → header_fault sheet ≡ clear
    → unit_of s ≡ unit_of sheet
    → ((after : List ℕ) → OnePiece after → day_text (day_input (first_piece s) sheet after) ≡ day_text (day_input (first_piece t) sheet after))
    × ((before : List ℕ) → OnePiece before → day_text (day_input before sheet (first_piece s)) ≡ day_text (day_input before sheet (first_piece t)))
a_moved_neighbour_is_printed_alike way s t m sheet read unit =
    (what_is_printed_of_the_day_after_stays way s t m sheet read unit, what_is_printed_of_the_day_before_stays way s t m sheet read unit)
