-- The promises of request 5, "the two hours don't stop at midnight", of the definitions: when a day's headers are read, which of them refuses it, which
-- hours its marks and its neighbours' exclude, and what three stored sheets make. An input is s; its headers are s, rest_after 1 s and rest_after 2 s, each
-- up to its empty line.
use mathlib.Core.Path.{◌≡◌, refl, sym, ap, ◌∙◌}
use mathlib.Core.Bool.{Bool, true, false}
use mathlib.Core.List.{List}
use mathlib.Core.Logic.{◌↔◌, ◌⊎◌}
use Prim.Native.Nat.{ℕ, suc, ◌+◌, ◌<◌}
use Rattle.std.specs.Prelude.{if◌then◌else◌}
use lib.IntN.{pos}
use Rattle.tariff.specs.declared.MarkedDay.{MarkedDay}
use Rattle.tariff.specs.declared.Expected.TheVariants.{Says}
use Rattle.tariff.specs.Sheet.{is_count}
use Rattle.tariff.specs.Reply.{RANGE, clear, fault}
use Rattle.tariff.specs.Eligible.{near, excluded}
use Rattle.keys.specs.Keys.{UNIT_LINE}
use Rattle.marks.specs.Alone.{excluded_alone}
use Rattle.marks.specs.Reached.{ReachedFromBefore, ReachedFromAfter}
use Rattle.marks.specs.Alike.{AlikeToX4, ReachAlike, JoinedAlikeBut}
use Rattle.marks.proofs.Far.{a_mark_moves_no_further_than_two, without_rtc}
use Rattle.marks.proofs.Midnight.{exactly_when, both_lacking, neighbours_by_what_reaches}
use Rattle.marks.proofs.Reach.{reach_from_x4, reach_without_rtc}
use Rattle.lines.specs.Cut.{empty_in, behind}
use Rattle.lines.specs.Pieces.{rest_after, first_piece, OnePiece}
use Rattle.header.specs.Layout.{line_of}
use Rattle.header.specs.Header.{layout_by, is_form2, form_by, count_of, hours_of, header_fault, unit_line}
use Rattle.header.proofs.Forms.{unit_line_lem}
use Rattle.ledger.specs.Headers.{is_lacking, day_said, neighbour_of, neighbour_fault, headers_fault, at_line, which_header}
use Rattle.ledger.specs.Day.{generator_answer, front_of, day_reply}
use Rattle.ledger.specs.Demand.{SettledAlike}
use Rattle.ledger.specs.Stored.{lacking, day_input}
use Rattle.ledger.specs.Midnight.{Stands, OtherUnit, Refuses, SameBlocks, NeighboursAlike, AlikeButCatToX3, AlikeInX4}
use Rattle.ledger.proofs.HourOfDay.{hour_clear, hour_by}
use Rattle.ledger.proofs.ThreeHeads.{before_refuses, own_refuses, after_refuses, unit_before_refuses, unit_after_refuses, none_refuses}
use Rattle.ledger.proofs.FrontAlone.{all_clear, neighbour_stands, stands_clear}
use Rattle.ledger.proofs.StoredDays.{header_piece, stored_blocks, stored_judged, stored_hours, stored_excluded}
use Rattle.ledger.proofs.Midnight.{refuses, other_unit, lacking_both, block_settles, blocks_settle, neighbours_by}

-- ==== the headers

-- A day is read exactly when its own header is, and each neighbour is lacking, or its header is read and of the same unit.
pub a_day_is_read_exactly_when_its_headers_stand :
    (s : List ℕ)
    → ((front_of s).fault ≡ clear) ↔ ((header_fault (rest_after 1 s) ≡ clear) × Stands s (rest_after 1 s) × Stands (rest_after 2 s) (rest_after 1 s))
a_day_is_read_exactly_when_its_headers_stand s =
    let own = rest_after 1 s in
    let after = rest_after 2 s in (
      λ e. let c = all_clear s e in (c.second, neighbour_stands s own c.first c.unit_before, neighbour_stands after own c.third c.unit_after),
      λ w.
          let b = stands_clear s own w.1 in
          let a = stands_clear after own w.2 in
          ap at_line (none_refuses s own after b.0 w.0 a.0 b.1 a.1),
    )

-- Else the first header that is at fault refuses it, in the order read, with its number and place; a neighbour that is lacking has no fault.
pub the_first_header_at_fault_refuses :
    (s : List ℕ) (number place : ℕ)
    → (neighbour_fault s ≡ fault number place → Refuses s 0 number place)
    × (neighbour_fault s ≡ clear → header_fault (rest_after 1 s) ≡ fault number place → Refuses s 1 number place)
    × (neighbour_fault s ≡ clear → header_fault (rest_after 1 s) ≡ clear → neighbour_fault (rest_after 2 s) ≡ fault number place → Refuses s 2 number place)
the_first_header_at_fault_refuses s number place =
    let own = rest_after 1 s in
    let after = rest_after 2 s in
    (λ e. refuses s (before_refuses s own after e), λ b e. refuses s (own_refuses s own after b e), λ b o e. refuses s (after_refuses s own after b o e))

-- Where all three are read or lacking, a neighbour of another unit, the day before first, is RANGE at its line `unit`.
pub another_unit_is_range_at_its_line :
    (s : List ℕ)
    → neighbour_fault s ≡ clear
    → header_fault (rest_after 1 s) ≡ clear
    → neighbour_fault (rest_after 2 s) ≡ clear
    → (OtherUnit s (rest_after 1 s) → Refuses s 0 RANGE (unit_line s))
    × (Stands s (rest_after 1 s) → OtherUnit (rest_after 2 s) (rest_after 1 s) → Refuses s 2 RANGE (unit_line (rest_after 2 s)))
another_unit_is_range_at_its_line s b o a =
    let own = rest_after 1 s in
    let after = rest_after 2 s in (
      λ other. refuses s (unit_before_refuses s own after b o a (other_unit s own other)),
      λ stands other. refuses s (unit_after_refuses s own after b o a (stands_clear s own stands).1 (other_unit after own other)),
    )

-- That is line 2 of form 1, and line 3 of form 2.
pub the_unit_stands_on_line_2_or_3 : (t : List ℕ) → unit_line t ≡ (if is_form2 t then 3 else 2)
the_unit_stands_on_line_2_or_3 t = ap suc (sym (unit_line_lem (is_form2 t) (is_count (count_of t)))) ∙ go (is_form2 t)
  where
    go : (two : Bool) → suc (line_of UNIT_LINE (layout_by (form_by two) true)) ≡ (if two then 3 else 2)
    go true = refl
    go false = refl

-- ==== the marks

-- An hour of a day is excluded exactly when document 01's rule excludes it inside its day, or a mark of a neighbour reaches it: x4, or x5 or x6 under that
-- day's own `rtc`, of an hour at most two away along the joined days.
pub an_hour_is_excluded_inside_its_day_or_by_a_neighbours_mark :
    (s : List ℕ) (k : ℕ)
    → k < (front_of s).hours
    → ((front_of s).is_excluded k ≡ true)
    ↔ ((excluded_alone (day_said (rest_after 1 s)) k ≡ true)
    ⊎ ReachedFromBefore (neighbour_of s) k
    ⊎ ReachedFromAfter (day_said (rest_after 1 s)) (neighbour_of (rest_after 2 s)) k)
an_hour_is_excluded_inside_its_day_or_by_a_neighbours_mark s k =
    exactly_when (neighbour_of s) (day_said (rest_after 1 s)) (neighbour_of (rest_after 2 s)) k

-- Where both neighbours are lacking, an hour is excluded as document 01 says.
pub without_neighbours_the_marks_are_as_before :
    (s : List ℕ)
    → is_lacking s ≡ true
    → is_lacking (rest_after 2 s) ≡ true
    → (k : ℕ)
    → (front_of s).is_excluded k ≡ excluded_alone (day_said (rest_after 1 s)) k
without_neighbours_the_marks_are_as_before s b a k = lacking_both s b a k ∙ both_lacking (day_said (rest_after 1 s)) k

-- Where both inputs are read, of a neighbour only the count of its hours, and which of them have a mark that reaches others, matters.
pub only_what_reaches_of_a_neighbour_matters : (s t : List ℕ) → NeighboursAlike ReachAlike s t → SettledAlike (front_of s) (front_of t)
only_what_reaches_of_a_neighbour_matters s t o =
    blocks_settle s t o.blocks
    (λ k.
    neighbours_by_what_reaches _ _ (day_said (rest_after 1 s)) _ _ k o.before o.after
    ∙ ap (λ (d : MarkedDay). excluded (neighbour_of t) d (neighbour_of (rest_after 2 t)) k) o.own)

-- So a neighbour's categories and its x1 to x3 change nothing,
pub a_neighbours_cat_and_x1_to_x3_change_nothing : (s t : List ℕ) → NeighboursAlike AlikeButCatToX3 s t → SettledAlike (front_of s) (front_of t)
a_neighbours_cat_and_x1_to_x3_change_nothing s t o =
    only_what_reaches_of_a_neighbour_matters s t (neighbours_by (λ d e a. rw (← a.0) (reach_from_x4 d.hours d.marks e.marks a.1)) o)

-- and without its own `rtc` its x5 and x6 nothing either.
pub without_its_rtc_x5_and_x6_of_a_neighbour_change_nothing : (s t : List ℕ) → NeighboursAlike AlikeInX4 s t → SettledAlike (front_of s) (front_of t)
without_its_rtc_x5_and_x6_of_a_neighbour_change_nothing s t o =
    only_what_reaches_of_a_neighbour_matters s t
    (neighbours_by (λ d e a. rw (← a.0) (reach_without_rtc d.hours d.marks e.marks a.1 a.2 a.3)) o)

-- A mark moves the answers of its own hour and of at most two before and after, along the joined days: two inputs with the same blocks whose marks are
-- alike in every hour but hour g of the three days are answered alike in every hour that is further from g.
pub a_mark_moves_no_hour_further_than_two :
    (s t : List ℕ)
    → SameBlocks s t
    → (g : ℕ)
    → JoinedAlikeBut g (neighbour_of s) (day_said (rest_after 1 s)) (neighbour_of (rest_after 2 s)) (neighbour_of t) (day_said (rest_after 1 t)) (neighbour_of (rest_after 2 t))
    → (k : ℕ)
    → near g ((neighbour_of s).hours + k) ≡ false
    → day_reply (front_of s) k ≡ day_reply (front_of t) k
a_mark_moves_no_hour_further_than_two s t o g alike k far = block_settles s t o k (a_mark_moves_no_further_than_two g k _ _ _ _ _ _ alike far)

-- Without its own `rtc` the rows x5 and x6 of a day move no answer of it.
pub without_rtc_x5_and_x6_move_no_hour :
    (s t : List ℕ)
    → SameBlocks s t
    → neighbour_of s ≡ neighbour_of t
    → neighbour_of (rest_after 2 s) ≡ neighbour_of (rest_after 2 t)
    → (day_said (rest_after 1 s)).marks.rtc ≡ false
    → (day_said (rest_after 1 t)).marks.rtc ≡ false
    → AlikeToX4 (day_said (rest_after 1 s)).marks (day_said (rest_after 1 t)).marks
    → (k : ℕ)
    → day_reply (front_of s) k ≡ day_reply (front_of t) k
without_rtc_x5_and_x6_move_no_hour s t o b a off off' alike k =
    block_settles s t o k
    (without_rtc (neighbour_of s) (neighbour_of (rest_after 2 s)) (hours_of (rest_after 1 s)) _ _ k off off' alike
    ∙ (λ i. excluded (b i) (record { hours = o.hours i; marks = (day_said (rest_after 1 t)).marks }) (a i) k))

-- ==== stored sheets, with one header each

-- One whose header is read makes an input with the headers of its neighbours, or the empty lines for them: it is judged as the three headers are, has the
-- hours of the day itself, excludes them by the marks of the three, and its blocks are the day's own.
pub three_stored_sheets_make_one_input :
    (before sheet after : List ℕ)
    → OnePiece before
    → OnePiece after
    → header_fault sheet ≡ clear
    → ((front_of (day_input before sheet after)).fault ≡ at_line (headers_fault before sheet after))
    × ((front_of (day_input before sheet after)).header ≡ which_header (headers_fault before sheet after))
    × ((front_of (day_input before sheet after)).hours ≡ hours_of sheet)
    × ((k : ℕ) → (front_of (day_input before sheet after)).is_excluded k ≡ excluded (neighbour_of before) (day_said sheet) (neighbour_of after) k)
    × ((front_of (day_input before sheet after)).body ≡ behind sheet)
three_stored_sheets_make_one_input before sheet after b a read =
    let judged = stored_judged before sheet after b a read in (
      ap at_line judged,
      ap which_header judged,
      stored_hours before sheet after b a read,
      stored_excluded before sheet after b a read,
      stored_blocks before sheet after b a read,
    )

-- A header that is read is such a piece, and so is the empty line of a neighbour that is lacking.
pub a_stored_header_is_one_piece : (sheet : List ℕ) → header_fault sheet ≡ clear → OnePiece (first_piece sheet)
a_stored_header_is_one_piece = header_piece

pub an_empty_line_is_one_piece : OnePiece lacking
unfolding empty_in
an_empty_line_is_one_piece = refl

-- Without neighbours every hour of a stored sheet whose header is read is answered as before: by its block, excluded as document 01's rule says of its own header.
pub a_stored_sheet_alone_is_answered_as_before :
    (sheet : List ℕ)
    → header_fault sheet ≡ clear
    → ((front_of (day_input lacking sheet lacking)).fault ≡ clear)
    × ((front_of (day_input lacking sheet lacking)).hours ≡ hours_of sheet)
    × ((k : ℕ)
    → day_reply (front_of (day_input lacking sheet lacking)) k
    ≡ generator_answer (rest_after k (behind sheet)) (excluded_alone (day_said sheet) k) (Says (pos k) (hours_of sheet)))
a_stored_sheet_alone_is_answered_as_before sheet read =
    let one = an_empty_line_is_one_piece in
    let input = three_stored_sheets_make_one_input lacking sheet lacking one one read in
    let fault = input.0 ∙ ap at_line (none_refuses lacking sheet lacking refl read refl refl refl) in (
      fault,
      input.2,
      λ k.
          hour_clear (front_of (day_input lacking sheet lacking)) fault k
          ∙ hour_by (front_of (day_input lacking sheet lacking)) generator_answer refl k
          ∙ (λ i. generator_answer (rest_after k (input.4 i)) ((input.3 k ∙ both_lacking (day_said sheet) k) i) (Says (pos k) (input.2 i))),
    )
