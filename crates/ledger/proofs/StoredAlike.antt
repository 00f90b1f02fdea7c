-- Stored sheets that say the same of their day may stand for each other: as the day itself, and as a neighbour of the day's own unit.
use mathlib.Core.Path.{◌≡◌, refl, sym, ap, ◌∙◌}
use mathlib.Core.Bool.{Bool}
use mathlib.Core.List.{List}
use mathlib.Core.Logic.{inr}
use Prim.Native.Nat.{ℕ}
use borrow.Author.Tests.{ne_eqb}
use lib.IntN.{ℤ}
use Rattle.std.specs.Prelude.{if◌then◌else◌}
use Rattle.exact.specs.Whole.{eq_z}
use Rattle.tariff.specs.declared.MarkedDay.{MarkedDay}
use Rattle.tariff.specs.Reply.{RANGE, Verdict, clear, unless}
use Rattle.tariff.specs.Eligible.{excluded, no_day}
use Rattle.tariff.proofs.Counts.{hours_some}
use Rattle.text.specs.Text.{LF, byte_at}
use Rattle.lines.specs.Cut.{behind}
use Rattle.lines.specs.Pieces.{rest_after, first_piece, OnePiece}
use Rattle.lines.proofs.Closed.{one_itself}
use Rattle.header.specs.Header.{form_of, count_of, header_fault, unit_of, unit_line}
use Rattle.header.proofs.HeaderBehind.{not_empty}
use Rattle.ledger.specs.Headers.{is_lacking, day_said, neighbour_of, neighbour_fault, unit_fault, headers_fault, at_line, which_header}
use Rattle.ledger.specs.Day.{front_of}
use Rattle.ledger.specs.Demand.{SettledAlike}
use Rattle.ledger.specs.Stored.{day_input}
use Rattle.ledger.proofs.AnyFront.{same_settled}
use Rattle.ledger.proofs.ThreeHeads.{judged_by}
use Rattle.ledger.proofs.SheetFront.{SameHead, same_piece, neighbour_same}
use Rattle.ledger.proofs.FrontAlone.{stands_clear}
use Rattle.ledger.proofs.StoredDays.{header_piece, stored_blocks, stored_judged, stored_hours, stored_excluded}

-- two sheets that are read, of one unit, that say the same of their day
pub record SameSheet (s t : List ℕ) : Type 0 where
  pub one_read : header_fault s ≡ clear
  pub other_read_lem : header_fault t ≡ clear
  pub unit : unit_of s ≡ unit_of t
  pub day : day_said s ≡ day_said t

-- ---- two inputs by what their parts say
module _ (before sheet after before' sheet' after' : List ℕ) (b : OnePiece before) (a : OnePiece after) (read : header_fault sheet ≡ clear)
    (b' : OnePiece before') (a' : OnePiece after') (read' : header_fault sheet' ≡ clear) where
  parts_settled : headers_fault before sheet after ≡ headers_fault before' sheet' after' → day_said sheet ≡ day_said sheet'
      → neighbour_of before ≡ neighbour_of before' → neighbour_of after ≡ neighbour_of after' → behind sheet ≡ behind sheet'
      → SettledAlike (front_of (day_input before sheet after)) (front_of (day_input before' sheet' after'))
  parts_settled judged day early late blocks =
      same_settled _ _
      (record {
        fault = ap at_line same;
        header = ap which_header same;
        hours =
            stored_hours before sheet after b a read
            ∙ ap (λ (d : MarkedDay). d.hours) day
            ∙ sym (stored_hours before' sheet' after' b' a' read');
        is_excluded = λ k u.
            stored_excluded before sheet after b a read k
            ∙ (λ i. excluded (early i) (day i) (late i) k)
            ∙ sym (stored_excluded before' sheet' after' b' a' read' k);
      })
      refl
      (stored_blocks before sheet after b a read ∙ blocks ∙ sym (stored_blocks before' sheet' after' b' a' read'))
      (hours_some (count_of (rest_after 1 (day_input before' sheet' after'))))
    where
      same : headers_fault (day_input before sheet after) (rest_after 1 (day_input before sheet after)) (rest_after 2 (day_input before sheet after))
          ≡ headers_fault (day_input before' sheet' after') (rest_after 1 (day_input before' sheet' after')) (rest_after 2 (day_input before' sheet' after'))
      same = stored_judged before sheet after b a read ∙ judged ∙ sym (stored_judged before' sheet' after' b' a' read')

-- ---- as the day itself

-- a neighbour beside a day of a unit
abbrev unit_by : List ℕ → ℤ → Verdict
unit_by t unit = if is_lacking t then clear else unless (eq_z (unit_of t) unit) RANGE (unit_line t)

pub own_exchanged : (before after s t : List ℕ) → OnePiece before → OnePiece after → SameSheet s t → behind s ≡ behind t
    → SettledAlike (front_of (day_input before s after)) (front_of (day_input before t after))
own_exchanged before after s t b a o blocks =
    let read = o.one_read ∙ sym o.other_read_lem in
    parts_settled before s after before t after b a o.one_read b a o.other_read_lem
    (λ i. judged_by (neighbour_fault before) (read i) (neighbour_fault after) (unit_by before (o.unit i)) (unit_by after (o.unit i)))
    o.day refl refl blocks

-- ---- as a neighbour: its header is read, so that it is not lacking, and it is of the day's unit
module _ (s sheet : List ℕ) (read : header_fault s ≡ clear) (unit : unit_of s ≡ unit_of sheet) where
  same : SameHead (first_piece s) s
  same = same_piece (first_piece s) s (one_itself (first_piece s) (header_piece s read))

  clears : (neighbour_fault (first_piece s) ≡ clear) × (unit_fault (first_piece s) sheet ≡ clear)
  clears = stands_clear (first_piece s) sheet (inr (same.said.fault ∙ read, same.said.unit ∙ unit))

  says : neighbour_of (first_piece s) ≡ day_said s
  says = neighbour_same same ∙ ap (λ (b : Bool). if b then no_day else day_said s) (ne_eqb (byte_at s 0) LF (not_empty (form_of s) s read))

module _ (sheet s t : List ℕ) (read : header_fault sheet ≡ clear) (o : SameSheet s t) (unit : unit_of s ≡ unit_of sheet) where
  one : (neighbour_fault (first_piece s) ≡ clear) × (unit_fault (first_piece s) sheet ≡ clear)
  one = clears s sheet o.one_read unit

  other : (neighbour_fault (first_piece t) ≡ clear) × (unit_fault (first_piece t) sheet ≡ clear)
  other = clears t sheet o.other_read_lem (sym o.unit ∙ unit)

  day : neighbour_of (first_piece s) ≡ neighbour_of (first_piece t)
  day = says s sheet o.one_read unit ∙ o.day ∙ sym (says t sheet o.other_read_lem (sym o.unit ∙ unit))

  header : neighbour_fault (first_piece s) ≡ neighbour_fault (first_piece t)
  header = one.0 ∙ sym other.0

  of_unit : unit_fault (first_piece s) sheet ≡ unit_fault (first_piece t) sheet
  of_unit = one.1 ∙ sym other.1

  pub before_exchanged : (after : List ℕ) → OnePiece after
      → SettledAlike (front_of (day_input (first_piece s) sheet after)) (front_of (day_input (first_piece t) sheet after))
  before_exchanged after a =
      parts_settled (first_piece s) sheet after (first_piece t) sheet after (header_piece s o.one_read) a read (header_piece t o.other_read_lem) a read
      (λ i. judged_by (header i) (header_fault sheet) (neighbour_fault after) (of_unit i) (unit_fault after sheet))
      refl day refl refl

  pub after_exchanged : (before : List ℕ) → OnePiece before
      → SettledAlike (front_of (day_input before sheet (first_piece s))) (front_of (day_input before sheet (first_piece t)))
  after_exchanged before b =
      parts_settled before sheet (first_piece s) before sheet (first_piece t) b (header_piece s o.one_read) read b (header_piece t o.other_read_lem) read
      (λ i. judged_by (neighbour_fault before) (header_fault sheet) (header i) (unit_fault before sheet) (of_unit i))
      refl refl day refl
