-- The front of an input that three stored sheets make: each header stands alone in its place, and behind them the blocks of the day itself.
use mathlib.Core.Path.{◌≡◌, sym, ap, ◌∙◌}
use mathlib.Core.List.{List, ◌++◌}
use Prim.Native.Nat.{ℕ}
use Rattle.tariff.specs.Reply.{clear}
use Rattle.tariff.specs.Eligible.{excluded}
use Rattle.lines.specs.Cut.{behind}
use Rattle.lines.specs.Pieces.{rest_after, first_piece, OnePiece}
use Rattle.lines.proofs.Closed.{one_itself, one_first, one_behind, first_one}
use Rattle.header.specs.Header.{form_of, hours_of, header_fault}
use Rattle.header.proofs.HeaderBehind.{ends_empty_lem}
use Rattle.ledger.specs.Headers.{day_said, neighbour_of, headers_fault}
use Rattle.ledger.specs.Day.{front_of}
use Rattle.ledger.specs.Stored.{day_input}
use Rattle.ledger.proofs.SheetFront.{SameHead, same_piece, headers_same, day_same, neighbour_same}

-- the header of a sheet that is read is one piece
pub header_piece : (sheet : List ℕ) → header_fault sheet ≡ clear → OnePiece (first_piece sheet)
header_piece sheet read = first_one sheet _ (ends_empty_lem (form_of sheet) sheet read)

module _ (before sheet after : List ℕ) (one : OnePiece before) (other : OnePiece after) (read : header_fault sheet ≡ clear) where
  abbrev input : List ℕ
  input = day_input before sheet after

  own_one : OnePiece (first_piece sheet)
  own_one = header_piece sheet read

  -- ---- where each stands

  second : rest_after 1 input ≡ first_piece sheet ++ (after ++ behind sheet)
  unfolding rest_after
  second = one_behind before _ one

  third : rest_after 2 input ≡ after ++ behind sheet
  unfolding rest_after
  third = ap behind second ∙ one_behind (first_piece sheet) _ own_one

  pub stored_blocks : (front_of input).body ≡ behind sheet
  unfolding rest_after
  stored_blocks = ap behind third ∙ one_behind after _ other

  before_head : SameHead input before
  before_head = same_piece input before (one_first before _ one ∙ sym (one_itself before one))

  own_head : SameHead (rest_after 1 input) sheet
  own_head = same_piece (rest_after 1 input) sheet (ap first_piece second ∙ one_first (first_piece sheet) _ own_one)

  after_head : SameHead (rest_after 2 input) after
  after_head = same_piece (rest_after 2 input) after (ap first_piece third ∙ one_first after _ other ∙ sym (one_itself after other))

  -- ---- what they say

  pub stored_judged : headers_fault input (rest_after 1 input) (rest_after 2 input) ≡ headers_fault before sheet after
  stored_judged = headers_same before_head own_head after_head

  pub stored_hours : (front_of input).hours ≡ hours_of sheet
  stored_hours = own_head.said.hours

  pub stored_excluded : (k : ℕ) → (front_of input).is_excluded k ≡ excluded (neighbour_of before) (day_said sheet) (neighbour_of after) k
  stored_excluded k = λ i. excluded (neighbour_same before_head i) (day_same own_head.said i) (neighbour_same after_head i) k
