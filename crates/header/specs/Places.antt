-- The places of a header's lines, as the functions that read it hand them on.
use Rattle.std.specs.Prelude.{Result, Ok, Err, IfOk, ◌≡◌, Bool, true, List, ℕ, ◌-◌, ◌<◌, ◌≤◌, ltb, get_or, length, Some}
use Rattle.tariff.specs.declared.Check.{Check}
use Rattle.tariff.specs.Reply.{Verdict, clear, fault, number_of, place_of}
use Rattle.text.specs.Text.{ZERO}
use Rattle.keys.specs.Keys.{KEYS}
use Rattle.lines.specs.Line.{is_at, and_then, line_feed}
use Rattle.header.specs.declared.layout.Form.{Form}
use Rattle.header.specs.declared.layout.Line.{Line}
use Rattle.header.specs.declared.layout.Line.TheVariants.{Number, Row, Run, Close}
use Rattle.header.specs.declared.heads.Head.{Head}
use Rattle.header.specs.Layout.{row_at, header_line, line_place, digit_from}
use Rattle.header.specs.Header.{layout_by, hours_in, fault_in}

-- a line's key is one of the table's
abbrev pub is_keyed : Line → Bool
is_keyed (Number key least most) = ltb key KEYS
is_keyed (Row key admitted) = ltb key KEYS
is_keyed (Run key) = ltb key KEYS
is_keyed Close = true

-- a line of the layout is as printed at a place
pub record Stands (hours : ℕ) (line : Line) (s : List ℕ) (at : ℕ) : Type 0 where
  pub keyed : is_keyed line ≡ true
  pub whole : is_at (header_line hours line s at) ≡ true

-- and a row, whichever digits it admits
abbrev pub RowStands : (hours key : ℕ) → List ℕ → (at : ℕ) → Type 0
RowStands hours key s at = is_at (and_then (row_at hours key s at) (line_feed s)) ≡ true

-- the place of each line, all as printed, and that behind the header
abbrev pub Placed : (layout : List Line) → (hours : ℕ) → List ℕ → List ℕ → Type 0
Placed layout hours s at = (j : ℕ) → j ≤ length layout → line_place layout hours j s ≡ Some (get_or at j 0)

-- the digits of a row, one for each hour
pub record RowRead (hours key : ℕ) (s : List ℕ) (at : ℕ) (row : List ℕ) : Type 0 where
  pub long : length row ≡ hours
  pub digits : (h : ℕ) → h < hours → (ZERO ≤ get_or row h 0) × (get_or row h 0 - ZERO ≡ digit_from key s (Some at) h)

-- what refuses, where the code has found something or else a fault
abbrev pub fault_of : {A : Type 0} → Result A Check → Verdict
fault_of (Ok a) = clear
fault_of (Err check) = fault (number_of check) (place_of check)

-- a header of a form, as it is read; its rows are judged where it has no fault
pub record HeadRead (form : Form) (s : List ℕ) (r : Head) : Type 0 where
  pub hours : r.hours ≡ hours_in form s
  pub told : fault_of r.at ≡ fault_in form s
  pub placed : IfOk r.at (Placed (layout_by form true) r.hours s)
