-- What stands in front of a day's blocks: three headers, of the day before, its own and of the day after, each a piece that its empty line closes. A
-- neighbour that is lacking is one empty line.
use Rattle.std.specs.Prelude.{if◌then◌else◌, Bool, List, ℕ, eqb}
use Rattle.exact.specs.Whole.{eq_z}
use Rattle.tariff.specs.declared.MarkedDay.{MarkedDay}
use Rattle.tariff.specs.Reply.{RANGE, Finding, Verdict, clear, fault, unless, ◌then◌, put_in}
use Rattle.tariff.specs.Eligible.{no_day}
use Rattle.text.specs.Text.{LF, byte_at}
use Rattle.header.specs.Header.{hours_of, header_fault, unit_of, unit_line, marks_under}

-- a text that begins with LF has an empty line there
abbrev pub is_lacking : List ℕ → Bool
is_lacking s = eqb (byte_at s 0) LF

-- ---- what a header says of its day: a refused one its count, and no marks. A neighbour that is lacking adds none either

abbrev pub day_said : List ℕ → MarkedDay
day_said s = record { hours = hours_of s; marks = marks_under (header_fault s) s }

abbrev pub neighbour_of : List ℕ → MarkedDay
neighbour_of s = if is_lacking s then no_day else day_said s

-- ---- what refuses it

abbrev pub neighbour_fault : List ℕ → Verdict
neighbour_fault s = if is_lacking s then clear else header_fault s

-- a neighbour of another unit is out of range, at its line `unit`. It is asked when none of the three is refused
abbrev pub unit_fault : (neighbour own : List ℕ) → Verdict
unit_fault neighbour own = if is_lacking neighbour then clear else unless (eq_z (unit_of neighbour) (unit_of own)) RANGE (unit_line neighbour)

-- a line of one of the three: header 0 is the day before's, 1 the day's own, 2 the day after's
pub data HeaderLine : Type 0 where
  in_header : (header line : ℕ) → HeaderLine

-- each header in the order read; then the units, the day before first
abbrev pub headers_fault : (before own after : List ℕ) → Finding HeaderLine
headers_fault before own after =
    put_in (in_header 0) (neighbour_fault before)
    then put_in (in_header 1) (header_fault own)
    then put_in (in_header 2) (neighbour_fault after)
    then put_in (in_header 0) (unit_fault before own)
    then put_in (in_header 2) (unit_fault after own)

-- a fault at its line, and which header that line is in; where none refuses, the number says nothing
abbrev pub at_line : Finding HeaderLine → Verdict
at_line clear = clear
at_line (fault number (in_header header line)) = fault number line

abbrev pub which_header : Finding HeaderLine → ℕ
which_header clear = 0
which_header (fault number (in_header header line)) = header
