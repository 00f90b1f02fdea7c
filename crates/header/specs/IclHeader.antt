-- The header of the day of an internal controllable line (ICL): its name, how many hours its day has, a mark for each of them, and the closing empty
-- line. An hour is eligible where it is marked (i) or (ii).
use Rattle.std.specs.Prelude.{Bool, true, List, ℕ, eqb, ℤ}
use Rattle.tariff.specs.Reply.{Verdict, clear, fault}
use Rattle.keys.specs.Keys.{LINE_LINE, MARK_LINE}
use Rattle.header.specs.declared.layout.Form.TheVariants.{Icl}
use Rattle.header.specs.declared.layout.Line.{Line}
use Rattle.header.specs.Layout.{number_on, digit_on}
use Rattle.header.specs.Header.{count_by, layout_in, hours_in, fault_in, next_in}

abbrev pub icl_count_of : List ℕ → ℤ
icl_count_of s = count_by Icl s

abbrev pub icl_layout_of : List ℕ → List Line
icl_layout_of s = layout_in Icl s

abbrev pub icl_hours_of : List ℕ → ℕ
icl_hours_of s = hours_in Icl s

abbrev pub icl_header_fault : List ℕ → Verdict
icl_header_fault s = fault_in Icl s

-- ---- what it says

abbrev pub icl_name_of : List ℕ → ℤ
icl_name_of s = number_on (icl_layout_of s) (icl_hours_of s) LINE_LINE s

-- the mark of hour h: 1 is (i), 2 is (ii)
abbrev pub icl_mark : List ℕ → ℕ → ℕ
icl_mark s h = digit_on (icl_layout_of s) (icl_hours_of s) MARK_LINE s h

-- whether it is not marked
abbrev pub icl_unmarked : List ℕ → ℕ → Bool
icl_unmarked s h = eqb (icl_mark s h) 0

-- a refused header makes no hour eligible
abbrev pub icl_unmarked_under : Verdict → List ℕ → ℕ → Bool
icl_unmarked_under clear s = icl_unmarked s
icl_unmarked_under (fault number place) s = λ h. true

abbrev pub icl_next_under : Verdict → List ℕ → ℕ
icl_next_under v s = next_in Icl v s
