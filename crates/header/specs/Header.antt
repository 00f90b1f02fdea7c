-- A header, a line per key. It knows FORM and RANGE only. A day's sheet has `form`, in form 2 `hours`, then `unit`, `rtc`, seven rows of marks and the
-- closing empty line: form 1 has eleven lines and is a day of 24 hours, form 2 has twelve and says how many hours its day has. The day of an
-- internal controllable line (ICL) has a header of its own, of four lines; what decides it is said here with the others, and what it says in IclHeader.
use Rattle.std.specs.Prelude.{if◌then◌else◌, Bool, true, false, List, [], ◌∷◌, ℕ, suc, eqb, ℤ, pos, length, Some}
use Rattle.exact.specs.Whole.{eq_z}
use Rattle.tariff.specs.declared.Marks.{Marks}
use Rattle.tariff.specs.Sheet.{SHORTEST_DAY, USUAL_DAY, LONGEST_DAY, is_count, hours_by}
use Rattle.tariff.specs.Eligible.{no_marks}
use Rattle.tariff.specs.Reply.{Verdict, clear, fault}
use Rattle.keys.specs.Keys.{FORM_LINE, HOURS_LINE, UNIT_LINE, RTC_LINE, CAT_LINE, X1_LINE, X2_LINE, X3_LINE, X4_LINE, X5_LINE, X6_LINE, LINE_LINE, MARK_LINE}
use Rattle.lines.specs.Line.{place_in, filled}
use Rattle.marks.specs.Word.{word}
use Rattle.header.specs.declared.layout.Form.{Form}
use Rattle.header.specs.declared.layout.Form.TheVariants.{One, Two, Icl}
use Rattle.header.specs.declared.layout.Line.{Line}
use Rattle.header.specs.declared.layout.Line.TheVariants.{Number, Row, Run, Close}
use Rattle.header.specs.Layout.{admits, line_place, number_from, layout_fault, line_of, number_on, digit_on}

-- ---- the lines

-- no category, and (i), (iii), (iv), (v) of 25.2.1
abbrev pub CATEGORIES : ℕ
CATEGORIES = admits (0 ∷ 1 ∷ 3 ∷ 4 ∷ 5 ∷ [])

-- not marked and marked
abbrev pub MARKS : ℕ
MARKS = admits (0 ∷ 1 ∷ [])

-- a row of marks is judged where a day has as many hours as the header says, and else neither by its length nor by its digits
abbrev pub row : (judged : Bool) → (key admitted : ℕ) → Line
row true key admitted = Row key admitted
row false key admitted = Run key

abbrev pub unit_and_marks : (judged : Bool) → List Line
unit_and_marks judged =
    Number UNIT_LINE (pos 1) (pos 9999999)
    ∷ Number RTC_LINE (pos 0) (pos 1)
    ∷ row judged CAT_LINE CATEGORIES
    ∷ row judged X1_LINE MARKS
    ∷ row judged X2_LINE MARKS
    ∷ row judged X3_LINE MARKS
    ∷ row judged X4_LINE MARKS
    ∷ row judged X5_LINE MARKS
    ∷ row judged X6_LINE MARKS
    ∷ Close
    ∷ []

abbrev pub form1 : List Line
form1 = Number FORM_LINE (pos 1) (pos 1) ∷ unit_and_marks true

abbrev pub form2 : (judged : Bool) → List Line
form2 judged = Number FORM_LINE (pos 2) (pos 2) ∷ Number HOURS_LINE (pos SHORTEST_DAY) (pos LONGEST_DAY) ∷ unit_and_marks judged

-- an ICL's hours: not eligible, marked (i) and marked (ii)
abbrev pub ICL_MARKS : ℕ
ICL_MARKS = admits (0 ∷ 1 ∷ 2 ∷ [])

abbrev pub icl_lines : (judged : Bool) → List Line
icl_lines judged =
    Number LINE_LINE (pos 1) (pos 9999999)
    ∷ Number HOURS_LINE (pos SHORTEST_DAY) (pos LONGEST_DAY)
    ∷ row judged MARK_LINE ICL_MARKS
    ∷ Close
    ∷ []

abbrev pub layout_by : Form → (judged : Bool) → List Line
layout_by One judged = form1
layout_by Two judged = form2 judged
layout_by Icl judged = icl_lines judged

-- ---- a text as a header of a form: how many hours its day has, which lines that gives it, and the two checks

-- form 1 is a usual day's, and the others say the count on their second line. That stands in front of every row, so that nothing has to be known of
-- their lengths
abbrev pub count_by : Form → List ℕ → ℤ
count_by One s = pos USUAL_DAY
count_by Two s = number_on (form2 false) 0 HOURS_LINE s
count_by Icl s = number_on (icl_lines false) 0 HOURS_LINE s

abbrev pub layout_in : Form → List ℕ → List Line
layout_in form s = layout_by form (is_count (count_by form s))

abbrev pub hours_in : Form → List ℕ → ℕ
hours_in form s = hours_by (count_by form s)

abbrev pub fault_in : Form → List ℕ → Verdict
fault_in form s = layout_fault (layout_in form s) (hours_in form s) s

-- the place behind it. That of a refused header is given as 0, which decides nothing: every hour is refused
abbrev pub next_in : Form → Verdict → List ℕ → ℕ
next_in form clear s = place_in (line_place (layout_in form s) (hours_in form s) (length (layout_in form s)) s)
next_in form (fault number place) s = 0

-- ---- a day's sheet: the value on line 1 decides the form, where every number but 2 is form 1's

abbrev pub is_form2 : List ℕ → Bool
is_form2 s = eq_z (number_from FORM_LINE s (Some 0)) (pos 2)

abbrev pub form_by : (two : Bool) → Form
form_by two = if two then Two else One

abbrev pub form_of : List ℕ → Form
form_of s = form_by (is_form2 s)

abbrev pub count_of : List ℕ → ℤ
count_of s = count_by (form_of s) s

abbrev pub layout_of : List ℕ → List Line
layout_of s = layout_in (form_of s) s

abbrev pub hours_of : List ℕ → ℕ
hours_of s = hours_in (form_of s) s

abbrev pub header_fault : List ℕ → Verdict
header_fault s = fault_in (form_of s) s

-- ---- the unit, and the marks, each row one word, `cat` apart

abbrev pub unit_of : List ℕ → ℤ
unit_of s = number_on (layout_of s) (hours_of s) UNIT_LINE s

-- the line that says it, from 1: form 2 has a line more in front of it
abbrev pub unit_line : List ℕ → ℕ
unit_line s = suc (line_of UNIT_LINE (layout_of s))

unfoldable pub row_word : List Line → (hours key : ℕ) → List ℕ → ℕ
row_word layout hours key s = word hours (λ h. eqb (digit_on layout hours key s h) 1)

-- behind the day's last hour there is no category
unfoldable pub marks_by : List Line → (hours : ℕ) → List ℕ → Marks
marks_by layout hours s =
    record {
      rtc = eq_z (number_on layout hours RTC_LINE s) (pos 1);
      cat = filled hours LONGEST_DAY (digit_on layout hours CAT_LINE s) 0;
      x1 = row_word layout hours X1_LINE s;
      x2 = row_word layout hours X2_LINE s;
      x3 = row_word layout hours X3_LINE s;
      x4 = row_word layout hours X4_LINE s;
      x5 = row_word layout hours X5_LINE s;
      x6 = row_word layout hours X6_LINE s;
    }

abbrev pub marks_of : List ℕ → Marks
marks_of s = marks_by (layout_of s) (hours_of s) s

-- a refused header has none, and its unit is given as 0
abbrev pub marks_under : Verdict → List ℕ → Marks
marks_under clear s = marks_of s
marks_under (fault number place) s = no_marks

abbrev pub unit_under : Verdict → List ℕ → ℤ
unit_under clear s = unit_of s
unit_under (fault number place) s = pos 0

abbrev pub next_under : Verdict → List ℕ → ℕ
next_under v s = next_in (form_of s) v s
