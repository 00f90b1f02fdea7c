-- Headers of an internal controllable line's day and what they are read as: good ones, and one for each way to be refused, with its line.
use Rattle.std.specs.Prelude.{◌≡◌, refl, true, false, List, [], ◌++◌, ℕ, ◌-◌, ◌^◌, pos, length, replicate}
use Rattle.tariff.specs.Eligible.{marked}
use Rattle.tariff.specs.Reply.{clear, fault}
use Rattle.text.specs.Text.{ZERO, bytes}
use Rattle.keys.specs.Keys.{FORM_LINE, MARK_LINE}
use Rattle.marks.specs.Word.{word}
use Rattle.header.specs.declared.layout.Line.TheVariants.{Row}
use Rattle.header.specs.Layout.{line_in, line_of}
use Rattle.header.specs.Header.{ICL_MARKS, icl_lines}
use Rattle.header.specs.IclHeader.{icl_hours_of, icl_header_fault, icl_name_of, icl_unmarked_under, icl_next_under}
use Rattle.header.specs.Examples.{judged}

-- ---- the layout
two_marks : (marked ICL_MARKS 1 ≡ true) × (marked ICL_MARKS 2 ≡ true) × (marked ICL_MARKS 3 ≡ false)
two_marks = (refl, refl, refl)

third_line : line_in (icl_lines true) (line_of MARK_LINE (icl_lines true)) ≡ Row MARK_LINE ICL_MARKS
third_line = refl

no_form : line_of FORM_LINE (icl_lines true) ≡ length (icl_lines true)
no_form = refl

-- ---- the lines, one of them another
abbrev day : (name count mark : List ℕ) → List ℕ
day name count mark = bytes "line=" ++ name ++ bytes "\nhours=" ++ count ++ bytes "\nmark=" ++ mark ++ bytes "\n\n"

abbrev zeros : ℕ → List ℕ
zeros n = replicate n ZERO

-- hour 0 is marked (i), hour 1 (ii), and no other
abbrev first : ℕ → List ℕ
first n = bytes "12" ++ zeros n

-- as the word of the unmarked hours is read
abbrev unmarked : List ℕ → ℕ
unmarked s = word (icl_hours_of s) (icl_unmarked_under (icl_header_fault s) s)

abbrev good : List ℕ
good = day (bytes "77") (bytes "24") (first 22)

good_clear : icl_header_fault good ≡ clear
unfolding judged
good_clear = refl

good_name : icl_name_of good ≡ pos 77
unfolding judged
good_name = refl

good_unmarked : unmarked good ≡ 2 ^ 24 - 1 - 1 - 2
unfolding judged
good_unmarked = refl

-- what follows is left to its readers
good_next : icl_next_under (icl_header_fault (good ++ bytes "hour=0")) (good ++ bytes "hour=0") ≡ length good
unfolding judged
good_next = refl

short_read : (icl_header_fault (day (bytes "1") (bytes "23") (first 21)) ≡ clear)
    × (icl_hours_of (day (bytes "1") (bytes "23") (first 21)) ≡ 23)
    × (unmarked (day (bytes "1") (bytes "23") (first 21)) ≡ 2 ^ 23 - 1 - 1 - 2)
unfolding judged
short_read = (refl, refl, refl)

long_read : (icl_header_fault (day (bytes "9999999") (bytes "25") (first 23)) ≡ clear)
    × (icl_hours_of (day (bytes "9999999") (bytes "25") (first 23)) ≡ 25)
    × (unmarked (day (bytes "9999999") (bytes "25") (first 23)) ≡ 2 ^ 25 - 1 - 1 - 2)
unfolding judged
long_read = (refl, refl, refl)

-- ---- FORM: the first line that is not as printed
empty : icl_header_fault [] ≡ fault 1 1
unfolding judged
empty = refl

empty_line_lem : icl_header_fault (bytes "\n" ++ good) ≡ fault 1 1
unfolding judged
empty_line_lem = refl

-- a day's sheet is no ICL's
a_sheet : icl_header_fault (bytes "form=2\nhours=24\n") ≡ fault 1 1
unfolding judged
a_sheet = refl

-- no number has eight digits
name_long : icl_header_fault (day (bytes "10000000") (bytes "24") (first 22)) ≡ fault 1 1
unfolding judged
name_long = refl

leading_zero : icl_header_fault (day (bytes "77") (bytes "024") (first 22)) ≡ fault 1 2
unfolding judged
leading_zero = refl

digit_missing : icl_header_fault (day (bytes "77") (bytes "24") (first 21)) ≡ fault 1 3
unfolding judged
digit_missing = refl

digit_more : icl_header_fault (day (bytes "77") (bytes "24") (first 23)) ≡ fault 1 3
unfolding judged
digit_more = refl

letter : icl_header_fault (day (bytes "77") (bytes "24") (zeros 10 ++ bytes "o" ++ zeros 13)) ≡ fault 1 3
unfolding judged
letter = refl

not_closed : icl_header_fault (bytes "line=77\nhours=24\nmark=" ++ zeros 24 ++ bytes "\n") ≡ fault 1 4
unfolding judged
not_closed = refl

-- ---- RANGE: the first line whose number or digit is another
no_name : icl_header_fault (day (bytes "0") (bytes "24") (first 22)) ≡ fault 2 1
unfolding judged
no_name = refl

name_below : icl_header_fault (day (bytes "-1") (bytes "24") (first 22)) ≡ fault 2 1
unfolding judged
name_below = refl

mark_three : icl_header_fault (day (bytes "77") (bytes "24") (bytes "3" ++ zeros 23)) ≡ fault 2 3
unfolding judged
mark_three = refl

-- line 1 comes before line 3, and FORM in line 4 before RANGE in line 1
name_first : icl_header_fault (day (bytes "0") (bytes "24") (bytes "3" ++ zeros 23)) ≡ fault 2 1
unfolding judged
name_first = refl

form_first : icl_header_fault (bytes "line=0\nhours=24\nmark=" ++ zeros 24 ++ bytes "\n") ≡ fault 1 4
unfolding judged
form_first = refl

-- no hour of a refused header's day is eligible
refused_unmarked : unmarked (day (bytes "0") (bytes "24") (first 22)) ≡ 2 ^ 24 - 1
unfolding judged
refused_unmarked = refl

-- ---- a count that no day has: the row's length and digits are unjudged, all else of its form is not
other_count : icl_header_fault (day (bytes "77") (bytes "22") (first 22)) ≡ fault 2 2
unfolding judged
other_count = refl

count_above : icl_header_fault (day (bytes "77") (bytes "26") (first 24)) ≡ fault 2 2
unfolding judged
count_above = refl

other_count_short : icl_header_fault (day (bytes "77") (bytes "22") (bytes "98765")) ≡ fault 2 2
unfolding judged
other_count_short = refl

other_count_none : icl_header_fault (day (bytes "77") (bytes "22") []) ≡ fault 2 2
unfolding judged
other_count_none = refl

other_count_letter : icl_header_fault (day (bytes "77") (bytes "22") (bytes "00o00")) ≡ fault 1 3
unfolding judged
other_count_letter = refl

other_count_open : icl_header_fault (bytes "line=77\nhours=22\nmark=" ++ zeros 22 ++ bytes "\n") ≡ fault 1 4
unfolding judged
other_count_open = refl

-- its name comes first
name_before_count : icl_header_fault (day (bytes "0") (bytes "22") (zeros 22)) ≡ fault 2 1
unfolding judged
name_before_count = refl
