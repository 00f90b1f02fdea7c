-- Headers of both forms and what they are read as: good ones, and one for each way to be refused, with its line.
use Rattle.std.specs.Prelude.{◌≡◌, refl, true, false, List, [], ◌++◌, ℕ, suc, ◌^◌, length, replicate}
use Rattle.exact.specs.Whole.{up_to}
use Rattle.tariff.specs.Sheet.{all_to}
use Rattle.tariff.specs.Eligible.{marked}
use Rattle.tariff.specs.Reply.{Verdict, clear, fault, first_of}
use Rattle.text.specs.Text.{ZERO, bytes, key_at}
use Rattle.text.specs.Number.{digit_at, more_digits, natural_at, number_at}
use Rattle.keys.specs.Keys.{DA, X4_LINE}
use Rattle.lines.specs.Line.{value_at, field_at, after_fields, value_in}
use Rattle.marks.specs.Word.{word}
use Rattle.header.specs.declared.layout.Line.TheVariants.{Row}
use Rattle.header.specs.Layout.{line_in, digits_at, row_at, run_of, said_at, header_line, line_place, line_in_range, layout_form, layout_range, line_of, number_on, digit_on}
use Rattle.header.specs.Header.{CATEGORIES, MARKS, form1, form2, hours_of, header_fault, row_word, marks_by, marks_under, next_under}

-- what a proof by computation opens
unfoldable pub judged : List ℕ → Verdict
unfolding layout_form layout_range line_in_range number_on digit_on row_word marks_by line_place header_line said_at row_at digits_at run_of value_in after_fields field_at value_at key_at number_at natural_at more_digits digit_at all_to first_of up_to word
judged s = header_fault s

-- ---- the layout: category 2 is none, and a key stands on its line; one that no line has, past the last
category_three : marked CATEGORIES 3 ≡ true
category_three = refl

no_category_two : marked CATEGORIES 2 ≡ false
no_category_two = refl

fourth_exception : line_in form1 (line_of X4_LINE form1) ≡ Row X4_LINE MARKS
fourth_exception = refl

-- form 2 has a line more
fourth_exception2 : line_in (form2 true) (line_of X4_LINE (form2 true)) ≡ Row X4_LINE MARKS
fourth_exception2 = refl

no_such_line : line_of DA form1 ≡ length form1
no_such_line = refl

-- ---- the lines, one of them another
abbrev none : List ℕ
none = bytes "000000000000000000000000\n"

abbrev numbers : List ℕ
numbers = bytes "form=1\nunit=4711\nrtc=1\n"

abbrev category : List ℕ
category = bytes "cat=111111111111111111111110\n"

-- x2 to x6, and the closing empty line; x4 marks hour 5
abbrev others : List ℕ
others = bytes "x2=" ++ none ++ bytes "x3=" ++ none ++ bytes "x4=000001000000000000000000\nx5=" ++ none ++ bytes "x6="

abbrev rest : List ℕ
rest = bytes "x1=" ++ none ++ others ++ none ++ bytes "\n"

abbrev good : List ℕ
good = numbers ++ category ++ rest

good_clear : header_fault good ≡ clear
unfolding judged
good_clear = refl

good_marks : marks_under (header_fault good) good
    ≡ record { rtc = true; cat = replicate 23 1 ++ replicate 2 0; x1 = 0; x2 = 0; x3 = 0; x4 = 32; x5 = 0; x6 = 0 }
unfolding judged
good_marks = refl

-- what follows is left to its readers
good_next : next_under (header_fault (good ++ bytes "hour=0")) (good ++ bytes "hour=0") ≡ length good
unfolding judged
good_next = refl

-- ---- FORM: the first line that is not as printed
empty : header_fault [] ≡ fault 1 1
unfolding judged
empty = refl

empty_line_lem : header_fault (bytes "\n" ++ good) ≡ fault 1 1
unfolding judged
empty_line_lem = refl

leading_zero : header_fault (bytes "form=1\nunit=4711\nrtc=01\n" ++ category ++ rest) ≡ fault 1 3
unfolding judged
leading_zero = refl

digit_missing : header_fault (numbers ++ bytes "cat=11111111111111111111111\n" ++ rest) ≡ fault 1 4
unfolding judged
digit_missing = refl

digit_more : header_fault (numbers ++ bytes "cat=1111111111111111111111111\n" ++ rest) ≡ fault 1 4
unfolding judged
digit_more = refl

letter : header_fault (numbers ++ category ++ bytes "x1=00000000o000000000000000\n" ++ others ++ none ++ bytes "\n") ≡ fault 1 5
unfolding judged
letter = refl

-- a carriage return is a wrong byte of its line
carriage_return : header_fault (bytes "form=1\r\n") ≡ fault 1 1
unfolding judged
carriage_return = refl

not_closed : header_fault (numbers ++ category ++ bytes "x1=" ++ none ++ others ++ none) ≡ fault 1 11
unfolding judged
not_closed = refl

-- form 1 has no line for the count
count_in_form1 : header_fault (bytes "form=1\nhours=24\nunit=4711\nrtc=1\n" ++ category ++ rest) ≡ fault 1 2
unfolding judged
count_in_form1 = refl

-- ---- RANGE: the first line whose number or digit is another; another form is judged in form 1's layout
other_form : header_fault (bytes "form=3\nunit=4711\nrtc=1\n" ++ category ++ rest) ≡ fault 2 1
unfolding judged
other_form = refl

no_unit : header_fault (bytes "form=1\nunit=0\nrtc=1\n" ++ category ++ rest) ≡ fault 2 2
unfolding judged
no_unit = refl

other_rtc : header_fault (bytes "form=1\nunit=4711\nrtc=2\n" ++ category ++ rest) ≡ fault 2 3
unfolding judged
other_rtc = refl

category_two : header_fault (numbers ++ bytes "cat=111111111111111111111112\n" ++ rest) ≡ fault 2 4
unfolding judged
category_two = refl

mark_two : header_fault (numbers ++ category ++ bytes "x1=200000000000000000000000\n" ++ others ++ none ++ bytes "\n") ≡ fault 2 5
unfolding judged
mark_two = refl

-- FORM in line 10 comes before RANGE in line 1
form_first : header_fault (bytes "form=3\nunit=4711\nrtc=1\n" ++ category ++ bytes "x1=" ++ none ++ others ++ bytes "0\n\n") ≡ fault 1 10
unfolding judged
form_first = refl

-- ---- form 2: the count of the day's hours on line 2, and seven rows of so many digits
abbrev counted : List ℕ → List ℕ
counted count = bytes "form=2\nhours=" ++ count ++ bytes "\nunit=4711\nrtc=1\n"

-- all rows but `cat` and x4 are alike
abbrev rows : (cat x4 other : List ℕ) → List ℕ
rows cat x4 other =
    bytes "cat=" ++ cat ++ bytes "\nx1=" ++ other ++ bytes "\nx2=" ++ other ++ bytes "\nx3=" ++ other
    ++ bytes "\nx4=" ++ x4 ++ bytes "\nx5=" ++ other ++ bytes "\nx6=" ++ other ++ bytes "\n"

abbrev zeros : ℕ → List ℕ
zeros n = replicate n ZERO

-- the last hour is marked
abbrev last : ℕ → List ℕ
last n = zeros n ++ bytes "1"

abbrev alike : ℕ → List ℕ
alike n = rows (zeros n) (zeros n) (zeros n) ++ bytes "\n"

abbrev short : List ℕ
short = counted (bytes "23") ++ rows (replicate 23 (suc ZERO)) (last 22) (zeros 23) ++ bytes "\n"

abbrev long : List ℕ
long = counted (bytes "25") ++ rows (replicate 25 (suc ZERO)) (last 24) (zeros 25) ++ bytes "\n"

short_hours : hours_of short ≡ 23
unfolding judged
short_hours = refl

short_clear : header_fault short ≡ clear
unfolding judged
short_clear = refl

-- behind the day's last hour there is no category
short_marks : marks_under (header_fault short) short
    ≡ record { rtc = true; cat = replicate 23 1 ++ replicate 2 0; x1 = 0; x2 = 0; x3 = 0; x4 = 2 ^ 22; x5 = 0; x6 = 0 }
unfolding judged
short_marks = refl

short_next : next_under (header_fault (short ++ bytes "hour=0")) (short ++ bytes "hour=0") ≡ length short
unfolding judged
short_next = refl

long_hours : hours_of long ≡ 25
unfolding judged
long_hours = refl

long_clear : header_fault long ≡ clear
unfolding judged
long_clear = refl

long_marks : marks_under (header_fault long) long ≡ record { rtc = true; cat = replicate 25 1; x1 = 0; x2 = 0; x3 = 0; x4 = 2 ^ 24; x5 = 0; x6 = 0 }
unfolding judged
long_marks = refl

usual_clear : header_fault (counted (bytes "24") ++ alike 24) ≡ clear
unfolding judged
usual_clear = refl

-- ---- its form
no_count : header_fault (bytes "form=2\nunit=4711\nrtc=1\n" ++ category ++ rest) ≡ fault 1 2
unfolding judged
no_count = refl

-- another form has form 1's lines, so none for the count
count_in_form3 : header_fault (bytes "form=3\nhours=24\nunit=4711\nrtc=1\n" ++ category ++ rest) ≡ fault 1 2
unfolding judged
count_in_form3 = refl

count_leading_zero : header_fault (counted (bytes "024") ++ alike 24) ≡ fault 1 2
unfolding judged
count_leading_zero = refl

-- rows of 23 digits, where the count says 24
rows_too_short : header_fault (counted (bytes "24") ++ alike 23) ≡ fault 1 5
unfolding judged
rows_too_short = refl

-- ---- a count that no day has: the rows' lengths and digits are unjudged, all else of their form is not
other_count : header_fault (counted (bytes "22") ++ alike 24) ≡ fault 2 2
unfolding judged
other_count = refl

other_count_short : header_fault (counted (bytes "22") ++ rows (bytes "98765") (zeros 5) (zeros 5) ++ bytes "\n") ≡ fault 2 2
unfolding judged
other_count_short = refl

other_count_none : header_fault (counted (bytes "22") ++ alike 0) ≡ fault 2 2
unfolding judged
other_count_none = refl

count_above : header_fault (counted (bytes "26") ++ alike 26) ≡ fault 2 2
unfolding judged
count_above = refl

other_count_open : header_fault (counted (bytes "22") ++ rows (zeros 22) (zeros 22) (zeros 22)) ≡ fault 1 12
unfolding judged
other_count_open = refl

other_count_letter : header_fault (counted (bytes "22") ++ rows (zeros 22) (bytes "00o00") (zeros 22) ++ bytes "\n") ≡ fault 1 9
unfolding judged
other_count_letter = refl
