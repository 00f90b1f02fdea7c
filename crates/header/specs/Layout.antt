-- A layout is a list of lines, each as data: a number behind its key, from the least to the most that it may be; a row of digits behind its key,
-- one for each of the day's `hours`, with those that it admits; a run of digits behind its key, of any length and unjudged; and the closing
-- empty line. What stands here is said over any layout.
use Rattle.std.specs.Prelude.{if◌then◌else◌, Bool, true, false, List, [], ◌∷◌, ℕ, zero, suc, ◌+◌, ◌^◌, ltb, eqb, ℤ, pos, get_or, length, drop, None, Some}
use Rattle.tariff.specs.Sheet.{all_to, lies_in}
use Rattle.tariff.specs.Eligible.{marked}
use Rattle.tariff.specs.Reply.{FORM, RANGE, Verdict, unless, ◌then◌, first_of}
use Rattle.text.specs.Text.{key_at, Next}
use Rattle.text.specs.Number.{NO_DIGIT, is_numeral, digit_at}
use Rattle.keys.specs.Keys.{key_of}
use Rattle.lines.specs.Line.{is_at, and_then, after_fields, value_in, line_feed}
use Rattle.header.specs.declared.layout.Line.{Line}
use Rattle.header.specs.declared.layout.Line.TheVariants.{Number, Row, Run, Close}

-- the digits that a row admits, as a word: digit d by bit d
abbrev pub admits : List ℕ → ℕ
admits [] = 0
admits (digit ∷ rest) = 2 ^ digit + admits rest

-- line j, from 0
abbrev pub line_in : List Line → ℕ → Line
line_in layout j = get_or layout j Close

-- ---- the places of the lines

-- the digits of a row: exactly one for each hour, since what follows them is the line's end
unfoldable pub digits_at : (hours : ℕ) → List ℕ → ℕ → Next
digits_at hours s at = if all_to (λ h. ltb (digit_at s (at + h)) NO_DIGIT) hours then Some (at + hours) else None

unfoldable pub row_at : (hours key : ℕ) → List ℕ → ℕ → Next
row_at hours key s at = and_then (key_at (key_of key) s at) (digits_at hours s)

-- a run: as many digits as there are
unfoldable pub run_of : List ℕ → ℕ
run_of [] = 0
run_of (b ∷ t) = if is_numeral b then suc (run_of t) else 0

abbrev pub behind_run : List ℕ → ℕ → Next
behind_run s at = Some (at + run_of (drop at s))

-- the place behind what a line says
unfoldable pub said_at : (hours : ℕ) → Line → List ℕ → ℕ → Next
said_at hours (Number key least most) s at = after_fields key 1 s at
said_at hours (Row key admitted) s at = row_at hours key s at
said_at hours (Run key) s at = and_then (key_at (key_of key) s at) (behind_run s)
said_at hours Close s at = Some at

-- and behind the line
unfoldable pub header_line : (hours : ℕ) → Line → List ℕ → ℕ → Next
header_line hours line s at = and_then (said_at hours line s at) (line_feed s)

-- the place of line j; that of the line past the last is the place behind the header
unfoldable pub line_place : List Line → (hours j : ℕ) → List ℕ → Next
line_place layout hours zero s = Some 0
line_place layout hours (suc j) s = and_then (line_place layout hours j s) (header_line hours (line_in layout j) s)

-- ---- what a line says, from its place on

abbrev pub number_from : (key : ℕ) → List ℕ → Next → ℤ
number_from key s (Some at) = value_in key s at 0
number_from key s None = pos 0

abbrev pub digit_in : (h : ℕ) → List ℕ → Next → ℕ
digit_in h s (Some at) = digit_at s (at + h)
digit_in h s None = NO_DIGIT

-- the digit of hour h: the first is hour 0's
abbrev pub digit_from : (key : ℕ) → List ℕ → Next → ℕ → ℕ
digit_from key s place h = digit_in h s (and_then place (key_at (key_of key) s))

unfoldable pub line_in_range : (hours : ℕ) → Line → List ℕ → Next → Bool
line_in_range hours (Number key least most) s place = lies_in least most (number_from key s place)
line_in_range hours (Row key admitted) s place = all_to (λ h. marked admitted (digit_from key s place h)) hours
line_in_range hours (Run key) s place = true
line_in_range hours Close s place = true

-- ---- the two checks: the first line, from 1, that is not as printed, and the first that is out of range

unfoldable pub layout_form : List Line → (hours : ℕ) → List ℕ → Verdict
layout_form layout hours s = first_of (λ j. unless (is_at (line_place layout hours (suc j) s)) FORM (suc j)) (length layout)

unfoldable pub layout_range : List Line → (hours : ℕ) → List ℕ → Verdict
layout_range layout hours s = first_of (λ j. unless (line_in_range hours (line_in layout j) s (line_place layout hours j s)) RANGE (suc j)) (length layout)

abbrev pub layout_fault : List Line → (hours : ℕ) → List ℕ → Verdict
layout_fault layout hours s = layout_form layout hours s then layout_range layout hours s

-- ---- what stands behind a key

abbrev pub has_key : ℕ → Line → Bool
has_key k (Number key least most) = eqb key k
has_key k (Row key admitted) = eqb key k
has_key k (Run key) = eqb key k
has_key k Close = false

-- the line that has it
abbrev pub line_of : (key : ℕ) → List Line → ℕ
line_of key [] = 0
line_of key (line ∷ rest) = if has_key key line then 0 else suc (line_of key rest)

unfoldable pub number_on : List Line → (hours key : ℕ) → List ℕ → ℤ
number_on layout hours key s = number_from key s (line_place layout hours (line_of key layout) s)

unfoldable pub digit_on : List Line → (hours key : ℕ) → List ℕ → ℕ → ℕ
digit_on layout hours key s = digit_from key s (line_place layout hours (line_of key layout) s)
