-- The text of a header, line by line from its layout: each key and what stands behind it, and the closing empty line. Each row has a digit for
-- each of the day's `hours`, hour 0's first.
use Rattle.std.specs.Prelude.{◌≡◌, refl, Bool, true, false, List, [], ◌∷◌, ◌++◌, ℕ, ◌+◌, ℤ, pos, get_or, drop}
use Rattle.exact.specs.Whole.{up_to}
use Rattle.tariff.specs.declared.Marks.{Marks}
use Rattle.tariff.specs.Derate.{one}
use Rattle.tariff.specs.Eligible.{marked}
use Rattle.text.specs.Text.{ZERO, LF, bytes}
use Rattle.text.specs.Decimal.{natural, number}
use Rattle.keys.specs.Keys.{FORM_LINE, HOURS_LINE, key_of}
use Rattle.header.specs.declared.layout.Line.{Line}
use Rattle.header.specs.declared.layout.Line.TheVariants.{Number, Row, Run, Close}
use Rattle.header.specs.Header.{unit_and_marks}

-- ---- any layout

-- a line whose key has the text behind it
abbrev pub said_text : Line → List ℕ → List ℕ
said_text (Number key least most) text = key_of key ++ text
said_text (Row key admitted) text = key_of key ++ text
said_text (Run key) text = key_of key ++ text
said_text Close text = []

unfoldable pub layout_text : List Line → (texts : List (List ℕ)) → List ℕ
layout_text [] texts = []
layout_text (line ∷ rest) texts = (said_text line (get_or texts 0 []) ++ (LF ∷ [])) ++ layout_text rest (drop 1 texts)

-- ---- a row of marks

unfoldable pub row : (hours : ℕ) → (ℕ → ℕ) → List ℕ
row hours digit = up_to (λ h. ZERO + digit h) hours

-- the digit of an hour in `cat`, and in a row that is held as one word
abbrev pub category : Marks → ℕ → ℕ
category m h = get_or m.cat h 0

abbrev pub mark : (word : ℕ) → ℕ → ℕ
mark word h = one (marked word h)

-- ---- form 2 says how many hours the day has; the unit and the day's marks are what both forms say
unfoldable pub unit_and_marks_text : (hours : ℕ) → (unit : ℤ) → Marks → List ℕ
unit_and_marks_text hours unit m =
    layout_text (unit_and_marks true)
    (number unit
    ∷ number (pos (one m.rtc))
    ∷ row hours (category m)
    ∷ row hours (mark m.x1)
    ∷ row hours (mark m.x2)
    ∷ row hours (mark m.x3)
    ∷ row hours (mark m.x4)
    ∷ row hours (mark m.x5)
    ∷ row hours (mark m.x6)
    ∷ [])

abbrev pub number_line : (key : ℕ) → ℤ → List ℕ
number_line key z = (key_of key ++ number z) ++ (LF ∷ [])

abbrev pub header_text : (two : Bool) → (hours : ℕ) → (unit : ℤ) → Marks → List ℕ
header_text true hours unit m = number_line FORM_LINE (pos 2) ++ (number_line HOURS_LINE (pos hours) ++ unit_and_marks_text hours unit m)
header_text false hours unit m = number_line FORM_LINE (pos 1) ++ unit_and_marks_text hours unit m

-- ---- an example: three hours, of which x4 marks the last
three : header_text true 3 (pos 4711) (record { rtc = true; cat = 1 ∷ 5 ∷ 0 ∷ []; x1 = 0; x2 = 0; x3 = 0; x4 = 4; x5 = 0; x6 = 0 })
    ≡ bytes "form=2\nhours=3\nunit=4711\nrtc=1\ncat=150\nx1=000\nx2=000\nx3=000\nx4=001\nx5=000\nx6=000\n\n"
unfolding unit_and_marks_text layout_text row natural up_to
three = refl
