-- A header that is not refused is spelt as it is printed.
use mathlib.Core.Path.{◌≡◌, refl, sym, ap, ◌∙◌, subst}
use mathlib.Core.Bool.{Bool, true, false, false≢true}
use mathlib.Core.List.{List, [], ◌∷◌, ◌++◌}
use Prim.Native.Nat.{ℕ, zero, suc, ◌+◌, ◌<◌}
use native.Mathlib.Nat.{add-zero}
use native.Mathlib.Omega.{arith}
use borrow.Author.Tests.{ltb-true, leb-true}
use lib.Dec.{eqb, ltb, lit<}
use lib.IntN.{ℤ, pos, negsuc}
use lib.ListN.{length, drop}
use lib.Signed.{le_z}
use Rattle.std.specs.Prelude.{if◌then◌else◌, None, Some}
use Rattle.exact.specs.Whole.{over, eq_z, up_to}
use Rattle.exact.proofs.Parts.{by_test}
use Rattle.exact.proofs.Sums.{up_same}
use Rattle.exact.proofs.Tests.{and_left, and_right}
use Rattle.tariff.specs.Derate.{one}
use Rattle.tariff.specs.Eligible.{marked}
use Rattle.tariff.specs.Sheet.{LONGEST_DAY, is_count, all_to, lies_in}
use Rattle.tariff.specs.Reply.{RANGE, clear}
use Rattle.tariff.proofs.Tests.{all_at}
use Rattle.tariff.proofs.Checks.{then_clear}
use Rattle.text.specs.Text.{key_at, Next}
use Rattle.text.specs.Number.{digit_at}
use Rattle.text.specs.Decimal.{number}
use Rattle.keys.specs.Keys.{FORM_LINE, HOURS_LINE, UNIT_LINE, RTC_LINE, CAT_LINE, key_of}
use Rattle.lines.specs.Cut.{behind}
use Rattle.lines.specs.Line.{and_then}
use Rattle.lines.specs.Print.{fields}
use Rattle.lines.proofs.Along.{never_at}
use Rattle.lines.proofs.Fill.{filled_at}
use Rattle.marks.proofs.Marked.{cut_inside}
use Rattle.marks.proofs.Rows.{marked_word}
use Rattle.header.specs.declared.layout.Line.{Line}
use Rattle.header.specs.declared.layout.Line.TheVariants.{Number, Row, Run, Close}
use Rattle.header.specs.Layout.{line_in, digits_at, row_at, said_at, header_line, line_place, number_from, digit_in, digit_from, line_in_range, layout_form, layout_range, line_of, number_on, digit_on}
use Rattle.header.specs.Header.{MARKS, unit_and_marks, form1, form2, layout_by, is_form2, form_by, form_of, count_of, layout_of, hours_of, header_fault, unit_of, row_word, marks_by, marks_of, next_under}
use Rattle.header.proofs.HeaderCounts.{a_header_that_is_read_has_a_count}
use Rattle.header.proofs.Forms.{one_number, UnitBehind, unit_behind}
use Rattle.header.proofs.HeaderLines.{none_refused, is_in_range, start_of}
use Rattle.header.proofs.HeaderEnds.{form_start, line_read, clear_next}
use Rattle.header.proofs.HeaderBehind.{clear_behind}
use Rattle.spelling.specs.Spelt.{Spelt}
use Rattle.spelling.specs.Value.{value_text}
use Rattle.spelling.specs.Header.{said_text, layout_text, row, category, mark, unit_and_marks_text, header_text}
use Rattle.spelling.proofs.Places.{none_spelt, both_spelt, key_spelt, fed_spelt}
use Rattle.spelling.proofs.Digits.{digit_spelt}
use Rattle.spelling.proofs.Fields.{fields_spelt}

-- ---- a row of digits
module _ (s : List ℕ) (at : ℕ) where
  all_spelt : (n : ℕ) → all_to (λ h. ltb (digit_at s (at + h)) 10) n ≡ true → Spelt s at (up_to (λ h. 48 + digit_at s (at + h)) n) (at + n)
  unfolding all_to up_to
  all_spelt zero e = none_spelt s at (at + 0) (sym (add-zero at))
  all_spelt (suc n) e =
      let d = digit_at s (at + n) in
      let digits = all_to (λ h. ltb (digit_at s (at + h)) 10) n in
      let u = ltb-true d 10 (and_right digits (ltb d 10) e) in
      let next : at + suc n ≡ at + n + 1 = omega arith in
      rw next (both_spelt (all_spelt n (and_left digits (ltb d 10) e)) (digit_spelt s (at + n) (λ z. omega arith)))

  digits_spelt : (hours next : ℕ) → digits_at hours s at ≡ Some next → Spelt s at (up_to (λ h. 48 + digit_at s (at + h)) hours) next
  unfolding digits_at
  digits_spelt hours next =
      by_test (all_to (λ h. ltb (digit_at s (at + h)) 10) hours)
      (λ b. (if b then Some (at + hours) else None) ≡ Some next → Spelt s at (up_to (λ h. 48 + digit_at s (at + h)) hours) next)
      (λ t e. let q : at + hours ≡ next = cc in rw (← q) (all_spelt hours t))
      (λ t e. absurd (never_at e))

-- ---- a line, with the text of what it says behind its key
abbrev SaysText : (hours : ℕ) → Line → List ℕ → Next → List ℕ → Type 0
SaysText hours (Number key least most) s x text = text ≡ value_text key (number_from key s x)
SaysText hours (Row key admitted) s x text = text ≡ row hours (digit_from key s x)
SaysText hours (Run key) s x text = ⊥
SaysText hours Close s x text = Unit {0}

row_spelt : (hours key : ℕ) (s : List ℕ) (at next : ℕ) → row_at hours key s at ≡ Some next → Spelt s at (key_of key ++ row hours (digit_from key s (Some at))) next
unfolding row_at row
row_spelt hours key s at next = go (key_at (key_of key) s at) refl
  where
    go : (a : Next) → key_at (key_of key) s at ≡ a → and_then a (digits_at hours s) ≡ Some next
        → Spelt s at (key_of key ++ up_to (λ h. 48 + digit_in h s a) hours) next
    go (Some b) p e = both_spelt (key_spelt key s at b p) (digits_spelt s b hours next e)
    go None p e = absurd (never_at e)

module _ (hours : ℕ) (s : List ℕ) (at : ℕ) where
  said_spelt : (line : Line) (text : List ℕ) → SaysText hours line s (Some at) text → (i : ℕ) → said_at hours line s at ≡ Some i
      → Spelt s at (said_text line text) i
  unfolding said_at fields
  said_spelt (Number key least most) text t i e =
      rw (add-zero key) at (fields_spelt key s at (text ∷ []) 1 i (λ j u. let z : j ≡ 0 = omega arith in rw (z, add-zero key) t) e)
  said_spelt (Row key admitted) text t i e = rw t (row_spelt hours key s at i e)
  said_spelt (Run key) text t i e = absurd t
  said_spelt Close text t i e = none_spelt s at i (cc)

  pub line_spelt : (line : Line) (text : List ℕ) (next : ℕ) → SaysText hours line s (Some at) text → header_line hours line s at ≡ Some next
      → Spelt s at (said_text line text ++ (10 ∷ [])) next
  unfolding header_line
  line_spelt line text next t e = fed_spelt (said_at hours line s at) (said_spelt line text t) e

-- ---- numbers and digits, as their ranges say
mark_digit : (d : ℕ) → d < 2 → one (eqb d 1) ≡ d
mark_digit zero u = refl
mark_digit (suc zero) u = refl
mark_digit (suc (suc d)) u = absurd (omega arith)

mark_number : (z : ℤ) → lies_in (pos 0) (pos 1) z ≡ true → pos (one (eq_z z (pos 1))) ≡ z
mark_number (pos n) e = let most = leb-true n 1 (and_right (le_z (pos 0) (pos n)) (le_z (pos n) (pos 1)) e) in ap pos (mark_digit n (omega arith))
mark_number (negsuc n) e = absurd (false≢true e)

-- ---- a line of a layout whose lines are as printed
line_of_text : (layout : List Line) (hours : ℕ) (s : List ℕ) → layout_form layout hours s ≡ clear → (j : ℕ) → j < length layout → (line : Line)
    → line_in layout j ≡ line → (text : List ℕ) → SaysText hours line s (line_place layout hours j s) text
    → Spelt s (start_of layout hours s j) (said_text line text ++ (10 ∷ [])) (start_of layout hours s (suc j))
line_of_text layout hours s form j u line is text t =
    line_spelt hours s (start_of layout hours s j) line text (start_of layout hours s (suc j))
    (rw (form_start layout hours s form j (omega arith)) at t)
    (rw is at (line_read layout hours s form j u))

-- ---- the lines from `unit` on, which stand behind the d first lines of a layout whose lines are as printed and in range
module _ (layout : List Line) (d hours : ℕ) (s : List ℕ) (form : layout_form layout hours s ≡ clear) (range : layout_range layout hours s ≡ clear)
    (o : UnitBehind layout d) where
  abbrev start : ℕ → ℕ
  start = start_of layout hours s

  abbrev place_on : ℕ → Next
  place_on j = line_place layout hours (d + j) s

  line_text_lem : (j : ℕ) → j < 10 → (text : List ℕ) → SaysText hours (line_in (unit_and_marks true) j) s (place_on j) text
      → Spelt s (start (d + j)) (said_text (line_in (unit_and_marks true) j) text ++ (10 ∷ [])) (start (d + suc j))
  line_text_lem j u text t =
      let next : suc (d + j) ≡ d + suc j = omega arith in
      let l = o.long in
      rw next at (line_of_text layout hours s form (d + j) (omega arith) (line_in (unit_and_marks true) j) (o.line j) text t)

  line_range : (j : ℕ) → j < 10 → line_in_range hours (line_in (unit_and_marks true) j) s (place_on j) ≡ true
  unfolding layout_range
  line_range j u = let l = o.long in rw (o.line j) at (none_refused (is_in_range layout hours s) RANGE (length layout) range (d + j) (omega arith))

  -- what stands behind a key
  at_key : (j : ℕ) → j < 9 → line_place layout hours (line_of (UNIT_LINE + j) layout) s ≡ place_on j
  at_key j u = ap (λ (n : ℕ). line_place layout hours n s) (o.key j u)

  -- a row that is held as a word
  word_text : (j : ℕ) → j < 9 → all_to (λ h. marked MARKS (digit_from (UNIT_LINE + j) s (place_on j) h)) hours ≡ true
      → row hours (mark (row_word layout hours (UNIT_LINE + j) s)) ≡ row hours (digit_from (UNIT_LINE + j) s (place_on j))
  unfolding row_word row digit_on
  word_text j u r =
      let digit = digit_from (UNIT_LINE + j) s (place_on j) in
      rw (at_key j u)
      (up_same _ _ hours (λ h l.
      let small = cut_inside 3 2 (digit h) (all_at (λ h. marked MARKS (digit h)) hours h r l) in
      ap (λ (d : ℕ). 48 + d) (ap one (marked_word (λ h. eqb (digit h) 1) hours h l) ∙ mark_digit (digit h) small)))

  cat_text : row hours (category (marks_by layout hours s)) ≡ row hours (digit_from CAT_LINE s (place_on 2))
  unfolding marks_by row digit_on
  cat_text =
      rw (← at_key 2 (lit< tt))
      (up_same _ _ hours (λ h l. ap (λ (d : ℕ). 48 + d) (sym (filled_at (digit_on layout hours CAT_LINE s) 0 hours LONGEST_DAY h l))))

  unit_text : number_on layout hours UNIT_LINE s ≡ number_from UNIT_LINE s (place_on 0)
  unfolding number_on
  unit_text = ap (number_from UNIT_LINE s) (at_key 0 (lit< tt))

  rtc_text : pos (one (eq_z (number_on layout hours RTC_LINE s) (pos 1))) ≡ number_from RTC_LINE s (place_on 1)
  unfolding number_on line_in_range
  rtc_text = rw (at_key 1 (lit< tt)) (mark_number (number_from RTC_LINE s (place_on 1)) (line_range 1 (lit< tt)))

  pub marks_spelt : Spelt s (start (d + 0)) (unit_and_marks_text hours (number_on layout hours UNIT_LINE s) (marks_by layout hours s)) (start (d + 10))
  unfolding unit_and_marks_text layout_text marks_by line_in_range value_text
  marks_spelt =
      both_spelt (line_text_lem 0 (lit< tt) _ (ap number unit_text))
      (both_spelt (line_text_lem 1 (lit< tt) _ (ap number rtc_text))
      (both_spelt (line_text_lem 2 (lit< tt) _ cat_text)
      (both_spelt (line_text_lem 3 (lit< tt) _ (word_text 3 (lit< tt) (line_range 3 (lit< tt))))
      (both_spelt (line_text_lem 4 (lit< tt) _ (word_text 4 (lit< tt) (line_range 4 (lit< tt))))
      (both_spelt (line_text_lem 5 (lit< tt) _ (word_text 5 (lit< tt) (line_range 5 (lit< tt))))
      (both_spelt (line_text_lem 6 (lit< tt) _ (word_text 6 (lit< tt) (line_range 6 (lit< tt))))
      (both_spelt (line_text_lem 7 (lit< tt) _ (word_text 7 (lit< tt) (line_range 7 (lit< tt))))
      (both_spelt (line_text_lem 8 (lit< tt) _ (word_text 8 (lit< tt) (line_range 8 (lit< tt))))
      (both_spelt (line_text_lem 9 (lit< tt) [] tt) (none_spelt s _ _ refl))))))))))

-- ---- a header without fault

lines_spelt : (two : Bool) (hours : ℕ) (s : List ℕ) → layout_form (layout_by (form_by two) true) hours s ≡ clear → layout_range (layout_by (form_by two) true) hours s ≡ clear
    → (two ≡ true → pos hours ≡ number_on (layout_by (form_by two) true) hours HOURS_LINE s)
    → Spelt s 0 (header_text two hours (number_on (layout_by (form_by two) true) hours UNIT_LINE s) (marks_by (layout_by (form_by two) true) hours s))
    (start_of (layout_by (form_by two) true) hours s (length (layout_by (form_by two) true)))
unfolding layout_range line_in_range line_place number_on value_text
lines_spelt true hours s form range says =
    let layout = form2 true in
    let ranged = none_refused (is_in_range layout hours s) RANGE (length layout) range in
    both_spelt (line_of_text layout hours s form 0 (lit< tt) (line_in layout 0) refl _ (ap number (one_number 2 (number_from FORM_LINE s (line_place layout hours 0 s)) (ranged 0 (lit< tt)))))
    (both_spelt (line_of_text layout hours s form 1 (lit< tt) (line_in layout 1) refl _ (ap number (says refl)))
    (marks_spelt layout 2 hours s form range (unit_behind true)))
lines_spelt false hours s form range says =
    let ranged = none_refused (is_in_range form1 hours s) RANGE (length form1) range in
    both_spelt (line_of_text form1 hours s form 0 (lit< tt) (line_in form1 0) refl _ (ap number (one_number 1 (number_from FORM_LINE s (line_place form1 hours 0 s)) (ranged 0 (lit< tt)))))
    (marks_spelt form1 1 hours s form range (unit_behind false))

-- form 2's second line says the count of the day's hours
hours_said_lem : (s : List ℕ) (hours : ℕ) → is_count (count_of s) ≡ true → is_form2 s ≡ true → pos (hours_of s) ≡ number_on (form2 true) hours HOURS_LINE s
unfolding number_on line_place header_line said_at
hours_said_lem s hours c two =
    let count : count_of s ≡ number_on (form2 false) 0 HOURS_LINE s = rw two in
    rw c (over_itself (count_of s) c ∙ count)
  where
    over_itself : (z : ℤ) → is_count z ≡ true → pos (over z) ≡ z
    over_itself (pos n) e = refl
    over_itself (negsuc n) e = absurd (false≢true e)

module _ (s : List ℕ) (e : header_fault s ≡ clear) where
  abbrev checks : (layout_form (layout_of s) (hours_of s) s ≡ clear) × (layout_range (layout_of s) (hours_of s) s ≡ clear)
  checks = then_clear (layout_form (layout_of s) (hours_of s) s) (layout_range (layout_of s) (hours_of s) s) e

  counted : is_count (count_of s) ≡ true
  counted = a_header_that_is_read_has_a_count s e

  judged : layout_of s ≡ layout_by (form_of s) true
  judged = ap (layout_by (form_of s)) counted

  spelt : Spelt s 0 (header_text (is_form2 s) (hours_of s) (unit_of s) (marks_of s)) (start_of (layout_of s) (hours_of s) s (length (layout_of s)))
  spelt =
      subst
      (λ (l : List Line). Spelt s 0 (header_text (is_form2 s) (hours_of s) (number_on l (hours_of s) UNIT_LINE s) (marks_by l (hours_of s) s)) (start_of l (hours_of s) s (length l)))
      (sym judged)
      (lines_spelt (is_form2 s) (hours_of s) s
      (subst (λ (l : List Line). layout_form l (hours_of s) s ≡ clear) judged checks.0)
      (subst (λ (l : List Line). layout_range l (hours_of s) s ≡ clear) judged checks.1)
      (λ two. hours_said_lem s (hours_of s) counted two ∙ ap (λ (t : Bool). number_on (layout_by (form_by t) true) (hours_of s) HOURS_LINE s) (sym two)))

  pub header_text_lem : s ≡ header_text (is_form2 s) (hours_of s) (unit_of s) (marks_of s) ++ behind s
  header_text_lem =
      let text = header_text (is_form2 s) (hours_of s) (unit_of s) (marks_of s) in
      let next : s ≡ text ++ drop (next_under (header_fault s) s) s = rw (clear_next s e) spelt.bytes in
      next ∙ ap (λ (l : List ℕ). text ++ l) (clear_behind s e)
