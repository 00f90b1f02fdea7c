-- What the lines of a header say: the digits of a row, the ranges, and the marks behind their keys.
use mathlib.Core.Path.{◌≡◌, refl, sym, ◌∙◌, ap}
use mathlib.Core.Bool.{Bool, true, false≢true}
use mathlib.Core.List.{List}
use Prim.Native.Nat.{ℕ, ◌+◌, ◌-◌, ◌≤◌, ◌<◌}
use native.Mathlib.Omega.{arith}
use lib.Dec.{eqb, ltb, lit<}
use lib.IntN.{ℤ}
use lib.ListN.{get_or, length, take, drop, length-drop}
use lib.Seq.{get_or-take, get_or-drop}
use Rattle.std.proofs.lemmas.List.{length-take}
use Rattle.std.proofs.lemmas.Bool.Decides.{nat_tests}
use Rattle.std.specs.Prelude.{if◌then◌else◌, None, Some}
use Rattle.exact.proofs.Parts.{by_test}
use Rattle.tariff.specs.Sheet.{all_to, lies_in}
use Rattle.tariff.specs.Eligible.{marked}
use Rattle.tariff.proofs.Tests.{all_at, all_same}
use Rattle.text.specs.Text.{byte_at, key_at, Next}
use Rattle.text.specs.Number.{digit_of, digit_at}
use Rattle.text.proofs.Numbers.{byte_inside, inside_same}
use Rattle.keys.specs.Keys.{key_of}
use Rattle.lines.specs.Line.{is_at, place_in, and_then, line_feed, filled}
use Rattle.lines.proofs.Fill.{filled_same}
use Rattle.lines.proofs.Ended.{feed_ends}
use Rattle.marks.specs.Word.{word}
use Rattle.marks.proofs.Rows.{word_same}
use Rattle.header.specs.declared.layout.Line.{Line}
use Rattle.header.specs.declared.layout.Line.TheVariants.{Number, Row}
use Rattle.header.specs.Layout.{digits_at, row_at, said_at, header_line, line_place, number_from, digit_in, digit_from, line_in_range, line_of, number_on, digit_on}
use Rattle.header.specs.Places.{RowStands, RowRead, Placed}
use Rattle.header.proofs.HeaderLines.{is_at_lem, is_at_first, is_at_then}
use Rattle.header.proofs.Digits.{is_digit}

digits_place : (hours : ℕ) (s : List ℕ) (p : ℕ) → is_at (digits_at hours s p) ≡ true → digits_at hours s p ≡ Some (p + hours)
unfolding digits_at
digits_place hours s p =
    by_test (all_to (is_digit s p) hours)
    (λ b. is_at (if b then Some (p + hours) else None) ≡ true → (if b then Some (p + hours) else None) ≡ Some (p + hours))
    (λ h e. refl)
    (λ h e. absurd (false≢true e))

digits_all : (hours : ℕ) (s : List ℕ) (p : ℕ) → is_at (digits_at hours s p) ≡ true → all_to (is_digit s p) hours ≡ true
unfolding digits_at
digits_all hours s p =
    by_test (all_to (is_digit s p) hours)
    (λ b. is_at (if b then Some (p + hours) else None) ≡ true → b ≡ true)
    (λ h e. refl)
    (λ h e. e)

-- a byte that says a digit
numeral_says : (b : ℕ) → ltb (digit_of b) 10 ≡ true → (48 ≤ b) × (b - 48 ≡ digit_of b)
numeral_says b e = grind (arith, nat_tests)

feed_inside : (s : List ℕ) (i : ℕ) → is_at (line_feed s i) ≡ true → i < length s
feed_inside s i e = byte_inside s i 10 (feed_ends s i _ (is_at_lem (line_feed s i) e)).0 (lit< tt)

-- a row that is as printed, by its line
pub row_whole : (hours key admitted : ℕ) (s : List ℕ) (at : ℕ) → is_at (header_line hours (Row key admitted) s at) ≡ true → RowStands hours key s at
unfolding header_line said_at
row_whole hours key admitted s at whole = whole

-- its key, its digits and its end
module _ (hours key : ℕ) (s : List ℕ) (at : ℕ) (whole : RowStands hours key s at) where
  abbrev pub row_key : Next
  row_key = key_at (key_of key) s at

  row_digits : is_at (and_then row_key (digits_at hours s)) ≡ true
  unfolding row_at
  row_digits = is_at_first (row_at hours key s at) (line_feed s) whole

  row_key_lem : row_key ≡ Some (place_in row_key)
  row_key_lem = is_at_lem row_key (is_at_first row_key (digits_at hours s) row_digits)

  -- the place after its digits
  pub row_end : row_at hours key s at ≡ Some (place_in row_key + hours)
  unfolding row_at
  row_end =
      let digits = is_at_then row_key (digits_at hours s) row_digits in
      ap (λ (x : Next). and_then x (digits_at hours s)) row_key_lem ∙ digits_place hours s (place_in row_key) digits

  pub digit_on_lem : (h : ℕ) → digit_from key s (Some at) h ≡ digit_at s (place_in row_key + h)
  digit_on_lem h = ap (digit_in h s) row_key_lem

  -- read from its first digit on
  module _ (start : ℕ) (p : start ≡ place_in row_key) where
    pub start_inside : start + hours ≤ length s
    start_inside =
        let inside = feed_inside s (place_in row_key + hours) (ap (λ (x : Next). is_at (and_then x (line_feed s))) (sym row_end) ∙ whole) in
        omega arith

    pub row_read : RowRead hours key s at (take (start + hours - start) (drop start s))
    unfolding digit_at
    row_read =
        let inside = start_inside in
        let n : start + hours - start ≡ hours = omega arith in
        let digits = is_at_then row_key (digits_at hours s) row_digits in
        record {
          long = omega (arith, length-take (start + hours - start) (drop start s), length-drop start s);
          digits = λ h u.
              let here : get_or (take (start + hours - start) (drop start s)) h 0 ≡ byte_at s (start + h) =
              ap (λ (k : ℕ). get_or (take k (drop start s)) h 0) n
              ∙ get_or-take hours (drop start s) h 0 u
              ∙ get_or-drop start s h 0
              ∙ inside_same s (start + h) 0 256 (omega arith) in
              let said = numeral_says (byte_at s (start + h)) (ap (λ (k : ℕ). ltb (digit_at s (k + h)) 10) p ∙ all_at _ hours h (digits_all hours s (place_in row_key) digits) u) in
              rw here (said.0, said.1 ∙ ap (λ (k : ℕ). digit_at s (k + h)) p ∙ sym (digit_on_lem h));
        }

-- ---- a line's range, as the code tests it
pub number_range : (hours : ℕ) {line : Line} (s : List ℕ) (at : ℕ) {key : ℕ} {least most low high z : ℤ} {r : Bool} → line ≡ Number key least most
    → low ≡ least → high ≡ most → z ≡ number_from key s (Some at) → r ≡ lies_in low high z → r ≡ line_in_range hours line s (Some at)
unfolding line_in_range
number_range hours s at is l h n e = rw is (e ∙ (λ i. lies_in (l i) (h i) (n i)))

module _ (hours : ℕ) {line : Line} (s : List ℕ) (at : ℕ) {key admitted : ℕ} (is : line ≡ Row key admitted) where
  pub row_printed : is_at (header_line hours line s at) ≡ true → RowStands hours key s at
  row_printed whole = row_whole hours key admitted s at (rw is at whole)

  pub row_range : {row : List ℕ} {r : Bool} → RowRead hours key s at row → r ≡ all_to (λ h. marked admitted (get_or row h 0 - 48)) (length row)
      → r ≡ line_in_range hours line s (Some at)
  unfolding line_in_range
  row_range read e = rw is (e ∙ rw read.long (all_same _ _ hours (λ h u. ap (marked admitted) (read.digits h u).1)))

-- ---- a row's digits, as an array and as a word
module _ (hours key : ℕ) (s : List ℕ) (at : ℕ) {row : List ℕ} (read : RowRead hours key s at row) where
  pub row_array : (most : ℕ) → filled (length row) most (λ h. get_or row h 0 - 48) 0 ≡ filled hours most (digit_from key s (Some at)) 0
  row_array most = rw read.long (filled_same _ _ 0 hours most (λ h u. (read.digits h u).1))

  pub row_word_lem : (digit : ℕ) → word (length row) (λ h. eqb (get_or row h 0 - 48) digit) ≡ word hours (λ h. eqb (digit_from key s (Some at) h) digit)
  row_word_lem digit = rw read.long (word_same _ _ hours (λ h u. ap (λ (d : ℕ). eqb d digit) (read.digits h u).1))

-- ---- what stands behind a key, whose line has a place that was told
module _ (layout : List Line) (hours : ℕ) (s at : List ℕ) (p : Placed layout hours s at) (key : ℕ) {j : ℕ} (is : j ≡ line_of key layout) (u : j ≤ length layout) where
  abbrev pub told_at : Next
  told_at = Some (get_or at j 0)

  key_told : told_at ≡ line_place layout hours (line_of key layout) s
  key_told = sym (p j u) ∙ ap (λ (k : ℕ). line_place layout hours k s) is

  pub number_told : number_from key s told_at ≡ number_on layout hours key s
  unfolding number_on
  number_told = ap (number_from key s) key_told

  pub digits_told : digit_from key s told_at ≡ digit_on layout hours key s
  unfolding digit_on
  digits_told = ap (digit_from key s) key_told

  pub word_told : (digit : ℕ) {r : ℕ} → r ≡ word hours (λ h. eqb (digit_from key s told_at h) digit) → r ≡ word hours (λ h. eqb (digit_on layout hours key s h) digit)
  word_told digit e = e ∙ ap (λ (f : ℕ → ℕ). word hours (λ h. eqb (f h) digit)) digits_told
