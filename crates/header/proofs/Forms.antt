-- Each form: what its lines have in common with the others', and what its first lines decide.
use Rattle.std.specs.Prelude.{Result, Ok, Err, IfOk}
use Rattle.text.specs.Text.{Next}
use mathlib.Core.Path.{◌≡◌, refl, sym, ◌∙◌, ap}
use mathlib.Core.Bool.{Bool, true, false, false≢true}
use mathlib.Core.List.{List}
use Prim.Native.Nat.{ℕ, suc, ◌+◌, ◌-◌, ◌≤◌, ◌<◌}
use native.Mathlib.Omega.{arith}
use borrow.Author.Tests.{eqb-true, leb-true}
use lib.Dec.{eqb, leb, lit<, lit≤}
use lib.IntN.{ℤ, pos, negsuc}
use lib.ListN.{get_or, length}
use Rattle.tariff.specs.declared.Check.{Check}
use Rattle.tariff.specs.Sheet.{is_count, all_to, lies_in}
use Rattle.tariff.specs.Reply.{RANGE, clear}
use Rattle.tariff.proofs.Checks.{then_clear}
use Rattle.tariff.proofs.Tests.{all_at, and_left, and_right}
use Rattle.keys.specs.Keys.{HOURS_LINE, UNIT_LINE, RTC_LINE, CAT_LINE, X1_LINE, X2_LINE, X3_LINE, X4_LINE, X5_LINE, X6_LINE, MARK_LINE}
use Rattle.header.specs.declared.layout.Form.{Form}
use Rattle.header.specs.declared.layout.Form.TheVariants.{One, Two, Icl}
use Rattle.header.specs.declared.layout.Line.{Line}
use Rattle.header.specs.declared.layout.Line.TheVariants.{Number, Row}
use Rattle.header.specs.Layout.{line_in, said_at, header_line, line_place, number_from, line_in_range, layout_form, layout_range, layout_fault, line_of, number_on}
use Rattle.header.specs.Header.{CATEGORIES, MARKS, ICL_MARKS, unit_and_marks, form1, form2, icl_lines, form_by, layout_by, count_by, layout_in, hours_in, fault_in}
use Rattle.header.specs.Places.{RowStands, Placed, fault_of, HeadRead}
use Rattle.header.proofs.HeaderLines.{none_refused, is_in_range, are_keyed, stands}
use Rattle.header.proofs.Said.{row_whole}

-- ---- a number whose range has one number only
pub one_number : (k : ℕ) (z : ℤ) → lies_in (pos k) (pos k) z ≡ true → pos k ≡ z
one_number k (pos n) e =
    let least = leb-true k n (and_left (leb k n) (leb n k) e) in
    let most = leb-true n k (and_right (leb k n) (leb n k) e) in
    let same : k ≡ n = omega arith in ap pos same
one_number k (negsuc n) e = absurd (false≢true e)

-- ---- their lines

pub lines_few : (form : Form) (judged : Bool) → length (layout_by form judged) < 13
lines_few One judged = lit< tt
lines_few Two judged = lit< tt
lines_few Icl judged = lit< tt

pub lines_some : (form : Form) → 4 ≤ length (layout_by form true)
lines_some One = lit≤ tt
lines_some Two = lit≤ tt
lines_some Icl = lit≤ tt

pub lines_keyed : (form : Form) (judged : Bool) → are_keyed (layout_by form judged) ≡ true
lines_keyed One judged = refl
lines_keyed Two true = refl
lines_keyed Two false = refl
lines_keyed Icl true = refl
lines_keyed Icl false = refl

-- behind a form's first lines stand those that both have
pub behind_one : (judged : Bool) (j : ℕ) → 1 ≤ j → line_in (layout_by One judged) j ≡ line_in (unit_and_marks true) (j - 1)
behind_one judged j h = let e : j ≡ suc (j - 1) = omega arith in ap (line_in form1) e

pub behind_two : (judged : Bool) (j : ℕ) → 2 ≤ j → line_in (layout_by Two judged) j ≡ line_in (unit_and_marks judged) (j - 2)
behind_two judged j h = let e : j ≡ suc (suc (j - 2)) = omega arith in ap (line_in (form2 judged)) e

-- a row on its line
abbrev pub RowOn : List Line → (key admitted j : ℕ) → Type 0
RowOn layout key admitted j = (Row key admitted ≡ line_in layout j) × (j ≡ line_of key layout)

-- those of a day's sheet, one behind the other from the line of `rtc` on
pub record Rows (layout : List Line) (rtc : ℕ) : Type 0 where
  pub line : (Number RTC_LINE (pos 0) (pos 1) ≡ line_in layout rtc) × (rtc ≡ line_of RTC_LINE layout)
  pub cat : RowOn layout CAT_LINE CATEGORIES (rtc + 1)
  pub x1 : RowOn layout X1_LINE MARKS (rtc + 2)
  pub x2 : RowOn layout X2_LINE MARKS (rtc + 3)
  pub x3 : RowOn layout X3_LINE MARKS (rtc + 4)
  pub x4 : RowOn layout X4_LINE MARKS (rtc + 5)
  pub x5 : RowOn layout X5_LINE MARKS (rtc + 6)
  pub x6 : RowOn layout X6_LINE MARKS (rtc + 7)
  pub all : rtc + 9 ≡ length layout

rows_in : (two : Bool) → Rows (layout_by (form_by two) true) (line_of RTC_LINE (layout_by (form_by two) true))
rows_in true =
    record {
      line = (refl, refl);
      cat = (refl, refl);
      x1 = (refl, refl);
      x2 = (refl, refl);
      x3 = (refl, refl);
      x4 = (refl, refl);
      x5 = (refl, refl);
      x6 = (refl, refl);
      all = refl;
    }
rows_in false =
    record {
      line = (refl, refl);
      cat = (refl, refl);
      x1 = (refl, refl);
      x2 = (refl, refl);
      x3 = (refl, refl);
      x4 = (refl, refl);
      x5 = (refl, refl);
      x6 = (refl, refl);
      all = refl;
    }

pub rows_behind : (two : Bool) {rtc : ℕ} → rtc ≡ line_of RTC_LINE (layout_by (form_by two) true) → Rows (layout_by (form_by two) true) rtc
rows_behind two e = rw e (rows_in two)

-- the line of `rtc` stands behind that of `unit`, in either form of a day's sheet
rtc_behind : (two : Bool) → line_of UNIT_LINE (layout_by (form_by two) true) + 1 ≡ line_of RTC_LINE (layout_by (form_by two) true)
rtc_behind true = refl
rtc_behind false = refl

pub rows_of : (form : Form) → (two : Bool) × (form ≡ form_by two) → {unit : ℕ} → unit ≡ line_of UNIT_LINE (layout_by form true) → Rows (layout_by form true) (unit + 1)
rows_of form day e = rw day.1 (rows_behind day.0 (rw (e, day.1) (rtc_behind day.0)))

-- and an ICL's one
pub icl_row : RowOn (icl_lines true) MARK_LINE ICL_MARKS 2
icl_row = (refl, refl)

pub row_stands : (form : Form) (hours : ℕ) (s at : List ℕ) (p : Placed (layout_by form true) hours s at) {key admitted j : ℕ} → RowOn (layout_by form true) key admitted j
    → j < length (layout_by form true) → RowStands hours key s (get_or at j 0)
row_stands form hours s at p {key} {admitted} {j} r u =
    row_whole hours key admitted s (get_or at j 0) (stands (layout_by form true) hours s at p j r.0 (lines_keyed form true) u).whole

-- ---- the lines from `unit` on, which both forms have, stand behind the d first lines of a layout
pub record UnitBehind (layout : List Line) (d : ℕ) : Type 0 where
  pub long : length layout ≡ d + 10
  pub line : (j : ℕ) → line_in layout (d + j) ≡ line_in (unit_and_marks true) j
  pub key : (j : ℕ) → j < 9 → line_of (UNIT_LINE + j) layout ≡ d + j

abbrev is_behind : List Line → (d : ℕ) → ℕ → Bool
is_behind layout d j = eqb (line_of (UNIT_LINE + j) layout) (d + j)

unit_in : (layout : List Line) (d : ℕ) → length layout ≡ d + 10 → ((j : ℕ) → line_in layout (d + j) ≡ line_in (unit_and_marks true) j)
    → all_to (is_behind layout d) 9 ≡ true → UnitBehind layout d
unit_in layout d long line keyed = record { long = long; line = line; key = λ j u. eqb-true _ _ (all_at (is_behind layout d) 9 j keyed u) }

-- form 2 has a line more in front of them
abbrev pub lines_before : (two : Bool) → ℕ
lines_before true = 2
lines_before false = 1

pub unit_behind : (two : Bool) → UnitBehind (layout_by (form_by two) true) (lines_before two)
unfolding all_to
unit_behind true = unit_in (form2 true) 2 refl (λ j. let e : 2 + j ≡ suc (suc j) = omega arith in rw e) refl
unit_behind false = unit_in form1 1 refl (λ j. let e : 1 + j ≡ suc j = omega arith in rw e) refl

-- so does that of `unit`, whether the rows are judged or not
pub unit_line_lem : (two judged : Bool) → line_of UNIT_LINE (layout_by (form_by two) true) ≡ line_of UNIT_LINE (layout_by (form_by two) judged)
unit_line_lem true judged = refl
unit_line_lem false judged = refl

-- ---- the count

-- a form that says it does so on the line behind its first
pub count_second : (form : Form) (s : List ℕ) {line : Line} {second : Next} → (form ≡ One → ⊥) → line ≡ line_in (layout_by form false) 0
    → second ≡ header_line 0 line s 0 → number_from HOURS_LINE s second ≡ count_by form s
unfolding number_on line_place
count_second One s n is p = absurd (n refl)
count_second Two s n is p = ap (number_from HOURS_LINE s) (p ∙ ap (λ (l : Line). header_line 0 l s 0) is)
count_second Icl s n is p = ap (number_from HOURS_LINE s) (p ∙ ap (λ (l : Line). header_line 0 l s 0) is)

-- where that is out of range no day has it, and form 1's is never
pub count_line : (form : Form) (judged : Bool) (hours : ℕ) (s : List ℕ) → (form ≡ One → ⊥) → is_in_range (layout_by form judged) hours s 1 ≡ is_count (count_by form s)
unfolding line_in_range number_on line_place header_line said_at
count_line One judged hours s n = absurd (n refl)
count_line Two judged hours s n = refl
count_line Icl judged hours s n = refl

-- where no range refuses, it is one of a day
counted : (form : Form) (s : List ℕ) (judged : Bool) (hours : ℕ) → layout_range (layout_by form judged) hours s ≡ clear → is_count (count_by form s) ≡ true
unfolding layout_range line_in_range number_on line_place header_line said_at
counted One s judged hours r = refl
counted Two s judged hours r = none_refused (is_in_range (form2 judged) hours s) RANGE (length (form2 judged)) r 1 (lit< tt)
counted Icl s judged hours r = none_refused (is_in_range (icl_lines judged) hours s) RANGE (length (icl_lines judged)) r 1 (lit< tt)

-- so the rows of a header without fault are judged
pub clear_counted : (form : Form) (s : List ℕ) → fault_in form s ≡ clear → is_count (count_by form s) ≡ true
clear_counted form s e =
    let checks = then_clear (layout_form (layout_in form s) (hours_in form s) s) (layout_range (layout_in form s) (hours_in form s) s) e in
    counted form s (is_count (count_by form s)) (hours_in form s) checks.1

-- ---- a header by the count that was read
module _ (form : Form) (s : List ℕ) (judged : Bool) {hours : ℕ} (j : judged ≡ is_count (count_by form s)) (h : hours ≡ hours_in form s) where
  head_fault_lem : fault_in form s ≡ layout_fault (layout_by form judged) hours s
  head_fault_lem = λ i. layout_fault (layout_by form (sym j i)) (sym h i) s

  -- the rows of one without fault are judged
  pub head_read : {at : Result (List ℕ) Check} → fault_of at ≡ layout_fault (layout_by form judged) hours s
      → IfOk at (Placed (layout_by form judged) hours s) → HeadRead form s (record { hours = hours; at = at })
  head_read {at} told placed = record {
    hours = h;
    told = told ∙ sym head_fault_lem;
    placed = go at told placed;
  }
    where
      go : (at : Result (List ℕ) Check) → fault_of at ≡ layout_fault (layout_by form judged) hours s
          → IfOk at (Placed (layout_by form judged) hours s) → IfOk at (Placed (layout_by form true) hours s)
      go (Ok places) t p = rw (← (j ∙ clear_counted form s (head_fault_lem ∙ sym t))) p
      go (Err check) t p = tt
