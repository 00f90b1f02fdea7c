-- Two texts of one layout and count whose headers' lines stand in both or in neither and say the same: they are judged as the same, and say the
-- same marks. A layout is any list of lines.
use Rattle.text.specs.Text.{Next}
use Rattle.std.specs.Prelude.{None}
use mathlib.Core.Path.{◌≡◌, refl, sym, ◌∙◌, ap, subst}
use mathlib.Core.Bool.{Bool, true, false≢true}
use mathlib.Core.List.{List, ◌++◌}
use Prim.Native.Nat.{ℕ, suc, ◌-◌, ◌≤◌, ◌<◌}
use native.Mathlib.Omega.{arith}
use lib.Dec.{eqb}
use lib.IntN.{pos}
use lib.ListN.{length, replicate}
use Rattle.exact.specs.Whole.{eq_z}
use Rattle.exact.proofs.Sums.{up_same}
use Rattle.tariff.specs.Sheet.{LONGEST_DAY, lies_in}
use Rattle.tariff.specs.Eligible.{marked}
use Rattle.tariff.specs.Reply.{FORM, RANGE, Verdict, clear, fault, unless, ◌then◌}
use Rattle.tariff.proofs.Checks.{first_same}
use Rattle.tariff.proofs.Tests.{all_same}
use Rattle.keys.specs.Keys.{RTC_LINE, CAT_LINE, X1_LINE, X2_LINE, X3_LINE, X4_LINE, X5_LINE, X6_LINE}
use Rattle.lines.specs.Line.{is_at, and_then}
use Rattle.marks.proofs.Rows.{word_same}
use Rattle.header.specs.declared.layout.Line.{Line}
use Rattle.header.specs.declared.layout.Line.TheVariants.{Number, Row, Run, Close}
use Rattle.header.specs.Layout.{line_in, header_line, line_place, number_from, digit_from, line_in_range, layout_form, layout_range, layout_fault, number_on, digit_on}
use Rattle.header.specs.Header.{is_form2, hours_of, header_fault, unit_of, row_word, marks_by, marks_under}
use Rattle.header.proofs.HeaderLines.{none_refused, is_placed}
use Rattle.header.proofs.Forms.{RowOn, Rows}

-- a line says the same from a place of each text on: a row does where it is as printed, and the length of a run is its own
abbrev pub SaysSame : (hours : ℕ) → Line → (s t : List ℕ) → (x y : Next) → Type 0
SaysSame hours (Number key least most) s t x y = number_from key s x ≡ number_from key t y
SaysSame hours (Row key admitted) s t x y =
    is_at (and_then x (header_line hours (Row key admitted) s)) ≡ true → (h : ℕ) → h < hours → digit_from key s x h ≡ digit_from key t y h
SaysSame hours (Run key) s t x y = Unit {0}
SaysSame hours Close s t x y = Unit {0}

-- where it stands in neither
pub nothing_said : (hours : ℕ) (line : Line) (s t : List ℕ) → SaysSame hours line s t None None
nothing_said hours (Number key least most) s t = refl
nothing_said hours (Row key admitted) s t = λ printed. absurd (false≢true printed)
nothing_said hours (Run key) s t = tt
nothing_said hours Close s t = tt

pub record Alike (layout : List Line) (hours : ℕ) (s t : List ℕ) : Type 0 where
  pub placed : (j : ℕ) → j ≤ length layout → is_at (line_place layout hours j s) ≡ is_at (line_place layout hours j t)
  pub says : (j : ℕ) → j < length layout → SaysSame hours (line_in layout j) s t (line_place layout hours j s) (line_place layout hours j t)

-- ---- one after the other
says_turned : (hours : ℕ) (line : Line) (s t : List ℕ) (x y : Next) → is_at (and_then x (header_line hours line s)) ≡ is_at (and_then y (header_line hours line t))
    → SaysSame hours line s t x y → SaysSame hours line t s y x
says_turned hours (Number key least most) s t x y p e = sym e
says_turned hours (Row key admitted) s t x y p e = λ printed h u. sym (e (p ∙ printed) h u)
says_turned hours (Run key) s t x y p e = tt
says_turned hours Close s t x y p e = tt

says_then : (hours : ℕ) (line : Line) (s t u : List ℕ) (x y z : Next) → is_at (and_then x (header_line hours line s)) ≡ is_at (and_then y (header_line hours line t))
    → SaysSame hours line s t x y → SaysSame hours line t u y z → SaysSame hours line s u x z
says_then hours (Number key least most) s t u x y z p e f = e ∙ f
says_then hours (Row key admitted) s t u x y z p e f = λ printed h l. e printed h l ∙ f (sym p ∙ printed) h l
says_then hours (Run key) s t u x y z p e f = tt
says_then hours Close s t u x y z p e f = tt

says_itself : (hours : ℕ) (line : Line) (s : List ℕ) (x : Next) → SaysSame hours line s s x x
says_itself hours (Number key least most) s x = refl
says_itself hours (Row key admitted) s x = λ printed h u. refl
says_itself hours (Run key) s x = tt
says_itself hours Close s x = tt

pub alike_turned : {layout : List Line} {hours : ℕ} {s t : List ℕ} → Alike layout hours s t → Alike layout hours t s
unfolding line_place
alike_turned {layout} {hours} {s} {t} o = record {
  placed = λ j u. sym (o.placed j u);
  says = λ j u. says_turned hours (line_in layout j) s t _ _ (o.placed (suc j) u) (o.says j u);
}

pub alike_then : {layout : List Line} {hours : ℕ} {s t u : List ℕ} → Alike layout hours s t → Alike layout hours t u → Alike layout hours s u
unfolding line_place
alike_then {layout} {hours} {s} {t} {u} o r = record {
  placed = λ j v. o.placed j v ∙ r.placed j v;
  says = λ j v. says_then hours (line_in layout j) s t u _ _ _ (o.placed (suc j) v) (o.says j v) (r.says j v);
}

pub alike_text : (layout : List Line) (hours : ℕ) {s t : List ℕ} → s ≡ t → Alike layout hours s t
alike_text layout hours {s} e =
    subst (λ (t : List ℕ). Alike layout hours s t) e (record { placed = λ j u. refl; says = λ j u. says_itself hours (line_in layout j) s (line_place layout hours j s) })

-- ---- the two checks
pub range_same : (hours : ℕ) (line : Line) (s t : List ℕ) (x y : Next) → is_at (and_then x (header_line hours line s)) ≡ true → SaysSame hours line s t x y
    → line_in_range hours line s x ≡ line_in_range hours line t y
unfolding line_in_range
range_same hours (Number key least most) s t x y p e = ap (lies_in least most) e
range_same hours (Row key admitted) s t x y p e = all_same _ _ hours (λ h u. ap (marked admitted) (e p h u))
range_same hours (Run key) s t x y p e = refl
range_same hours Close s t x y p e = refl

-- each line of a header without a fault of form is as printed
pub form_line : (layout : List Line) (hours : ℕ) (s : List ℕ) → layout_form layout hours s ≡ clear → (j : ℕ) → j < length layout → is_placed layout hours s j ≡ true
unfolding layout_form
form_line layout hours s e = none_refused (is_placed layout hours s) FORM (length layout) e

module _ {layout : List Line} {hours : ℕ} {s t : List ℕ} (o : Alike layout hours s t) where
  form_same : layout_form layout hours s ≡ layout_form layout hours t
  unfolding layout_form
  form_same = first_same _ _ (length layout) (λ j u. ap (λ (b : Bool). unless b FORM (suc j)) (o.placed (suc j) u))

  ranges_same : layout_form layout hours s ≡ clear → layout_range layout hours s ≡ layout_range layout hours t
  unfolding layout_range line_place
  ranges_same e =
      first_same _ _ (length layout)
      (λ j u. ap (λ (b : Bool). unless b RANGE (suc j)) (range_same hours (line_in layout j) s t _ _ (form_line layout hours s e j u) (o.says j u)))

  pub fault_alike : layout_fault layout hours s ≡ layout_fault layout hours t
  fault_alike = go (layout_form layout hours s) refl
    where
      go : (v : Verdict) → layout_form layout hours s ≡ v → layout_fault layout hours s ≡ layout_fault layout hours t
      go clear e = let range = ranges_same e in λ i. form_same i then range i
      go (fault number place) e =
          ap (λ (v : Verdict). v then layout_range layout hours s) e
          ∙ sym (ap (λ (v : Verdict). v then layout_range layout hours t) (sym form_same ∙ e))

-- ---- the marks, of two layouts whose rows say the same
abbrev pub DigitsSame : (L M : List Line) → (hours : ℕ) → (s t : List ℕ) → (key : ℕ) → Type 0
DigitsSame L M hours s t key = (h : ℕ) → h < hours → digit_on L hours key s h ≡ digit_on M hours key t h

pub record MarksSaid (L M : List Line) (hours : ℕ) (s t : List ℕ) : Type 0 where
  pub rtc : number_on L hours RTC_LINE s ≡ number_on M hours RTC_LINE t
  pub cat : DigitsSame L M hours s t CAT_LINE
  pub x1 : DigitsSame L M hours s t X1_LINE
  pub x2 : DigitsSame L M hours s t X2_LINE
  pub x3 : DigitsSame L M hours s t X3_LINE
  pub x4 : DigitsSame L M hours s t X4_LINE
  pub x5 : DigitsSame L M hours s t X5_LINE
  pub x6 : DigitsSame L M hours s t X6_LINE

module _ (L M : List Line) (hours : ℕ) (s t : List ℕ) where
  word_said : (key : ℕ) → DigitsSame L M hours s t key → row_word L hours key s ≡ row_word M hours key t
  unfolding row_word
  word_said key same = word_same _ _ hours (λ h l. ap (λ (d : ℕ). eqb d 1) (same h l))

  pub marks_said : MarksSaid L M hours s t → marks_by L hours s ≡ marks_by M hours t
  unfolding marks_by
  marks_said o =
      let rtc = o.rtc in
      let cat = up_same (digit_on L hours CAT_LINE s) (digit_on M hours CAT_LINE t) hours o.cat in
      let x1 = word_said X1_LINE o.x1 in
      let x2 = word_said X2_LINE o.x2 in
      let x3 = word_said X3_LINE o.x3 in
      let x4 = word_said X4_LINE o.x4 in
      let x5 = word_said X5_LINE o.x5 in
      let x6 = word_said X6_LINE o.x6 in
      λ i. record {
        rtc = eq_z (rtc i) (pos 1);
        cat = cat i ++ replicate (LONGEST_DAY - hours) 0;
        x1 = x1 i;
        x2 = x2 i;
        x3 = x3 i;
        x4 = x4 i;
        x5 = x5 i;
        x6 = x6 i;
      }

-- those of one layout
module _ {layout : List Line} {hours : ℕ} {s t : List ℕ} (o : Alike layout hours s t) (form : layout_form layout hours s ≡ clear) where
  said : (j : ℕ) {line : Line} → line ≡ line_in layout j → j < length layout → SaysSame hours line s t (line_place layout hours j s) (line_place layout hours j t)
  said j is u = subst (λ (line : Line). SaysSame hours line s t (line_place layout hours j s) (line_place layout hours j t)) (sym is) (o.says j u)

  pub digits_said : {key admitted j : ℕ} → RowOn layout key admitted j → j < length layout → DigitsSame layout layout hours s t key
  unfolding digit_on line_place
  digits_said {key} {j = j} is u =
      let row = ap (λ (line : Line). is_at (and_then (line_place layout hours j s) (header_line hours line s))) is.0 ∙ form_line layout hours s form j u in
      subst (λ (k : ℕ). (h : ℕ) → h < hours → digit_from key s (line_place layout hours k s) h ≡ digit_from key t (line_place layout hours k t) h) is.1
      (said j is.0 u row)

  pub alike_marks : {rtc : ℕ} → Rows layout rtc → marks_by layout hours s ≡ marks_by layout hours t
  unfolding number_on
  alike_marks {rtc} r =
      let all = r.all in
      marks_said layout layout hours s t
      (record {
        rtc = subst (λ (k : ℕ). number_from RTC_LINE s (line_place layout hours k s) ≡ number_from RTC_LINE t (line_place layout hours k t)) r.line.1
            (said rtc r.line.0 (omega arith));
        cat = digits_said r.cat (omega arith);
        x1 = digits_said r.x1 (omega arith);
        x2 = digits_said r.x2 (omega arith);
        x3 = digits_said r.x3 (omega arith);
        x4 = digits_said r.x4 (omega arith);
        x5 = digits_said r.x5 (omega arith);
        x6 = digits_said r.x6 (omega arith);
      })

-- ---- the header of a day's sheet
pub record SameHeader (s t : List ℕ) : Type 0 where
  pub two : is_form2 s ≡ is_form2 t
  pub fault : header_fault s ≡ header_fault t
  pub hours : hours_of s ≡ hours_of t
  pub marks : marks_under (header_fault s) s ≡ marks_under (header_fault t) t
  pub unit : unit_of s ≡ unit_of t

pub same_turned : {s t : List ℕ} → SameHeader s t → SameHeader t s
same_turned o = record { two = sym o.two; fault = sym o.fault; hours = sym o.hours; marks = sym o.marks; unit = sym o.unit }

pub same_then : {s t u : List ℕ} → SameHeader s t → SameHeader t u → SameHeader s u
same_then o r = record {
  two = o.two ∙ r.two;
  fault = o.fault ∙ r.fault;
  hours = o.hours ∙ r.hours;
  marks = o.marks ∙ r.marks;
  unit = o.unit ∙ r.unit;
}
