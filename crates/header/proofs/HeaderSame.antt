-- Two texts whose headers are read side by side, line by line: where both have each line or neither has it, and both say the same, they have the
-- same header, of any form.
use Rattle.text.specs.Text.{Next}
use Rattle.std.specs.Prelude.{None, Some}
use mathlib.Core.Path.{◌≡◌, refl, sym, ◌∙◌, ap, subst}
use mathlib.Core.Bool.{Bool, true, false}
use mathlib.Core.List.{List}
use Prim.Native.Nat.{ℕ, zero, suc, ◌≤◌, ◌<◌}
use native.Mathlib.Decide.{dec_le, dec_lt}
use native.Mathlib.Omega.{arith}
use lib.IntN.{ℤ, pos}
use lib.ListN.{length}
use Rattle.exact.specs.Whole.{eq_z}
use Rattle.tariff.specs.Reply.{Verdict, clear, fault}
use Rattle.tariff.specs.Sheet.{LONGEST_DAY, is_count, hours_by}
use Rattle.tariff.proofs.Counts.{hours_few}
use Rattle.keys.specs.Keys.{UNIT_LINE, RTC_LINE}
use Rattle.lines.specs.Line.{is_at, and_then, line_feed}
use Rattle.header.specs.declared.layout.Form.{Form}
use Rattle.header.specs.declared.layout.Form.TheVariants.{One, Two, Icl}
use Rattle.header.specs.declared.layout.Line.{Line}
use Rattle.header.specs.declared.layout.Line.TheVariants.{Close}
use Rattle.header.specs.Layout.{line_in, header_line, line_place, layout_fault, line_of, number_on, digit_on}
use Rattle.header.specs.Header.{layout_by, count_by, layout_in, hours_in, fault_in, is_form2, form_by, form_of, header_fault, marks_by, marks_under}
use Rattle.header.proofs.HeaderLines.{close_line}
use Rattle.header.proofs.Forms.{RowOn, Rows, rows_behind, clear_counted}
use Rattle.header.proofs.HeaderAlike.{SaysSame, nothing_said, Alike, alike_turned, alike_then, alike_text, fault_alike, digits_said, alike_marks, SameHeader}
use Rattle.header.proofs.HeaderEnds.{form_clear}
use Rattle.header.proofs.HeaderBehind.{Closed, layout_closed}

-- both have a place, and R holds of the two, or neither has one
pub data Both (R : ℕ → ℕ → Type 0) : Next → Next → Type 0 where
  found : (p q : ℕ) → R p q → Both R (Some p) (Some q)
  missed : Both R None None

both_at : {R : ℕ → ℕ → Type 0} {x y : Next} → Both R x y → is_at x ≡ is_at y
both_at (found p q r) = refl
both_at missed = refl

-- ---- R j holds of the places at which line j begins
module _ (layout : List Line) (o : Closed layout) (hours : ℕ) (s t : List ℕ) (R : (j p q : ℕ) → Type 0) where
  pub record Reads : Type 0 where
    pub begins : R 0 0 0
    pub goes_on : (j p q : ℕ) → j < o.last → R j p q → Both (R (suc j)) (header_line hours (line_in layout j) s p) (header_line hours (line_in layout j) t q)
    pub closes : (p q : ℕ) → R o.last p q → is_at (line_feed s p) ≡ is_at (line_feed t q)
    pub says : (j p q : ℕ) → j < o.last → R j p q → SaysSame hours (line_in layout j) s t (Some p) (Some q)

  module _ (r : Reads) where
    places : (j : ℕ) → j ≤ o.last → Both (R j) (line_place layout hours j s) (line_place layout hours j t)
    unfolding line_place
    places zero u = found 0 0 r.begins
    places (suc j) u = go (places j (omega arith))
      where
        go : {x y : Next} → Both (R j) x y → Both (R (suc j)) (and_then x (header_line hours (line_in layout j) s)) (and_then y (header_line hours (line_in layout j) t))
        go (found p q h) = r.goes_on j p q u h
        go missed = missed

    last_placed : is_at (line_place layout hours (suc o.last) s) ≡ is_at (line_place layout hours (suc o.last) t)
    unfolding line_place
    last_placed = go (places o.last (omega arith))
      where
        go : {x y : Next} → Both (R o.last) x y
            → is_at (and_then x (header_line hours (line_in layout o.last) s)) ≡ is_at (and_then y (header_line hours (line_in layout o.last) t))
        go (found p q h) = rw (close_line hours s p o.close, close_line hours t q o.close) (r.closes p q h)
        go missed = refl

    placed : (j : ℕ) → j ≤ length layout → is_at (line_place layout hours j s) ≡ is_at (line_place layout hours j t)
    placed j u = go (dec_le j o.last)
      where
        go : Dec (j ≤ o.last) → is_at (line_place layout hours j s) ≡ is_at (line_place layout hours j t)
        go (yes v) = both_at (places j v)
        go (no v) = let e : j ≡ suc o.last = let l = o.long in omega arith in rw e last_placed

    said : (j : ℕ) → j < length layout → SaysSame hours (line_in layout j) s t (line_place layout hours j s) (line_place layout hours j t)
    said j u = go (dec_lt j o.last)
      where
        from : j < o.last → {x y : Next} → Both (R j) x y → SaysSame hours (line_in layout j) s t x y
        from v (found p q h) = r.says j p q v h
        from v missed = nothing_said hours (line_in layout j) s t

        go : Dec (j < o.last) → SaysSame hours (line_in layout j) s t (line_place layout hours j s) (line_place layout hours j t)
        go (yes v) = from v (places j (omega arith))
        go (no v) =
            let e : j ≡ o.last = let l = o.long in omega arith in
            let is : line_in layout j ≡ Close = rw e o.close in
            subst (λ (line : Line). SaysSame hours line s t (line_place layout hours j s) (line_place layout hours j t)) (sym is) tt

    pub reads_alike : Alike layout hours s t
    reads_alike = record { placed = placed; says = said }

-- ---- texts that are read alike in each layout
abbrev pub AlikeInAll : (s t : List ℕ) → Type 0
AlikeInAll s t = (layout : List Line) (hours : ℕ) → Closed layout → hours ≤ LONGEST_DAY → Alike layout hours s t

pub all_turned : {s t : List ℕ} → AlikeInAll s t → AlikeInAll t s
all_turned alike = λ layout hours o day. alike_turned (alike layout hours o day)

pub all_then : {s t u : List ℕ} → AlikeInAll s t → AlikeInAll t u → AlikeInAll s u
all_then one other = λ layout hours o day. alike_then (one layout hours o day) (other layout hours o day)

pub all_text : {s t : List ℕ} → s ≡ t → AlikeInAll s t
all_text e = λ layout hours o day. alike_text layout hours e

-- ---- so each form's header is judged alike, and says the same
module _ {s t : List ℕ} (alike : AlikeInAll s t) (form : Form) where
  first_lines_lem : Alike (layout_by form false) 0 s t
  first_lines_lem = alike (layout_by form false) 0 (layout_closed form false) (omega arith)

  pub count_same : count_by form s ≡ count_by form t
  unfolding number_on line_place
  count_same = go form first_lines_lem
    where
      go : (f : Form) → Alike (layout_by f false) 0 s t → count_by f s ≡ count_by f t
      go One o = refl
      go Two o = o.says 1 (omega arith)
      go Icl o = o.says 1 (omega arith)

  pub hours_same : hours_in form s ≡ hours_in form t
  hours_same = ap hours_by count_same

  pub lines_same : Alike (layout_in form s) (hours_in form s) s t
  lines_same = alike (layout_in form s) (hours_in form s) (layout_closed form (is_count (count_by form s))) (hours_few (count_by form s))

  pub fault_same : fault_in form s ≡ fault_in form t
  fault_same = fault_alike lines_same ∙ (λ i. layout_fault (layout_by form (is_count (count_same i))) (hours_by (count_same i)) t)

  -- the digits of a row, where it is judged
  pub digits_same : fault_in form s ≡ clear → {key admitted j : ℕ} → RowOn (layout_by form true) key admitted j → j < length (layout_by form true)
      → (h : ℕ) → h < hours_in form s → digit_on (layout_in form s) (hours_in form s) key s h ≡ digit_on (layout_in form t) (hours_in form t) key t h
  digits_same e {key} {admitted} {j} row u h l =
      let judged = sym (clear_counted form s e) in
      digits_said lines_same (form_clear (layout_in form s) (hours_in form s) s e)
      (subst (λ (b : Bool). RowOn (layout_by form b) key admitted j) judged row)
      (subst (λ (b : Bool). j < length (layout_by form b)) judged u)
      h l
      ∙ (λ i. digit_on (layout_by form (is_count (count_same i))) (hours_by (count_same i)) key t h)

-- ---- the header of a day's sheet
module _ {s t : List ℕ} (alike : AlikeInAll s t) where
  -- the first line decides the form
  pub two_same : is_form2 s ≡ is_form2 t
  unfolding line_place
  two_same = ap (λ (z : ℤ). eq_z z (pos 2)) ((first_lines_lem alike Two).says 0 (omega arith))

  pub form_same : form_of s ≡ form_of t
  form_same = ap form_by two_same

  marks_same : (two : Bool) (e : fault_in (form_by two) s ≡ clear)
      → marks_by (layout_in (form_by two) s) (hours_in (form_by two) s) s ≡ marks_by (layout_in (form_by two) t) (hours_in (form_by two) t) t
  marks_same two e =
      let form = form_by two in
      let rows = subst (λ (b : Bool). Rows (layout_by form b) (line_of RTC_LINE (layout_by form true))) (sym (clear_counted form s e)) (rows_behind two refl) in
      alike_marks (lines_same alike form) (form_clear (layout_in form s) (hours_in form s) s e) rows
      ∙ (λ i. marks_by (layout_by form (is_count (count_same alike form i))) (hours_by (count_same alike form i)) t)

  marks_under_lem : (v : Verdict) → header_fault s ≡ v → marks_under v s ≡ marks_under v t
  marks_under_lem clear e = marks_same (is_form2 s) e ∙ (λ i. marks_by (layout_in (form_same i) t) (hours_in (form_same i) t) t)
  marks_under_lem (fault number place) e = refl

  -- the line of `unit` has a number in each form, whether its rows are judged or not
  unit_said : (two judged : Bool) (hours : ℕ) → Alike (layout_by (form_by two) judged) hours s t
      → number_on (layout_by (form_by two) judged) hours UNIT_LINE s ≡ number_on (layout_by (form_by two) judged) hours UNIT_LINE t
  unfolding number_on
  unit_said true judged hours o = o.says 2 (omega arith)
  unit_said false judged hours o = o.says 1 (omega arith)

  unit_same : (two : Bool)
      → number_on (layout_in (form_by two) s) (hours_in (form_by two) s) UNIT_LINE s ≡ number_on (layout_in (form_by two) t) (hours_in (form_by two) t) UNIT_LINE t
  unit_same two =
      let form = form_by two in
      unit_said two (is_count (count_by form s)) (hours_in form s) (lines_same alike form)
      ∙ (λ i. number_on (layout_by form (is_count (count_same alike form i))) (hours_by (count_same alike form i)) UNIT_LINE t)

  pub same_header : SameHeader s t
  same_header =
      let one = fault_same alike (form_of s) ∙ (λ i. fault_in (form_same i) t) in
      record {
        two = two_same;
        fault = one;
        hours = hours_same alike (form_of s) ∙ (λ i. hours_in (form_same i) t);
        marks = marks_under_lem (header_fault s) refl ∙ ap (λ (v : Verdict). marks_under v t) one;
        unit = unit_same (is_form2 s) ∙ (λ i. number_on (layout_in (form_same i) t) (hours_in (form_same i) t) UNIT_LINE t);
      }
