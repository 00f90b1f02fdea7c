-- What the count of a day's hours decides of its header: every form but 2 is a usual day's, a count that no day has is RANGE at its line, and a
-- header that is read has a day's.
use Rattle.std.specs.Prelude.{Some}
use mathlib.Core.Path.{◌≡◌, sym, ap, ◌∙◌}
use mathlib.Core.Bool.{Bool, true, false, false≢true}
use mathlib.Core.List.{List}
use Prim.Native.Nat.{ℕ, zero, suc, ◌<◌}
use native.Mathlib.Omega.{arith}
use lib.Dec.{lit<}
use lib.IntN.{pos}
use lib.ListN.{length}
use Rattle.exact.proofs.Parts.{eq_z-true}
use Rattle.tariff.specs.Sheet.{USUAL_DAY, is_count, lies_in}
use Rattle.tariff.specs.Reply.{RANGE, Verdict, clear, fault, ◌then◌}
use Rattle.keys.specs.Keys.{FORM_LINE}
use Rattle.header.specs.declared.layout.Form.{Form}
use Rattle.header.specs.declared.layout.Form.TheVariants.{One, Two, Icl}
use Rattle.header.specs.Layout.{line_place, number_from, line_in_range, layout_form, layout_range}
use Rattle.header.specs.Header.{form1, layout_by, count_by, layout_in, hours_in, fault_in, is_form2, form_of, count_of, layout_of, hours_of, header_fault}
use Rattle.header.proofs.HeaderLines.{is_in_range, refused_first}
use Rattle.header.proofs.Forms.{count_line, clear_counted}

lines_some : (form : Form) (judged : Bool) → 1 < length (layout_by form judged)
lines_some One judged = lit< tt
lines_some Two judged = lit< tt
lines_some Icl judged = lit< tt

abbrev is_one : Form → Bool
is_one One = true
is_one Two = false
is_one Icl = false

pub form_apart : (form : Form) → is_one form ≡ false → form ≡ One → ⊥
form_apart form e z = false≢true (sym e ∙ ap is_one z)

-- ---- a form that says its count, where the line in front of that is in range
module _ (form : Form) (s : List ℕ) (says : form ≡ One → ⊥) (first : is_in_range (layout_in form s) (hours_in form s) s 0 ≡ true)
    (another : is_count (count_by form s) ≡ false) where
  range_at_2 : layout_range (layout_in form s) (hours_in form s) s ≡ fault RANGE 2
  unfolding layout_range
  range_at_2 =
      sym
      (refused_first (is_in_range (layout_in form s) (hours_in form s) s) RANGE (length (layout_in form s)) 1 before
      (lines_some form (is_count (count_by form s)))
      (count_line form (is_count (count_by form s)) (hours_in form s) s says ∙ another))
    where
      before : (k : ℕ) → k < 1 → is_in_range (layout_in form s) (hours_in form s) s k ≡ true
      before zero u = first
      before (suc k) u = absurd (omega arith)

  pub refused_at_2 : layout_form (layout_in form s) (hours_in form s) s ≡ clear → fault_in form s ≡ fault RANGE 2
  refused_at_2 e = ap (λ (v : Verdict). v then layout_range (layout_in form s) (hours_in form s) s) e ∙ range_at_2

-- ---- a day's sheet
module _ (s : List ℕ) where
  pub other_forms_are_usual_days : is_form2 s ≡ false → (layout_of s ≡ form1) × (hours_of s ≡ USUAL_DAY)
  other_forms_are_usual_days e = (rw e, rw e)

  pub another_count_is_range : is_form2 s ≡ true → is_count (count_of s) ≡ false → layout_form (layout_of s) (hours_of s) s ≡ clear → header_fault s ≡ fault RANGE 2
  unfolding line_in_range line_place
  another_count_is_range two another =
      refused_at_2 (form_of s) s (form_apart (form_of s) (rw two))
      (rw two (ap (lies_in (pos 2) (pos 2)) (eq_z-true (number_from FORM_LINE s (Some 0)) (pos 2) two)))
      another

  pub a_header_that_is_read_has_a_count : header_fault s ≡ clear → is_count (count_of s) ≡ true
  a_header_that_is_read_has_a_count = clear_counted (form_of s) s
