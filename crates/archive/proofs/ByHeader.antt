-- What refuses a sheet that is to move is told by its header's fault, its form and its count: a fault of FORM stands in front of the way, and any
-- other behind it.
use mathlib.Core.Path.{◌≡◌, refl, sym, ◌∙◌}
use mathlib.Core.Bool.{Bool, true, false}
use mathlib.Core.List.{List}
use Prim.Native.Nat.{ℕ, suc}
use borrow.Author.Tests.{eq-eqb, ne_eqb}
use native.Mathlib.Omega.{arith}
use lib.ListN.{length}
use Rattle.tariff.specs.Reply.{FORM, RANGE, BACK, Verdict, clear, fault, unless, ◌then◌}
use Rattle.tariff.proofs.Checks.{Without, without_unless, without_first, first_fault, unless_gives}
use Rattle.lines.specs.Line.{is_at}
use Rattle.header.specs.declared.layout.Line.{Line}
use Rattle.header.specs.Layout.{line_in, line_place, line_in_range, layout_form, layout_range}
use Rattle.header.specs.Header.{is_form2, layout_of, hours_of, header_fault}
use Rattle.header.proofs.HeaderAlike.{SameHeader}
use Rattle.archive.specs.declared.Way.{Way}
use Rattle.archive.specs.Move.{goes, fits, move_fault}
use Rattle.archive.specs.Told.{is_form, fault_by}

-- ---- a header's two checks, each with its own number
module _ (layout : List Line) (hours : ℕ) (s : List ℕ) where
  pub form_gives_form : (number place : ℕ) → layout_form layout hours s ≡ fault number place → number ≡ FORM
  unfolding layout_form
  form_gives_form number place e =
      let first = first_fault (λ j. unless (is_at (line_place layout hours (suc j) s)) FORM (suc j)) (length layout) number place e in
      (unless_gives (is_at (line_place layout hours (suc first.at) s)) FORM number (suc first.at) place first.gives).1

  pub range_without : (n : ℕ) → (RANGE ≡ n → ⊥) → Without n (layout_range layout hours s)
  unfolding layout_range
  range_without n apart =
      without_first n (λ j. unless (line_in_range hours (line_in layout j) s (line_place layout hours j s)) RANGE (suc j)) (length layout)
      (λ j. without_unless n (line_in_range hours (line_in layout j) s (line_place layout hours j s)) RANGE (suc j) apart)

-- ---- the checks in their order
in_order : (way : Way) (two : Bool) (hours : ℕ) (form range : Verdict) → ((number place : ℕ) → form ≡ fault number place → number ≡ FORM) → Without FORM range
    → (form then unless (goes way two) RANGE 1 then range then unless (fits way hours) BACK 2) ≡ fault_by way (form then range) two hours
unfolding fault_by
in_order way two hours clear clear f r = refl
in_order way two hours clear (fault number place) f r = rw (ne_eqb number FORM r)
in_order way two hours (fault number place) range f r = rw (eq-eqb number FORM (f number place refl))

pub by_header : (way : Way) (s : List ℕ) → move_fault way s ≡ fault_by way (header_fault s) (is_form2 s) (hours_of s)
unfolding move_fault
by_header way s =
    let layout = layout_of s in
    let hours = hours_of s in
    in_order way (is_form2 s) hours (layout_form layout hours s) (layout_range layout hours s) (form_gives_form layout hours s) (range_without layout hours s FORM (λ e. omega arith))

-- so two sheets with the same header are refused alike
pub same_fault : (way : Way) {s t : List ℕ} → SameHeader s t → move_fault way s ≡ move_fault way t
same_fault way {s} {t} o = by_header way s ∙ (λ i. fault_by way (o.fault i) (o.two i) (o.hours i)) ∙ sym (by_header way t)

-- ---- one way out of the checks after the other
module _ (way : Way) (v : Verdict) (two : Bool) (hours : ℕ) where
  pub by_form : is_form v ≡ true → v ≡ fault_by way v two hours
  unfolding fault_by
  by_form f = rw f

  module _ (f : is_form v ≡ false) where
    pub by_way : goes way two ≡ false → fault RANGE 1 ≡ fault_by way v two hours
    unfolding fault_by
    by_way g = rw (f, g)

    module _ (g : goes way two ≡ true) where
      pub by_range : (number place : ℕ) → v ≡ fault number place → v ≡ fault_by way v two hours
      unfolding fault_by
      by_range number place e = rw (f, g) (rw e)

      module _ (e : v ≡ clear) where
        pub by_count : fits way hours ≡ false → fault BACK 2 ≡ fault_by way v two hours
        unfolding fault_by
        by_count h = rw (f, g) (rw (e, h))

        pub by_none : fits way hours ≡ true → clear ≡ fault_by way v two hours
        unfolding fault_by
        by_none h = rw (f, g) (rw (e, h))
