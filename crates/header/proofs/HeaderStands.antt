-- A header that is not refused stands as it is in the text of which it alone is squeezed, and so does what follows it: none of its lines has a long
-- run of digits.
use Rattle.std.specs.Prelude.{Some}
use mathlib.Core.Path.{◌≡◌, refl, sym, ◌∙◌, ap, subst}
use mathlib.Core.Bool.{Bool, true, false, false≢true}
use mathlib.Core.List.{List, ◌++◌, append_assoc}
use Prim.Native.Nat.{ℕ, zero, suc, ◌+◌, ◌≤◌, ◌<◌}
use native.Mathlib.Nat.{add-zero, add_assoc}
use native.Mathlib.Omega.{arith}
use borrow.Author.Tests.{ltb-true, eq-eqb}
use lib.Dec.{ltb, lit<}
use lib.ListN.{length, take, drop, take-append-drop}
use lib.Seq.{get_or-drop, drop-drop, drop-cons, take-add}
use Rattle.tariff.specs.Sheet.{LONGEST_DAY, all_to}
use Rattle.tariff.specs.Reply.{clear}
use Rattle.tariff.proofs.Counts.{hours_few}
use Rattle.tariff.proofs.Tests.{all_at}
use Rattle.text.specs.Text.{byte_at, Next}
use Rattle.text.proofs.Numbers.{byte_inside}
use Rattle.keys.specs.Keys.{key_of}
use Rattle.lines.specs.Squeezed.{RUN, squeezed_from, squeezed}
use Rattle.lines.proofs.Along.{closing, Placed, both, neither, never_at, Stretch}
use Rattle.lines.proofs.Ended.{feed_ends}
use Rattle.lines.proofs.Squeezed.{is_digit_byte, squeezed_end, first_stand, anew}
use Rattle.header.specs.declared.layout.Form.{Form}
use Rattle.header.specs.declared.layout.Form.TheVariants.{One, Two, Icl}
use Rattle.header.specs.declared.layout.Line.{Line}
use Rattle.header.specs.declared.layout.Line.TheVariants.{Number, Row, Run, Close}
use Rattle.header.specs.Layout.{line_in, header_line, line_place, layout_form}
use Rattle.header.specs.Header.{layout_by, count_by, layout_in, hours_in, fault_in, form_of, header_fault}
use Rattle.header.proofs.HeaderLines.{close_line, start_of}
use Rattle.header.proofs.Forms.{clear_counted}
use Rattle.header.proofs.HeaderPlaced.{width_of, line_placed}
use Rattle.header.proofs.HeaderEnds.{line_ends, form_clear, line_read}
use Rattle.header.proofs.HeaderBehind.{opens_line, line_closed, Closed, layout_closed}

-- a line that ends within as many bytes as a run may have: a number, and a row of the longest day
abbrev is_bounded : Line → Bool
is_bounded (Number key least most) = true
is_bounded (Row key admitted) = ltb (length (key_of key) + LONGEST_DAY) RUN
is_bounded (Run key) = false
is_bounded Close = true

module _ (hours : ℕ) (day : hours ≤ LONGEST_DAY) (s : List ℕ) where
  bounded : (line : Line) → is_bounded line ≡ true → width_of hours line s < RUN
  bounded (Number key least most) e = omega arith
  bounded (Row key admitted) e = let l = ltb-true (length (key_of key) + LONGEST_DAY) RUN e in omega arith
  bounded (Run key) e = absurd (false≢true e)
  bounded Close e = omega arith

  itself : (p : ℕ) → Stretch s s (λ i. p + i) (λ i. p + i) (λ w i. i + w ≤ RUN)
  itself p = record {
    next = λ i. (sym (add_assoc p i 1), sym (add_assoc p i 1));
    fewer = λ v w i u h. omega arith;
    same = λ w i u h. refl;
    on = λ v w i u h e. omega arith;
  }

  module _ (line : Line) (p k : ℕ) (fits : is_bounded line ≡ true) (read : header_line hours line s p ≡ Some k) where
    ends_soon : k ≤ p + RUN
    ends_soon =
        go (rw (add-zero p) at (line_placed (itself p) hours {Q = λ i. i ≤ RUN} line RUN 0 (bounded line fits) (omega arith) (λ i l e. omega arith))) read
      where
        go : {x y : Next} → Placed (λ i. p + i) (λ i. p + i) (λ i. i ≤ RUN) x y → x ≡ Some k → k ≤ p + RUN
        go (both i l) e = let same : p + i ≡ k = cc in omega arith
        go neither e = absurd (never_at e)

    -- up to the place p the text stands as it is; behind it begins a line of the header
    stands_on : opens_line line ≡ true → squeezed 1 s ≡ take p s ++ squeezed_from 1 true 0 (drop p s) → squeezed 1 s ≡ take k s ++ squeezed_from 1 true 0 (drop k s)
    stands_on opened so_far =
        let ends = line_ends hours line s p k read in
        let n = ends.long in
        let next = ends.next in
        let soon = ends_soon in
        let rest = drop p s in
        let text = squeezed_from 1 true 0 rest in
        let byte : (i : ℕ) → byte_at rest i ≡ byte_at s (p + i) = λ i. get_or-drop p s i 256 in
        let feed = byte n ∙ ends.feed in
        let begun : byte_at rest 0 ≡ 10 → ⊥ = λ z. never_at (sym (line_closed hours line s p opened (ap closing (sym (byte 0 ∙ ap (byte_at s) (add-zero p)) ∙ z))) ∙ read) in
        let front : take (suc n) text ≡ take (suc n) rest = first_stand (suc n) 1 true 0 rest (omega arith) in
        let back : drop (suc n) text ≡ squeezed_from 1 true 0 (drop (suc n) rest) =
        anew n 1 true 0 rest (omega arith) (λ i l z. let m = ends.first i (ap closing (sym (byte i) ∙ z)) in omega arith) (λ t z. begun z) (ap is_digit_byte feed)
        ∙ ap (λ (b : Bool). squeezed_from 1 b 0 (drop (suc n) rest)) (eq-eqb _ 10 feed)
        in
        let here : p + suc n ≡ k = omega arith in
        rw (← here)
        (so_far
        ∙ ap (λ (l : List ℕ). take p s ++ l) (sym (take-append-drop (suc n) text) ∙ (λ i. front i ++ back i))
        ∙ sym (append_assoc (take p s) (take (suc n) rest) (squeezed_from 1 true 0 (drop (suc n) rest)))
        ∙ (λ i. sym (take-add p (suc n) s) i ++ squeezed_from 1 true 0 (drop-drop (suc n) p s i)))

-- ---- line by line, up to the closing one
module _ (layout : List Line) (o : Closed layout) (fits : (j : ℕ) → j < o.last → is_bounded (line_in layout j) ≡ true) (hours : ℕ) (day : hours ≤ LONGEST_DAY)
    (s : List ℕ) (form : layout_form layout hours s ≡ clear) where
  abbrev start : ℕ → ℕ
  start = start_of layout hours s

  up_to : (j : ℕ) → j ≤ o.last → squeezed 1 s ≡ take (start j) s ++ squeezed_from 1 true 0 (drop (start j) s)
  unfolding line_place
  up_to zero u = refl
  up_to (suc j) u =
      let l = o.long in
      stands_on hours day s (line_in layout j) (start j) (start (suc j)) (fits j u) (line_read layout hours s form j (omega arith)) (o.front j u) (up_to j (omega arith))

  -- behind the closing line feed a text is not squeezed
  rest_stands : squeezed_from 1 true 0 (drop (start o.last) s) ≡ drop (start o.last) s
  unfolding squeezed_from
  rest_stands =
      let p = start o.last in
      let l = o.long in
      let feed = (feed_ends s p _ (sym (close_line hours s p o.close) ∙ line_read layout hours s form o.last (omega arith))).0 in
      rw (drop-cons s p 256 (byte_inside s p 10 feed (lit< tt))) (squeezed_end 0 true 0 (byte_at s p) (drop (suc p) s) (eq-eqb (byte_at s p) 10 feed))

  all_stands : squeezed 1 s ≡ s
  all_stands =
      let p = start o.last in
      up_to o.last (omega arith) ∙ ap (λ (l : List ℕ). take p s ++ l) rest_stands ∙ take-append-drop p s

-- ---- the header: its rows are judged, since its count is a day's
lines_bounded : (form : Form) → all_to (λ j. is_bounded (line_in (layout_by form true) j)) 12 ≡ true
unfolding all_to
lines_bounded One = refl
lines_bounded Two = refl
lines_bounded Icl = refl

stands_itself : (form : Form) (s : List ℕ) → fault_in form s ≡ clear → squeezed 1 s ≡ s
stands_itself form s e =
    let hours = hours_in form s in
    let o = layout_closed form true in
    let few = o.few in
    all_stands (layout_by form true) o (λ j u. all_at (λ j. is_bounded (line_in (layout_by form true) j)) 12 j (lines_bounded form) (omega arith)) hours
    (hours_few (count_by form s)) s
    (subst (λ (b : Bool). layout_form (layout_by form b) hours s ≡ clear) (clear_counted form s e) (form_clear (layout_in form s) hours s e))

pub header_stands : (s : List ℕ) → header_fault s ≡ clear → squeezed 1 s ≡ s
header_stands s = stands_itself (form_of s) s
