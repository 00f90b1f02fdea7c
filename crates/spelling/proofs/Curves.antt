-- A curve line that is read is spelt as the curve is printed.
use Rattle.text.specs.Text.{Next}
use mathlib.Core.Path.{◌≡◌, refl, sym, ap, ◌∙◌}
use mathlib.Core.Bool.{true, false≢true}
use mathlib.Core.List.{List, [], ◌∷◌, ◌++◌}
use Prim.Native.Nat.{ℕ, zero, suc, ◌+◌, ◌≤◌, ◌<◌}
use native.Mathlib.Omega.{arith}
use lib.IntN.{ℤ, pos, negsuc}
use Rattle.std.specs.Prelude.{if◌then◌else◌, None, Some}
use Rattle.exact.specs.Whole.{over}
use Rattle.exact.proofs.Parts.{by_test}
use Rattle.tariff.specs.declared.Curve.{Curve}
use Rattle.tariff.specs.declared.Kw.{Kw}
use Rattle.tariff.specs.declared.Price.{Price}
use Rattle.tariff.specs.Units.{kw, price}
use Rattle.tariff.specs.Sheet.{lies_in, end_of, price_of}
use Rattle.text.specs.Decimal.{number}
use Rattle.keys.specs.Keys.{PAIR, EOP}
use Rattle.lines.specs.Line.{and_then, after_fields, value_in, line_feed}
use Rattle.lines.specs.Series.{series_place, series_from, series_in}
use Rattle.lines.specs.Print.{fields}
use Rattle.lines.proofs.Along.{never_at}
use Rattle.lines.proofs.Fill.{filled_at}
use Rattle.curves.specs.CurveLine.{after_pair, after_pairs, end_said, price_said, end_of_pair, price_of_pair, pairs_at, curve_line, curve_from, curve_said}
use Rattle.sheet.specs.Print.{pairs_text, curve_text}
use Rattle.spelling.specs.Spelt.{Spelt}
use Rattle.spelling.proofs.Places.{none_spelt, both_spelt, fed_spelt}
use Rattle.spelling.proofs.Fields.{value_number, Texts, fields_spelt}

-- two numbers, as every part of a curve line has
two_texts : (first : ℕ) (s : List ℕ) (at : ℕ) (a b : ℤ) → first + 2 ≤ EOP → a ≡ value_in first s at 0 → b ≡ value_in first s at 1
    → Texts first s at 2 (number a ∷ number b ∷ [])
two_texts first s at a b u p q zero l = ap number p ∙ sym (value_number (first + 0) (value_in first s at 0) (λ e. omega arith) (λ e. omega arith))
two_texts first s at a b u p q (suc zero) l = ap number q ∙ sym (value_number (first + 1) (value_in first s at 1) (λ e. omega arith) (λ e. omega arith))
two_texts first s at a b u p q (suc (suc j)) l = absurd (omega arith)

-- ---- the pairs
module _ (s : List ℕ) (at : ℕ) (c : Curve) where
  abbrev Ends : ℕ → Type 0
  Ends n = (j : ℕ) → j < n → end_of c j ≡ (end_of_pair s at j).0

  abbrev Prices : ℕ → Type 0
  Prices n = (j : ℕ) → j < n → price_of c j ≡ (price_of_pair s at j).0

  pairs_more : (n next : ℕ) (a : Next) → ((i : ℕ) → a ≡ Some i → Spelt s at (pairs_text n c) i) → end_of c n ≡ (series_from end_said (kw (pos 0)) s a).0
      → price_of c n ≡ (series_from price_said (price (pos 0)) s a).0
      → and_then a (after_pair s) ≡ Some next → Spelt s at (pairs_text n c ++ fields PAIR 2 (number (end_of c n) ∷ number (price_of c n) ∷ [])) next
  pairs_more n next (Some i) before u v e = both_spelt (before i refl) (fields_spelt PAIR s i _ 2 next (two_texts PAIR s i (end_of c n) (price_of c n) (omega arith) u v) e)
  pairs_more n next None before u v e = absurd (never_at e)

  pairs_spelt : (n next : ℕ) → Ends n → Prices n → after_pairs n s at ≡ Some next → Spelt s at (pairs_text n c) next
  unfolding series_place series_in pairs_text
  pairs_spelt zero next f g = λ e. none_spelt s at next (cc)
  pairs_spelt (suc n) next f g =
      pairs_more n next (after_pairs n s at) (λ i. pairs_spelt n i (λ j l. f j (omega arith)) (λ j l. g j (omega arith))) (f n (omega arith)) (g n (omega arith))

-- ---- the line
count_over : (n : ℤ) → lies_in (pos 0) (pos 12) n ≡ true → pos (over n) ≡ n
count_over (pos n) e = refl
count_over (negsuc n) e = absurd (false≢true e)

pub curve_spelt : (first : ℕ) (s : List ℕ) (at next : ℕ) → first + 2 ≤ EOP → curve_line first s at ≡ Some next
    → Spelt s at (curve_text first (curve_said first s at)) next
unfolding curve_line curve_said curve_text
curve_spelt first s at next u = go (value_in first s at 0) (value_in first s at 1) refl refl (after_fields first 2 s at) refl
  where
    go : (start n : ℤ) → start ≡ value_in first s at 0 → n ≡ value_in first s at 1 → (a : Next) → after_fields first 2 s at ≡ a → and_then a (pairs_at n s) ≡ Some next
        → Spelt s at (curve_text first (curve_from start n s a)) next
    go start n p q (Some i) r =
        by_test (lies_in (pos 0) (pos 12) n)
        (λ b. (if b then and_then (after_pairs (over n) s i) (line_feed s) else None) ≡ Some next → Spelt s at (curve_text first (curve_from start n s (Some i))) next)
        (λ t e.
        let c = curve_from start n s (Some i) in
        let ends : Ends s i c (over n) = λ j l. ap (λ (k : Kw). k.0) (sym (filled_at (end_of_pair s i) (kw (pos 0)) (over n) 12 j l)) in
        let prices : Prices s i c (over n) = λ j l. ap (λ (k : Price). k.0) (sym (filled_at (price_of_pair s i) (price (pos 0)) (over n) 12 j l)) in
        both_spelt (fields_spelt first s at _ 2 i (two_texts first s at start (pos (over n)) u p (count_over n t ∙ q)) r)
        (fed_spelt (after_pairs (over n) s i) (λ k. pairs_spelt s i c (over n) k ends prices) e))
        (λ t e. absurd (never_at e))
    go start n p q None r = λ e. absurd (never_at e)
