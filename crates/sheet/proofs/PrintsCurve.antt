-- A printed curve line is read to the curve that it was printed from.
use Rattle.std.specs.Prelude.{Some}
use mathlib.Core.Path.{◌≡◌, refl, sym, ap, ap₂, ◌∙◌}
use mathlib.Core.Bool.{true}
use mathlib.Core.List.{List, [], ◌∷◌, ◌++◌, append_assoc}
use Prim.Native.Nat.{ℕ, zero, suc, ◌+◌, ◌≤◌, ◌<◌}
use native.Mathlib.Decide.{dec_lt}
use native.Mathlib.Nat.{add-zero, not-suc-le-zero}
use native.Mathlib.Omega.{arith}
use lib.IntN.{ℤ, pos}
use lib.Signed.{le_z}
use lib.ListN.{length, get_or}
use Rattle.exact.specs.Whole.{Within}
use Rattle.exact.proofs.Parts.{true_le}
use Rattle.exact.proofs.Range.{within_lit}
use Rattle.tariff.specs.declared.Kw.{Kw}
use Rattle.tariff.specs.declared.Price.{Price}
use Rattle.tariff.specs.declared.Curve.{Curve}
use Rattle.tariff.specs.Units.{kw, price}
use Rattle.tariff.specs.Sheet.{lies_in, end_of, price_of}
use Rattle.tariff.proofs.Tests.{and_both}
use Rattle.tariff.proofs.Ranges.{CurveFits}
use Rattle.text.specs.Number.{digit_of, digit_at}
use Rattle.keys.specs.Keys.{PAIR, KEYS}
use Rattle.lines.specs.Line.{value_in}
use Rattle.lines.specs.Series.{series_place, series_in}
use Rattle.curves.specs.CurveLine.{after_pair, after_pairs, end_of_pair, price_of_pair, curve_line, curve_said}
use Rattle.text.specs.Decimal.{number}
use Rattle.lines.specs.Print.{fields}
use Rattle.sheet.specs.Print.{pairs_text, curve_text, CurvePlain}
use Rattle.lines.proofs.Holds.{Holds, holds_split, after_both, holds_key, Says, number_said}
use Rattle.lines.proofs.Prints.{nothing, ◌and◌, say_at, FieldsSaid, fields_said}
use Rattle.lines.proofs.Fill.{filled_same}

-- two numbers, as every part of a curve line has
two_say : (k : ℕ) (a b : ℤ) → Within 9999999 a → Within 9999999 b → (j : ℕ) → j < 2 → Says (k + j) (get_or (number a ∷ number b ∷ []) j []) (get_or (a ∷ b ∷ []) j (pos 0))
two_say k a b v w = say_at k (number a ∷ number b ∷ []) (a ∷ b ∷ []) (number_said k a v and number_said (k + 1) b w and nothing)

module _ (c : Curve) (fits : CurveFits c) (s : List ℕ) where
  -- ---- the pairs
  abbrev pair : ℕ → ℕ → ℤ
  pair n j = get_or (end_of c n ∷ price_of c n ∷ []) j (pos 0)

  abbrev texts : ℕ → List (List ℕ)
  texts n = number (end_of c n) ∷ number (price_of c n) ∷ []

  pair_digit : (n i : ℕ) → Holds s i (fields PAIR 2 (texts n)) → digit_at s i ≡ 10
  unfolding fields digit_at
  pair_digit n i o = ap digit_of o.0

  pairs_digit : (at n b : ℕ) (rest : List ℕ) → digit_of b ≡ 10 → Holds s at (pairs_text n c ++ (b ∷ rest)) → digit_at s at ≡ 10
  unfolding pairs_text digit_at fields
  pairs_digit at zero b rest e o = ap digit_of o.0 ∙ e
  pairs_digit at (suc n) b rest e o = pairs_digit at n 32 _ refl (rw (append_assoc (pairs_text n c) (fields PAIR 2 (texts n)) (b ∷ rest)) at o)

  module _ (at : ℕ) where
    record PairsSaid (n : ℕ) : Type 0 where
      place : after_pairs n s at ≡ Some (at + length (pairs_text n c))
      ends : (j : ℕ) → j < n → end_of_pair s at j ≡ kw (end_of c j)
      prices : (j : ℕ) → j < n → price_of_pair s at j ≡ price (price_of c j)

    pairs_more : (n : ℕ) (y : List ℕ) → PairsSaid n → after_pair s (at + length (pairs_text n c)) ≡ Some (at + length (pairs_text n c) + length y)
        → ((j : ℕ) → j < 2 → value_in PAIR s (at + length (pairs_text n c)) j ≡ pair n j)
        → (after_pairs (suc n) s at ≡ Some (at + length (pairs_text n c ++ y))) × ((j : ℕ) → j < suc n → end_of_pair s at j ≡ kw (end_of c j))
        × ((j : ℕ) → j < suc n → price_of_pair s at j ≡ price (price_of c j))
    unfolding series_place series_in
    pairs_more n y o e v = (rw o.place (e ∙ ap Some (after_both at (pairs_text n c) y)), λ j l. end j l (dec_lt j n), λ j l. cost j l (dec_lt j n))
      where
        end : (j : ℕ) → j < suc n → Dec (j < n) → end_of_pair s at j ≡ kw (end_of c j)
        end j l (yes p) = o.ends j p
        end j l (no p) = let same : j ≡ n = omega arith in rw (same, o.place) (ap kw (v 0 (omega arith)))

        cost : (j : ℕ) → j < suc n → Dec (j < n) → price_of_pair s at j ≡ price (price_of c j)
        cost j l (yes p) = o.prices j p
        cost j l (no p) = let same : j ≡ n = omega arith in rw (same, o.place) (ap price (v 1 (omega arith)))

    pairs_said : (n : ℕ) → n ≤ c.n → Holds s at (pairs_text n c) → digit_at s (at + length (pairs_text n c)) ≡ 10 → PairsSaid n
    unfolding pairs_text series_place
    pairs_said zero h o e = record { place = rw add-zero; ends = λ j l. absurd (not-suc-le-zero l); prices = λ j l. absurd (not-suc-le-zero l) }
    pairs_said (suc n) h o e =
        let x = pairs_text n c in
        let y = fields PAIR 2 (texts n) in
        let r = holds_split s at x y o in
        let before = pairs_said n (omega arith) r.0 (pair_digit n (at + length x) r.1) in
        let say = two_say PAIR (end_of c n) (price_of c n) (within_lit tt (fits.ends n h)) (within_lit tt (fits.prices n h)) in
        let f = fields_said PAIR (texts n) (pair n) s (at + length x) 2 say (omega arith) r.1 (rw (after_both at x y) e) in
        let m = pairs_more n y before f.place f.values in
        record { place = m.0; ends = m.1; prices = m.2 }

  -- ---- the line
  module _ (first at : ℕ) (few : c.n ≤ 12) (room : first + 2 ≤ KEYS) (o : Holds s at (curve_text first c)) where
    abbrev head : List ℕ
    head = fields first 2 (number c.start.0 ∷ number (pos c.n) ∷ [])

    parts : Holds s at head × Holds s (at + length head) (pairs_text c.n c ++ (10 ∷ []))
    unfolding curve_text
    parts = holds_split s at head _ o

    rest : Holds s (at + length head) (pairs_text c.n c) × Holds s (at + length head + length (pairs_text c.n c)) (10 ∷ [])
    rest = holds_split s (at + length head) (pairs_text c.n c) (10 ∷ []) parts.1

    count : Within 9999999 (pos c.n)
    count = omega arith

    head_said : FieldsSaid first (number c.start.0 ∷ number (pos c.n) ∷ []) (λ j. get_or (c.start.0 ∷ pos c.n ∷ []) j (pos 0)) s at 2
    head_said = fields_said first _ _ s at 2 (two_say first c.start.0 (pos c.n) (within_lit tt fits.start) count) room parts.0 (pairs_digit _ c.n 10 [] refl parts.1)

    feed_digit : digit_at s (at + length head + length (pairs_text c.n c)) ≡ 10
    unfolding digit_at
    feed_digit = ap digit_of rest.1.0

    steps_said : PairsSaid (at + length head) c.n
    steps_said = pairs_said (at + length head) c.n (omega arith) rest.0 feed_digit

    few_pairs : lies_in (pos 0) (pos 12) (pos c.n) ≡ true
    few_pairs =
        and_both (le_z (pos 0) (pos c.n)) (le_z (pos c.n) (pos 12)) (true_le (pos 0) (pos c.n) (omega arith)) (true_le (pos c.n) (pos 12) (omega arith))

    pub curve_line_said : curve_line first s at ≡ Some (at + length (curve_text first c))
    unfolding curve_line curve_text
    curve_line_said =
        rw (head_said.place, head_said.values 1 (omega arith), few_pairs, steps_said.place)
        (holds_key (10 ∷ []) s _ rest.1
        ∙ ap Some (after_both (at + length head) (pairs_text c.n c) (10 ∷ []) ∙ after_both at head (pairs_text c.n c ++ (10 ∷ []))))

    pub curve_said_lem : CurvePlain c → curve_said first s at ≡ c
    unfolding curve_said
    curve_said_lem p =
        rw (head_said.place, head_said.values 0 (omega arith), head_said.values 1 (omega arith))
        (ap₂ (λ (ends : List Kw) (prices : List Price). record { start = c.start; n = c.n; to = ends; at = prices })
        (filled_same _ _ (kw (pos 0)) c.n 12 steps_said.ends ∙ sym p.ends)
        (filled_same _ _ (price (pos 0)) c.n 12 steps_said.prices ∙ sym p.prices))
