-- The word joined with its shifts by one and by two both ways, masked to the day, marks the hours near a marked hour of the day.
use mathlib.Core.Path.{◌≡◌, sym, ◌∙◌, ap}
use mathlib.Core.Bool.{true, false≢true}
use Prim.Native.Nat.{ℕ, ◌+◌, ◌-◌, ◌*◌, ◌/◌, ◌%◌, ◌^◌, ◌<◌, ◌≤◌}
use native.Mathlib.Decide.{dec_lt, dec_le}
use native.Mathlib.Omega.{arith}
use lib.Bits.{bit_and, bit_or}
use Rattle.tariff.specs.Eligible.{marked}
use Rattle.marks.specs.Word.{word}
use Rattle.marks.specs.Alone.{marked_near}
use Rattle.marks.proofs.Marked.{marked_or, marked_cut, cut_inside, marked_earlier, marked_later, later_low}
use Rattle.marks.proofs.Rows.{masked}
use Rattle.marks.proofs.Near.{near_by, near_from}
use Rattle.marks.proofs.Some.{agree, or_first, or_second, or_cases}

-- ---- one shift, at an hour h of the word

-- as the code shifts: what passes the word's top is lost
abbrev pub later : ℕ → ℕ → ℕ
later k x = x * 2 ^ k % 2 ^ 32

module _ (x h : ℕ) (u : h < 32) where
  pub later_has : (k g : ℕ) → k + g ≡ h → marked x g ≡ true → marked (later k x) h ≡ true
  later_has k g e d = marked_cut (x * 2 ^ k) 32 h u ∙ ap (marked (x * 2 ^ k)) (sym e) ∙ marked_later x k g ∙ d

  pub later_from : (k : ℕ) → marked (later k x) h ≡ true → (k ≤ h) × (marked x (h - k) ≡ true)
  later_from k e = go (dec_le k h) (sym (marked_cut (x * 2 ^ k) 32 h u) ∙ e)
    where
      go : Dec (k ≤ h) → marked (x * 2 ^ k) h ≡ true → (k ≤ h) × (marked x (h - k) ≡ true)
      go (yes v) d = (v, sym (marked_later x k (h - k)) ∙ ap (marked (x * 2 ^ k)) (omega arith) ∙ d)
      go (no v) d = absurd (false≢true (sym (later_low x k h (omega arith)) ∙ d))

pub earlier_has : (x h k g : ℕ) → g ≡ k + h → marked x g ≡ true → marked (x / 2 ^ k) h ≡ true
earlier_has x h k g e d = marked_earlier x k h ∙ ap (marked x) (sym e) ∙ d

-- ---- all five

-- the word joined, one after the other, with the four
abbrev around₁ : ℕ → ℕ
around₁ x = bit_or x (later 1 x)

abbrev around₂ : ℕ → ℕ
around₂ x = bit_or (around₁ x) (later 2 x)

abbrev around₃ : ℕ → ℕ
around₃ x = bit_or (around₂ x) (x / 2 ^ 1)

abbrev pub around : ℕ → ℕ
around x = bit_or (around₃ x) (x / 2 ^ 2)

module _ (h : ℕ) where
  pub in_first : (a b : ℕ) → marked a h ≡ true → marked (bit_or a b) h ≡ true
  in_first a b e = grind (arith, marked_or, or_first)

  pub in_second : (a b : ℕ) → marked b h ≡ true → marked (bit_or a b) h ≡ true
  in_second a b e = grind (arith, marked_or, or_second)

  pub in_either : {P : Type 0} (a b : ℕ) → marked (bit_or a b) h ≡ true → (marked a h ≡ true → P) → (marked b h ≡ true → P) → P
  in_either a b e = grind (arith, or_cases, marked_or)

module _ (x h : ℕ) (u : h < 32) where
  from₂ : marked (around₂ x) h ≡ true → marked (around x) h ≡ true
  from₂ e = in_first h (around₃ x) (x / 2 ^ 2) (in_first h (around₂ x) (x / 2 ^ 1) e)

  from₁ : marked (around₁ x) h ≡ true → marked (around x) h ≡ true
  from₁ e = from₂ (in_first h (around₁ x) (later 2 x) e)

  by_side : (g : ℕ) → g ≤ h + 2 → h ≤ g + 2 → marked x g ≡ true → Dec (g < h) → Dec (h < g) → Dec (g + 1 < h) → Dec (h + 1 < g)
      → marked (around x) h ≡ true
  by_side g v w d (yes a) b (yes c) e = from₂ (in_second h (around₁ x) (later 2 x) (later_has x h u 2 g (omega arith) d))
  by_side g v w d (yes a) b (no c) e = from₁ (in_second h x (later 1 x) (later_has x h u 1 g (omega arith) d))
  by_side g v w d (no a) (yes b) c (yes e) = in_second h (around₃ x) (x / 2 ^ 2) (earlier_has x h 2 g (omega arith) d)
  by_side g v w d (no a) (yes b) c (no e) =
      in_first h (around₃ x) (x / 2 ^ 2) (in_second h (around₂ x) (x / 2 ^ 1) (earlier_has x h 1 g (omega arith) d))
  by_side g v w d (no a) (no b) c e =
      let same : h ≡ g = omega arith in
      from₁ (in_first h x (later 1 x) (ap (marked x) same ∙ d))

  around_has : (g : ℕ) → g ≤ h + 2 → h ≤ g + 2 → marked x g ≡ true → marked (around x) h ≡ true
  around_has g v w d = by_side g v w d (dec_lt g h) (dec_lt h g) (dec_lt (g + 1) h) (dec_lt (h + 1) g)

  around_from : {P : Type 0} → marked (around x) h ≡ true → ((g : ℕ) → g ≤ h + 2 → h ≤ g + 2 → marked x g ≡ true → P) → P
  around_from {P} e found =
      in_either h (around₃ x) (x / 2 ^ 2) e
      (λ e₃. in_either h (around₂ x) (x / 2 ^ 1) e₃
      (λ e₂. in_either h (around₁ x) (later 2 x) e₂
      (λ e₁. in_either h x (later 1 x) e₁ (λ d. found h (omega arith) (omega arith) d) (behind 1 (omega arith)))
      (behind 2 (omega arith)))
      (ahead 1 (omega arith)))
      (ahead 2 (omega arith))
    where
      behind : (k : ℕ) → k ≤ 2 → marked (later k x) h ≡ true → P
      behind k v d = let r = later_from x h u k d in found (h - k) (omega arith) (omega arith) r.1

      ahead : (k : ℕ) → k ≤ 2 → marked (x / 2 ^ k) h ≡ true → P
      ahead k v d = found (k + h) (omega arith) (omega arith) (sym (marked_earlier x k h) ∙ d)

-- ---- masked to a day of n hours, before and after

module _ (w n : ℕ) (u : n < 32) where
  spread_at : (h : ℕ) → h < n → marked (around (w % 2 ^ n)) h ≡ marked_near n w h
  spread_at h v = agree _ _ out back
    where
      out : marked (around (w % 2 ^ n)) h ≡ true → marked_near n w h ≡ true
      out e =
          around_from (w % 2 ^ n) h (omega arith) e
          (λ g a b d. let inside = cut_inside w n g d in near_by (marked w) n h g inside (sym (marked_cut w n g inside) ∙ d) a b)

      back : marked_near n w h ≡ true → marked (around (w % 2 ^ n)) h ≡ true
      back e = near_from (marked w) n h e (λ g s d a b. around_has (w % 2 ^ n) h (omega arith) g a b (marked_cut w n g s ∙ d))

  pub spread_word : (own day : ℕ) → own ≡ w % 2 ^ n → day ≡ 2 ^ n - 1 → bit_and (around own) day ≡ word n (marked_near n w)
  spread_word own day cut mask = grind (arith, masked, spread_at)
