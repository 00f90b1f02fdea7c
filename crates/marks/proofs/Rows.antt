-- A row of marks and its word: each says what the other is.
use mathlib.Core.Path.{◌≡◌, refl, sym, ◌∙◌, ap, subst}
use mathlib.Core.Bool.{Bool, true, false, ◌||◌}
use Prim.Native.Nat.{ℕ, zero, suc, ◌+◌, ◌-◌, ◌*◌, ◌/◌, ◌%◌, ◌^◌, ◌<◌}
use native.Mathlib.Nat.{mod-one, mod-lt, mod-eq_of_lt, pow-suc, one-mul}
use native.Mathlib.Numerals.{add-one, one-add}
use native.Mathlib.Decide.{dec_lt}
use native.Mathlib.Omega.{arith}
use lib.Dec.{eqb}
use lib.Bits.{bit_and, bit_or, and_mask, or_mod, or_shifted_r}
use lib.Pow.{shl_exact, mod-pow-add, high, low, pow_pos}
use Rattle.std.specs.Prelude.{if◌then◌else◌}
use Rattle.exact.proofs.Parts.{by_test}
use Rattle.tariff.specs.Eligible.{marked}
use Rattle.marks.specs.Word.{word}
use Rattle.marks.proofs.Marked.{marked_cut, or_marks}

-- ---- one hour more

-- what a mark at hour n adds, as a digit at its place
placed : (t : Bool) (n w : ℕ) → w + (if t then 2 ^ n else 0) ≡ (if t then 1 else 0) * 2 ^ n + w
placed true n w = omega arith
placed false n w = omega arith

digit_mark : (t : Bool) → eqb ((if t then 1 else 0) % 2) 1 ≡ t
digit_mark true = refl
digit_mark false = refl

mark_digit : (x : ℕ) → x < 2 → (if eqb x 1 then 1 else 0) ≡ x
mark_digit zero u = refl
mark_digit (suc zero) u = refl
mark_digit (suc (suc x)) u = absurd (omega arith)

module _ (f : ℕ → Bool) where
  pub word_none : word 0 f ≡ 0
  unfolding word
  word_none = refl

  word_next : (n : ℕ) → word (suc n) f ≡ (if f n then 1 else 0) * 2 ^ n + word n f
  unfolding word
  word_next n = placed (f n) n (word n f)

  pub word_small : (n : ℕ) → word n f < 2 ^ n
  unfolding word
  word_small zero = omega arith
  word_small (suc n) =
      by_test (f n)
      (λ t. word n f + (if t then 2 ^ n else 0) < 2 ^ suc n)
      (λ e. omega (arith, word_small n, pow-suc 2 n))
      (λ e. omega (arith, word_small n, pow-suc 2 n))

  -- ---- the marks of a row's word

  word_last : (n : ℕ) → marked (word (suc n) f) n ≡ f n
  word_last n = grind (arith, word_next, high, word_small, digit_mark)

  word_before : (n h : ℕ) → h < n → marked (word (suc n) f) h ≡ marked (word n f) h
  word_before n h u =
      sym (marked_cut (word (suc n) f) n h u)
      ∙ ap (λ (x : ℕ). marked (x % 2 ^ n) h) (word_next n)
      ∙ ap (λ (x : ℕ). marked x h) (low (if f n then 1 else 0) n (word_small n))

  pub marked_word : (n h : ℕ) → h < n → marked (word n f) h ≡ f h
  marked_word zero h u = absurd (omega arith)
  marked_word (suc n) h u = go (dec_lt h n) (marked_word n h)
    where
      go : Dec (h < n) → (h < n → marked (word n f) h ≡ f h) → marked (word (suc n) f) h ≡ f h
      go (yes v) before = word_before n h v ∙ before v
      go (no v) before = let same : n ≡ h = omega arith in subst (λ (k : ℕ). marked (word (suc n) f) k ≡ f k) same (word_last n)

-- ---- the word of a word's marks

pub word_same : (f g : ℕ → Bool) (n : ℕ) → ((h : ℕ) → h < n → f h ≡ g h) → word n f ≡ word n g
unfolding word
word_same f g zero e = refl
word_same f g (suc n) e = λ i. word_same f g n (λ h u. e h (omega arith)) i + (if e n (omega arith) i then 2 ^ n else 0)

word_of_marks : (w n : ℕ) → word n (marked w) ≡ w % 2 ^ n
word_of_marks w zero = word_none (marked w) ∙ sym (mod-one w)
word_of_marks w (suc n) =
    word_next (marked w) n
    ∙ (λ i. mark_digit (w / 2 ^ n % 2) (mod-lt (w / 2 ^ n) (omega arith)) i * 2 ^ n + word_of_marks w n i)
    ∙ sym (mod-pow-add w 1 n)
    ∙ ap (λ (k : ℕ). w % 2 ^ k) (one-add n)

-- each hour is marked
pub word_all : (n : ℕ) → word n (λ h. true) ≡ 2 ^ n - 1
unfolding word
word_all zero = refl
word_all (suc n) = omega (arith, word_all n, pow-suc 2 n, pow_pos n)

-- a word masked to a day is cut to it
pub cut_by : (w day n : ℕ) → day ≡ 2 ^ n - 1 → bit_and w day ≡ w % 2 ^ n
cut_by w day n mask = ap (bit_and w) mask ∙ and_mask w n

-- a word cut to a day is the row that its bits say
pub cut_word : (w n : ℕ) (f : ℕ → Bool) → ((h : ℕ) → h < n → marked w h ≡ f h) → w % 2 ^ n ≡ word n f
cut_word w n f e = sym (word_of_marks w n) ∙ word_same (marked w) f n e

pub masked : (w n : ℕ) (f : ℕ → Bool) → ((h : ℕ) → h < n → marked w h ≡ f h) → bit_and w (2 ^ n - 1) ≡ word n f
masked w n f e = and_mask w n ∙ cut_word w n f e

-- two rows joined
pub word_or : (n : ℕ) (f g : ℕ → Bool) → bit_or (word n f) (word n g) ≡ word n (λ h. f h || g h)
word_or n f g =
    sym (or_mod (word n f) (word n g) n ∙ (λ i. bit_or (whole f i) (whole g i)))
    ∙ sym (word_of_marks (bit_or (word n f) (word n g)) n)
    ∙ word_same _ _ n (λ h u. or_marks (word n f) (word n g) h (marked_word f n h u) (marked_word g n h u))
  where
    whole : (f : ℕ → Bool) → word n f % 2 ^ n ≡ word n f
    whole f = mod-eq_of_lt (word_small f n)

-- ---- a row filled hour by hour

pub one_at : (h : ℕ) → h < 32 → 1 * 2 ^ h % 2 ^ 32 ≡ 2 ^ h
one_at h u = shl_exact {a = 1} 1 h 32 (omega arith) (omega arith) ∙ one-mul (2 ^ h)

module _ (f : ℕ → Bool) (h w : ℕ) (filled : w ≡ word h f) where
  pub fill : h < 32 → f h ≡ true → bit_or w (1 * 2 ^ h % 2 ^ 32) ≡ word (h + 1) f
  unfolding word
  fill u e =
      ap (bit_or w) (shl_exact {a = 1} 1 h 32 (omega arith) (omega arith))
      ∙ or_shifted_r 1 h w (rw filled (word_small f h))
      ∙ rw (add-one h, word, e, filled) (omega arith)

  pub skip : f h ≡ false → w ≡ word (h + 1) f
  unfolding word
  skip e = grind (arith, add-one)
