-- Which hours a word marks when it is made of others: joined, shifted, cut to its lowest bits.
use mathlib.Core.Path.{◌≡◌, refl, sym, ◌∙◌, ap}
use mathlib.Core.Bool.{Bool, true, false, ◌||◌, false≢true}
use Prim.Native.Nat.{ℕ, zero, suc, ◌+◌, ◌-◌, ◌*◌, ◌/◌, ◌%◌, ◌^◌, ◌<◌, ◌≤◌}
use native.Mathlib.Nat.{mod-lt, div-eq_of_lt, mul-mod_left, zero-lt-suc, lt_of_lt_of_le}
use native.Mathlib.Decide.{dec_lt}
use native.Mathlib.Omega.{arith}
use lib.Dec.{eqb}
use lib.Bits.{bit_and, bit_or, or_shr, or_mod, and_mask}
use lib.Pow.{pow_pos, pow_mono, shl-shr, shr-shr, field, mod-mod-pow}
use Rattle.tariff.specs.Eligible.{marked}

-- ---- joined

below_two : (a : ℕ) → a % 2 < 2
below_two a = mod-lt a (zero-lt-suc 1)

or_digits : (x y : ℕ) → x < 2 → y < 2 → eqb (bit_or x y) 1 ≡ (eqb x 1 || eqb y 1)
or_digits zero zero p q = refl
or_digits zero (suc zero) p q = refl
or_digits (suc zero) zero p q = refl
or_digits (suc zero) (suc zero) p q = refl
or_digits zero (suc (suc y)) p q = absurd (omega arith)
or_digits (suc zero) (suc (suc y)) p q = absurd (omega arith)
or_digits (suc (suc x)) y p q = absurd (omega arith)

pub marked_or : (a b h : ℕ) → marked (bit_or a b) h ≡ (marked a h || marked b h)
marked_or a b h =
    ap (λ (x : ℕ). eqb (x % 2) 1) (or_shr a b h)
    ∙ ap (λ (x : ℕ). eqb x 1) (or_mod (a / 2 ^ h) (b / 2 ^ h) 1)
    ∙ or_digits (a / 2 ^ h % 2) (b / 2 ^ h % 2) (below_two (a / 2 ^ h)) (below_two (b / 2 ^ h))

pub or_marks : (a b h : ℕ) {p q : Bool} → marked a h ≡ p → marked b h ≡ q → marked (bit_or a b) h ≡ (p || q)
or_marks a b h d e = marked_or a b h ∙ (λ i. d i || e i)

-- ---- cut to the lowest n

pub marked_cut : (a n h : ℕ) → h < n → marked (a % 2 ^ n) h ≡ marked a h
marked_cut a n h u =
    let more = n - (h + 1) in
    let e : n ≡ (more + 1) + h = omega arith in
    ap (λ (k : ℕ). marked (a % 2 ^ k) h) e
    ∙ ap (λ (x : ℕ). eqb (x % 2) 1) (field a (more + 1) h)
    ∙ ap (λ (x : ℕ). eqb x 1) (mod-mod-pow (a / 2 ^ h) more 1)

-- a number has no bit past its size
pub marked_past : (a h : ℕ) → a < 2 ^ h → marked a h ≡ false
marked_past a h u = ap (λ (x : ℕ). eqb (x % 2) 1) (div-eq_of_lt u)

pub cut_past : (a n h : ℕ) → n ≤ h → marked (a % 2 ^ n) h ≡ false
cut_past a n h u = marked_past (a % 2 ^ n) h (lt_of_lt_of_le (mod-lt a (pow_pos n)) (pow_mono u))

pub cut_inside : (a n h : ℕ) → marked (a % 2 ^ n) h ≡ true → h < n
cut_inside a n h e = go (dec_lt h n)
  where
    go : Dec (h < n) → h < n
    go (yes u) = u
    go (no u) = absurd (false≢true (sym (cut_past a n h (omega arith)) ∙ e))

-- the test of a bit in the code
pub bit_test : (a h : ℕ) → eqb (bit_and (a / 2 ^ h) 1) 1 ≡ marked a h
bit_test a h = ap (λ (x : ℕ). eqb x 1) (and_mask (a / 2 ^ h) 1)

-- ---- shifted by k, to earlier hours and to later ones

pub marked_earlier : (a k h : ℕ) → marked (a / 2 ^ k) h ≡ marked a (k + h)
marked_earlier a k h = ap (λ (x : ℕ). eqb (x % 2) 1) (shr-shr a k h)

pub marked_later : (a k h : ℕ) → marked (a * 2 ^ k) (k + h) ≡ marked a h
marked_later a k h = sym (marked_earlier (a * 2 ^ k) k h) ∙ ap (λ (x : ℕ). marked x h) (shl-shr a k)

-- no bit comes in below
pub later_low : (a k h : ℕ) → h < k → marked (a * 2 ^ k) h ≡ false
later_low a k h u =
    sym (marked_cut (a * 2 ^ k) k h u)
    ∙ ap (λ (x : ℕ). marked x h) (mul-mod_left a (2 ^ k))
    ∙ marked_past 0 h (pow_pos h)
