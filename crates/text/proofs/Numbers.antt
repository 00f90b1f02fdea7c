-- Bytes, digits and numbers at a place of a text, step by step as the code reads them.
use Rattle.std.specs.Prelude.{None, Some, slice_get, if◌then◌else◌}
use Rattle.std.specs.Option.{option_eq}
use Rattle.std.proofs.lemmas.Option.{get_or_from_slice_get}
use Rattle.std.proofs.lemmas.Bool.Decides.{nat_tests}
use Rattle.std.specs.Char.{is_ascii_digit}
use mathlib.Core.Bool.{true, false}
use mathlib.Core.Path.{◌≡◌, refl, sym, ap, ◌∙◌}
use mathlib.Core.List.{List, [], ◌∷◌}
use Prim.Native.Nat.{ℕ, zero, suc, ◌+◌, ◌-◌, ◌*◌, ◌^◌, ◌≤◌, ◌<◌}
use native.Mathlib.Decide.{dec_lt}
use native.Mathlib.Numerals.{sub-one, add-one}
use native.Mathlib.Nat.{not-suc-le-zero, le_of_suc-le-suc, pow-suc, pow-le-pow_right}
use native.Mathlib.Omega.{arith}
use borrow.Author.Tests.{eq-eqb, ne_eqb}
use lib.Dec.{eqb, lit<}
use lib.ListN.{length, get_or, get_or-eq_default}
use Rattle.text.specs.Text.{byte_at}
use Rattle.text.specs.Number.{digit_of, digit_at, digit_said, more_digits, natural_at, number_at, plain, negative}

-- inside a text it does not matter what stands past its end
pub inside_same : (s : List ℕ) (i d e : ℕ) → i < length s → get_or s i d ≡ get_or s i e
inside_same [] i d e h = absurd (not-suc-le-zero h)
inside_same (x ∷ s) zero d e h = refl
inside_same (x ∷ s) (suc i) d e h = inside_same s i d e (le_of_suc-le-suc h)

-- where a byte stands, the text goes on
pub byte_inside : (s : List ℕ) (i b : ℕ) → byte_at s i ≡ b → b < 256 → i < length s
byte_inside s i b e h = go (dec_lt i (length s))
  where
    go : Dec (i < length s) → i < length s
    go (yes p) = p
    go (no q) = let o : byte_at s i ≡ 256 = get_or-eq_default s 256 (omega arith) in absurd (omega arith)

pub digit_inside : (s : List ℕ) (i : ℕ) → (digit_at s i ≡ 10 → ⊥) → i < length s
unfolding digit_at
digit_inside s i h = go (dec_lt i (length s))
  where
    go : Dec (i < length s) → i < length s
    go (yes p) = p
    go (no q) = absurd (h (ap digit_of (get_or-eq_default s 256 (omega arith))))

-- ---- a byte that is read, or none

pub byte_read : (s : List ℕ) (i b : ℕ) → slice_get s i ≡ Some b → byte_at s i ≡ b
byte_read s i b e = get_or_from_slice_get s i b 256 e

pub byte_none : (s : List ℕ) (i : ℕ) → slice_get s i ≡ None → byte_at s i ≡ 256
byte_none [] i e = refl
byte_none (x ∷ s) zero e = cc
byte_none (x ∷ s) (suc i) e = byte_none s i e

-- whether it is a certain one
pub is_byte : (s : List ℕ) (i b : ℕ) → b < 256 → option_eq eqb (slice_get s i) (Some b) ≡ eqb (byte_at s i) b
is_byte [] i b h = grind (arith, nat_tests)
is_byte (x ∷ s) zero b h = refl
is_byte (x ∷ s) (suc i) b h = is_byte s i b h

-- ---- a digit that is read, or none

-- by the test of a digit that Rust has
digit_by : (b : ℕ) → (if eqb (digit_of b) 10 then None else Some (digit_of b)) ≡ (if is_ascii_digit b then Some (b - 48) else None)
digit_by b = grind (arith, nat_tests)

module _ (s : List ℕ) (i : ℕ) where
  pub no_byte : None ≡ slice_get s i → digit_said s i ≡ None
  unfolding digit_at
  no_byte e = rw (byte_none s i (sym e))

  pub numeral_said : (b : ℕ) → Some b ≡ slice_get s i → is_ascii_digit b ≡ true → digit_said s i ≡ Some (b - 48)
  unfolding digit_at
  numeral_said b e n = rw (byte_read s i b (sym e), digit_by b, n)

  pub other_said : (b : ℕ) → Some b ≡ slice_get s i → is_ascii_digit b ≡ false → digit_said s i ≡ None
  unfolding digit_at
  other_said b e n = rw (byte_read s i b (sym e), digit_by b, n)

  pub not_said : None ≡ digit_said s i → digit_at s i ≡ 10
  not_said e = grind (arith, nat_tests)

  pub said_is : (d : ℕ) → Some d ≡ digit_said s i → digit_at s i ≡ d
  said_is d e = grind (arith, nat_tests)

  pub said_below : (d : ℕ) → Some d ≡ digit_said s i → d < 10
  unfolding digit_at
  said_below d e = grind (arith, nat_tests)

  pub said_inside : (d : ℕ) → Some d ≡ digit_said s i → i < length s
  said_inside d e = digit_inside s i (λ n. grind (arith, nat_tests))

pub ruleset digits_said = (no_byte, numeral_said, other_said, not_said, said_is, said_below, said_inside)

-- ---- digits that are read one after the other

-- the digits end where none stands, or none is wanted
pub more_stops : (left v : ℕ) (s : List ℕ) (i : ℕ) → digit_at s i ≡ 10 → more_digits left v s i ≡ Some (v, i)
unfolding more_digits
more_stops zero v s i h = refl
more_stops (suc k) v s i h = simp (eq-eqb _ _ h)

pub more_goes_on : (left v : ℕ) (s : List ℕ) (i : ℕ) → 0 < left → (digit_at s i ≡ 10 → ⊥)
    → more_digits left v s i ≡ more_digits (left - 1) (v * 10 + digit_at s i) s (i + 1)
unfolding more_digits
more_goes_on zero v s i h n = absurd (not-suc-le-zero h)
more_goes_on (suc k) v s i h n = simp (ne_eqb _ _ n, sub-one)

pub more_ends : (left v : ℕ) (s : List ℕ) (i : ℕ) → left ≤ 0 → more_digits left v s i ≡ Some (v, i)
unfolding more_digits
more_ends zero v s i h = refl
more_ends (suc k) v s i h = absurd (not-suc-le-zero h)

pub said_goes_on : (read v : ℕ) (s : List ℕ) (i d : ℕ) → read < 6 → Some d ≡ digit_said s i
    → more_digits (6 - read) v s i ≡ more_digits (6 - (read + 1)) (v * 10 + d) s (i + 1)
said_goes_on read v s i d h e =
    let is = said_is s i d e in
    let below = said_below s i d e in
    let left : 6 - read - 1 ≡ 6 - (read + 1) = omega arith in
    more_goes_on (6 - read) v s i (omega arith) (λ z. omega arith) ∙ (λ j. more_digits (left j) (v * 10 + is j) s (i + 1))

-- seven digits in all: what is read so far
pub digits_more : (read v d : ℕ) → v < 10 ^ (read + 1) → d < 10 → v * 10 + d < 10 ^ (read + 1 + 1)
digits_more read v d b e = rw (add-one (read + 1), pow-suc) (omega arith)

pub digits_fit : (read : ℕ) → read ≤ 6 → 10 ^ (read + 1) ≤ 10000000
digits_fit read h =
    let le : read + 1 ≤ 7 = omega arith in
    let m : 10 ^ (read + 1) ≤ 10 ^ 7 = pow-le-pow_right (lit< tt) le in
    omega arith

pub ruleset digits_step = (not_said, said_below, said_inside, more_stops, more_ends, digits_fit)

-- ---- a number is its digits, which begin here or behind a minus
module _ (s : List ℕ) (at : ℕ) where
  pub number_minus : option_eq eqb (slice_get s at) (Some 45) ≡ true → number_at s at ≡ negative (natural_at s (at + 1))
  unfolding number_at
  number_minus e = let m = sym (is_byte s at 45 (lit< tt)) ∙ e in simp m

  pub number_plain : option_eq eqb (slice_get s at) (Some 45) ≡ false → number_at s at ≡ plain (natural_at s at)
  unfolding number_at
  number_plain e = let m = sym (is_byte s at 45 (lit< tt)) ∙ e in simp m

pub ruleset numbers = (number_minus, number_plain)
