-- The fewest digits that hold a number are its decimal text.
use mathlib.Core.Path.{◌≡◌, refl, ◌∙◌, ap, subst}
use mathlib.Core.Bool.{true, false, cond}
use mathlib.Core.List.{List, [], ◌∷◌, ◌++◌}
use Prim.Native.Nat.{ℕ, zero, suc, ◌+◌, ◌/◌, ◌%◌, ◌≤◌, ◌<◌, ◌^◌}
use native.Mathlib.Omega.{arith}
use borrow.Author.Tests.{lt-ltb, le-ltb, ltb-true}
use lib.IntN.{ℤ, pos, negsuc, nat_abs}
use lib.Signed.{lt_z}
use Rattle.exact.proofs.Apart.{impossible}
use Rattle.exact.proofs.Bits.{handed}
use Rattle.io.specs.Digits.{last_digits, hex_digit_ascii, IsDigitCount}
use Rattle.text.specs.Decimal.{natural}
use Rattle.page.specs.Numerals.{count, signed}

digit : (n : ℕ) → hex_digit_ascii (n % 10) ≡ 48 + n % 10
digit n = ap (λ b. cond b (48 + n % 10) (87 + n % 10)) (lt-ltb (n % 10) 10 (omega arith))

one_at_least : (k : ℕ) → 1 ≤ 10 ^ k
one_at_least zero = omega arith
one_at_least (suc k) = let z = one_at_least k in omega arith

pub decimal_text : (left k n : ℕ) → n < 10 ^ suc left → IsDigitCount 10 1 n k → last_digits 10 k n ≡ natural (suc left) n
unfolding natural
decimal_text left zero n h f = absurd (let z = f.0 in omega arith)
decimal_text left (suc zero) n h f =
    rw (lt-ltb n 10 (let z = f.1 in omega arith)) (ap (λ (d : ℕ). d ∷ []) (digit n ∙ (let z = f.1 in omega arith)))
decimal_text zero (suc (suc k)) n h f =
    absurd (
    let p = one_at_least k in
    let lead : 10 ^ suc k ≤ n = subst (λ (m : ℕ). 10 ^ m ≤ n) (omega arith) (f.2 (omega arith)) in
    omega arith)
decimal_text (suc left) (suc (suc k)) n h f =
    let p = one_at_least k in
    let lead : 10 ^ suc k ≤ n = subst (λ (m : ℕ). 10 ^ m ≤ n) (omega arith) (f.2 (omega arith)) in
    let front : 10 ^ k ≤ n / 10 = omega arith in
    let rest : IsDigitCount 10 1 (n / 10) (suc k) =
    (omega arith, (let z = f.1 in omega arith), λ u. subst (λ (m : ℕ). 10 ^ m ≤ n / 10) (omega arith) front) in
    rw (le-ltb n 10 (omega arith)) (
    ap (λ (d : List ℕ). d ++ (hex_digit_ascii (n % 10) ∷ [])) (decimal_text left (suc k) (n / 10) (omega arith) rest)
    ∙ ap (λ (d : ℕ). natural (suc left) (n / 10) ++ (d ∷ [])) (digit n))

-- ---- the sign

pub plain : (v : ℤ) → lt_z v (pos 0) ≡ false → count (nat_abs v) ≡ signed v
plain (pos n) e = refl
plain (negsuc n) e = impossible cc

pub with_minus : (v : ℤ) → lt_z v (pos 0) ≡ true → 45 ∷ count (nat_abs v) ≡ signed v
with_minus (pos n) e = absurd (let h = ltb-true n 0 e in omega arith)
with_minus (negsuc n) e = refl

pub ruleset numerals = (decimal_text, plain, with_minus, handed)
