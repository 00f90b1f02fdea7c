-- What code computes at `i64`: a number x, perhaps read back from its bits, is the number z, within N.
use mathlib.Core.Path.{◌≡◌, refl, sym, ◌∙◌, ap, subst}
use mathlib.Core.Bool.{Bool, true, false}
use Prim.Native.Nat.{ℕ, ◌+◌, ◌*◌, ◌/◌, ◌%◌, ◌^◌, ◌<◌}
use native.Mathlib.Nat.{div-le_self, mod-le}
use native.Mathlib.Omega.{arith}
use lib.Dec.{T, ltb, eqb}
use borrow.Author.Tests.{eqb-true, eqb-false}
use lib.IntN.{ℤ, pos, negsuc, ◌+ℤ◌, ◌-ℤ◌, ◌*ℤ◌}
use lib.Signed.{lt_z, mag, quot_z, rem_z}
use mir.Syntax.{w64}
use mir.Val.{SFits, to_z, of_z}
use mir.Facts.{to_z-of_z}
use Rattle.exact.proofs.Apart.{impossible}
use Rattle.exact.specs.Whole.{over, min_z, max_z, eq_z, Within}
use Rattle.exact.proofs.Parts.{arithℤ, by_test, min_parts, max_parts, apart, true-eq_z, false-eq_z}
use Rattle.exact.proofs.Range.{within_add, within_less, within_mul, over_mag, within_fits}

-- x as a local holds it: its bits, read back
abbrev pub held : ℤ → ℤ
held z = to_z w64 (of_z w64 z)

pub record Is (N : ℕ) (x z : ℤ) : Type 0 where
  pub same : x ≡ z
  pub range : Within N z

pub plain : {N : ℕ} {z : ℤ} → Within N z → Is N z z
plain w = record { same = refl; range = w }

pub fits : {N : ℕ} {x z : ℤ} → T (ltb N (2 ^ 63)) → Is N x z → SFits w64 x
fits {N} t h = within_fits {N = N} t (rw h.same h.range)

pub back : {N : ℕ} {x z : ℤ} → T (ltb N (2 ^ 63)) → Is N x z → Is N (held x) z
back t h = record { same = to_z-of_z (fits t h) ∙ h.same; range = h.range }

pub leaf : {N : ℕ} {z : ℤ} → T (ltb N (2 ^ 63)) → Within N z → Is N (held z) z
leaf t w = back t (plain w)

pub is_add : {A B : ℕ} {x y a b : ℤ} → Is A x a → Is B y b → Is (A + B) (x +ℤ y) (a +ℤ b)
is_add f g = record { same = λ i. f.same i +ℤ g.same i; range = within_add f.range g.range }

pub is_less : {A B : ℕ} {x y a b : ℤ} → Is A x a → Is B y b → Is (A + B) (x -ℤ y) (a -ℤ b)
is_less f g = record { same = λ i. f.same i -ℤ g.same i; range = within_less f.range g.range }

pub is_mul : {A B : ℕ} {x y a b : ℤ} → Is A x a → Is B y b → Is (A * B) (x *ℤ y) (a *ℤ b)
is_mul f g = record { same = λ i. f.same i *ℤ g.same i; range = within_mul f.range g.range }

-- what a function that computes x returns
pub gives : {N : ℕ} {x z : ℤ} → T (ltb N (2 ^ 63)) → Is N x z → held x ≡ z
gives t h = (back t h).same

-- the whole number that an `i64` hands over
pub handed : (z : ℤ) → mag z < 2 ^ 63 → held z ≡ z
handed z f = to_z-of_z {w = w64} {z = z} (record { sfits = f })

-- ---- tests of two numbers, each read back from its bits
module _ (a b : ℤ) (fa : mag a < 2 ^ 63) (fb : mag b < 2 ^ 63) where
  pub lt_held : lt_z (held a) (held b) ≡ lt_z a b
  lt_held = λ i. lt_z (handed a fa i) (handed b fb i)

  pub eq_held : of_z w64 a ≡ of_z w64 b → eq_z a b ≡ true
  eq_held e = true-eq_z a b (sym (handed a fa) ∙ ap (to_z w64) e ∙ handed b fb)

  pub ne_held : (of_z w64 a ≡ of_z w64 b → ⊥) → eq_z a b ≡ false
  ne_held n = false-eq_z a b (λ e. n (ap (of_z w64) e))

  pub eq_is : eqb (of_z w64 a) (of_z w64 b) ≡ eq_z a b
  eq_is =
      by_test (eqb (of_z w64 a) (of_z w64 b)) (λ t. t ≡ eq_z a b)
      (λ e. sym (eq_held (eqb-true (of_z w64 a) (of_z w64 b) e)))
      (λ e. sym (ne_held (eqb-false (of_z w64 a) (of_z w64 b) e)))

  pub lt_is : (t : Bool) → lt_z (held a) (held b) ≡ t → lt_z a b ≡ t
  lt_is t e = sym lt_held ∙ e

  pub min_yes : lt_z (held a) (held b) ≡ true → a ≡ min_z a b
  min_yes e = let h = lt_is true e in omega (arithℤ, min_parts a b)

  pub min_no : lt_z (held a) (held b) ≡ false → b ≡ min_z a b
  min_no e = let h = lt_is false e in omega (arithℤ, min_parts a b)

  pub max_yes : lt_z (held a) (held b) ≡ true → b ≡ max_z a b
  max_yes e = let h = lt_is true e in omega (arithℤ, max_parts a b)

  pub max_no : lt_z (held a) (held b) ≡ false → a ≡ max_z a b
  max_no e = let h = lt_is false e in omega (arithℤ, max_parts a b)

-- ---- a literal; and the quotient by one and what is left, of what is not negative
pub literal : (n : ℕ) → Is n (pos n) (pos n)
literal n = plain (record { above = omega arith; below = omega arith })

pub over_none : (a : ℤ) → lt_z a (pos 0) ≡ true → over a ≡ 0
over_none a h = omega (arithℤ, apart a)

quot_over : (a : ℤ) (k : ℕ) → lt_z a (pos 0) ≡ false → quot_z a (pos k) ≡ pos (over a / k)
quot_over (pos n) k h = refl
quot_over (negsuc n) k h = impossible cc

rem_over : (a : ℤ) (k : ℕ) → lt_z a (pos 0) ≡ false → rem_z a (pos k) ≡ pos (over a % k)
rem_over (pos n) k h = refl
rem_over (negsuc n) k h = impossible cc

quot_small : (a : ℤ) (k : ℕ) → mag a < 2 ^ 63 → lt_z a (pos 0) ≡ false → SFits w64 (quot_z a (pos k))
quot_small (pos n) k f h = record { sfits = omega (arith, div-le_self n k) }
quot_small (negsuc n) k f h = impossible cc

module _ (a : ℤ) (k : ℕ) (fa : mag a < 2 ^ 63) (h : lt_z a (pos 0) ≡ false) where
  quot_held : quot_z (held a) (pos k) ≡ quot_z a (pos k)
  quot_held = ap (λ (z : ℤ). quot_z z (pos k)) (handed a fa)

  pub quot_fits : SFits w64 (quot_z (held a) (pos k))
  quot_fits = subst (SFits w64) (sym quot_held) (quot_small a k fa h)

  pub quot_is : held (quot_z (held a) (pos k)) ≡ pos (over a / k)
  quot_is = to_z-of_z quot_fits ∙ quot_held ∙ quot_over a k h

  rem_held : rem_z (held a) (pos k) ≡ pos (over a % k)
  rem_held = ap (λ (z : ℤ). rem_z z (pos k)) (handed a fa) ∙ rem_over a k h

  pub rem_is : held (rem_z (held a) (pos k)) ≡ pos (over a % k)
  rem_is = ap held rem_held ∙ handed (pos (over a % k)) (omega (arith, mod-le (over a) k, over_mag a))
