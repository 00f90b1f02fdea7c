-- The ring of ℤ: products over sums, and a rule set for `simp` that multiplies out and sorts.
use mathlib.Core.Path.{◌≡◌, sym, ◌∙◌, ap}
use Prim.Native.Nat.{ℕ, ◌*◌}
use native.Mathlib.Omega.{arith}
use lib.IntN.{ℤ, neg_ℤ, ◌+ℤ◌, ◌*ℤ◌, neg_ℤ-+ℤ, neg_ℤ-neg_ℤ, +ℤ_assoc, +ℤ_comm, *ℤ_comm}
use Rattle.exact.specs.Whole.{over, under}
use Rattle.exact.proofs.Parts.{parts_eq, add_parts, mul_parts, neg_over, neg_under}

pub +-over-* : (a b c : ℤ) → (a +ℤ b) *ℤ c ≡ a *ℤ c +ℤ b *ℤ c
+-over-* a b c =
    parts_eq _ _
    (omega (
      arith,
      mul_parts (a +ℤ b) c,
      mul_parts a c,
      mul_parts b c,
      add_parts (a *ℤ c) (b *ℤ c),
      ap (λ (x : ℕ). x * over c) (add_parts a b),
      ap (λ (x : ℕ). x * under c) (add_parts a b),
    ))

pub *-over-+ : (a b c : ℤ) → a *ℤ (b +ℤ c) ≡ a *ℤ b +ℤ a *ℤ c
*-over-+ a b c = rw (*ℤ_comm a (b +ℤ c), *ℤ_comm a b, *ℤ_comm a c) (+-over-* b c a)

pub *-assoc : (a b c : ℤ) → a *ℤ b *ℤ c ≡ a *ℤ (b *ℤ c)
*-assoc a b c =
    parts_eq _ _
    (omega (
      arith,
      mul_parts (a *ℤ b) c,
      mul_parts a (b *ℤ c),
      ap (λ (x : ℕ). x * over c) (mul_parts a b),
      ap (λ (x : ℕ). x * under c) (mul_parts a b),
      ap (λ (x : ℕ). x * over a) (mul_parts b c),
      ap (λ (x : ℕ). x * under a) (mul_parts b c),
    ))

pub neg-*-left : (a b : ℤ) → neg_ℤ a *ℤ b ≡ neg_ℤ (a *ℤ b)
neg-*-left a b =
    parts_eq _ _
    (omega (
      arith,
      mul_parts (neg_ℤ a) b,
      mul_parts a b,
      neg_over (a *ℤ b),
      neg_under (a *ℤ b),
      ap (λ (x : ℕ). x * over b) (neg_over a),
      ap (λ (x : ℕ). x * under b) (neg_over a),
      ap (λ (x : ℕ). x * over b) (neg_under a),
      ap (λ (x : ℕ). x * under b) (neg_under a),
    ))

pub neg-*-right : (a b : ℤ) → a *ℤ neg_ℤ b ≡ neg_ℤ (a *ℤ b)
neg-*-right a b = rw (*ℤ_comm a (neg_ℤ b), *ℤ_comm a b) (neg-*-left b a)

pub *-left-comm : (a b c : ℤ) → a *ℤ (b *ℤ c) ≡ b *ℤ (a *ℤ c)
*-left-comm a b c = sym (*-assoc a b c) ∙ ap (λ (z : ℤ). z *ℤ c) (*ℤ_comm a b) ∙ *-assoc b a c

pub +-left-comm : (a b c : ℤ) → a +ℤ (b +ℤ c) ≡ b +ℤ (a +ℤ c)
+-left-comm a b c = sym (+ℤ_assoc a b c) ∙ ap (λ (z : ℤ). z +ℤ c) (+ℤ_comm a b) ∙ +ℤ_assoc b a c

pub ruleset expandℤ = (+-over-*, *-over-+, neg-*-left, neg-*-right, neg_ℤ-+ℤ, neg_ℤ-neg_ℤ, *-assoc, *-left-comm, *ℤ_comm, +ℤ_assoc, +-left-comm, +ℤ_comm)
