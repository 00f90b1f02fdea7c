-- Ranges: what keeps within N, under each operation, and what then fits an `i64`.
use Prim.Native.Nat.{ℕ, suc, ◌+◌, ◌*◌, ◌^◌, ◌≤◌}
use native.Mathlib.Nat.{mul-le-mul}
use native.Mathlib.Omega.{arith}
use lib.Dec.{T, ltb, leb, ltb→lt, leb→le}
use lib.IntN.{ℤ, pos, negsuc, neg_ℤ, ◌+ℤ◌, ◌-ℤ◌, ◌*ℤ◌}
use lib.Signed.{mag}
use mir.Syntax.{w64}
use mir.Val.{SFits}
use Rattle.exact.specs.Whole.{over, under, min_z, max_z, Within, span}
use Rattle.exact.proofs.Parts.{apart, neg_over, neg_under, add_parts, less_parts, min_parts, max_parts, span_parts}

pub within_more : {A B : ℕ} {z : ℤ} → A ≤ B → Within A z → Within B z
within_more h w = omega arith

-- the same with numerals, by computation
pub within_lit : {A B : ℕ} {z : ℤ} → T (leb A B) → Within A z → Within B z
within_lit {A} {B} t w = within_more (leb→le A B t) w

pub within_zero : (N : ℕ) → Within N (pos 0)
within_zero N = omega arith

pub within_neg : {A : ℕ} {a : ℤ} → Within A a → Within A (neg_ℤ a)
within_neg {a = a} w = omega (arith, neg_over a, neg_under a)

pub within_add : {A B : ℕ} {a b : ℤ} → Within A a → Within B b → Within (A + B) (a +ℤ b)
within_add {a = a} {b} v w = omega (arith, add_parts a b, apart (a +ℤ b))

pub within_less : {A B : ℕ} {a b : ℤ} → Within A a → Within B b → Within (A + B) (a -ℤ b)
within_less {a = a} {b} v w = omega (arith, less_parts a b, apart (a -ℤ b))

pub within_mul : {A B : ℕ} {a b : ℤ} → Within A a → Within B b → Within (A * B) (a *ℤ b)
within_mul {A} {B} {a} {b} v w = go a b v w
  where
    go : (a b : ℤ) → Within A a → Within B b → Within (A * B) (a *ℤ b)
    go (pos m) (pos n) v w = omega (arith, mul-le-mul v.above w.above)
    go (pos m) (negsuc n) v w = within_neg {a = pos (m * suc n)} (omega (arith, mul-le-mul v.above w.below))
    go (negsuc m) (pos n) v w = within_neg {a = pos (suc m * n)} (omega (arith, mul-le-mul v.below w.above))
    go (negsuc m) (negsuc n) v w = omega (arith, mul-le-mul v.below w.below)

pub within_min : {N : ℕ} {a b : ℤ} → Within N a → Within N b → Within N (min_z a b)
within_min {a = a} {b} v w = omega (arith, min_parts a b, apart (min_z a b))

pub within_max : {N : ℕ} {a b : ℤ} → Within N a → Within N b → Within N (max_z a b)
within_max {a = a} {b} v w = omega (arith, max_parts a b, apart (max_z a b))

pub within_span : {A B : ℕ} {a b : ℤ} → Within A a → Within B b → span a b ≤ A + B
within_span {a = a} {b} v w = omega (arith, span_parts a b)

pub over_mag : (z : ℤ) → over z ≤ mag z
over_mag (pos n) = omega arith
over_mag (negsuc n) = omega arith

mag_parts : (z : ℤ) → mag z ≤ over z + under z
mag_parts (pos n) = omega arith
mag_parts (negsuc n) = omega arith

pub within_fits : {N : ℕ} {z : ℤ} → T (ltb N (2 ^ 63)) → Within N z → SFits w64 z
within_fits {N} {z} t w = record { sfits = omega (arith, mag_parts z, apart z, ltb→lt N (2 ^ 63) t) }
