-- Places and distances: x is a and the steps from a up to x.
use mathlib.Core.Path.{◌≡◌}
use mathlib.Core.Bool.{true, false, not}
use Prim.Native.Nat.{ℕ, ◌+◌, ◌<◌}
use lib.IntN.{ℤ, pos, ◌+ℤ◌, ◌-ℤ◌, +ℤ_assoc}
use lib.Signed.{le_z, lt_z}
use Rattle.exact.specs.Whole.{min_z, max_z, span}
use Rattle.exact.proofs.Parts.{arithℤ, less_parts, by_test, span_parts, min_parts, max_parts}

-- ---- from a up to b, where b is not below a

pub span_none : (a b : ℤ) → lt_z a b ≡ false → span a b ≡ 0
span_none a b h = omega (arithℤ, span_parts a b)

pub span_some : (a b : ℤ) → lt_z a b ≡ true → 0 < span a b
span_some a b h = omega (arithℤ, span_parts a b)

pub span_gap : (a b : ℤ) → lt_z b a ≡ false → b -ℤ a ≡ pos (span a b)
span_gap a b h = omega (arithℤ, less_parts b a, span_parts a b)

pub lt_flip : (a b : ℤ) → lt_z a b ≡ true → lt_z b a ≡ false
lt_flip a b h = omega arithℤ

-- each test of order by the other
pub le_not_lt : (a b : ℤ) → le_z a b ≡ not (lt_z b a)
le_not_lt a b = by_test (lt_z b a) (λ t. le_z a b ≡ not t) (λ e. omega arithℤ) (λ e. omega arithℤ)

pub step_step : (a : ℤ) (i d : ℕ) → (a +ℤ pos i) +ℤ pos d ≡ a +ℤ pos (i + d)
step_step a i d = +ℤ_assoc a (pos i) (pos d)

-- ---- the lesser and the greater, where the order is known

pub min_of : (a b : ℤ) → lt_z b a ≡ false → min_z a b ≡ a
min_of a b h = omega (arithℤ, min_parts a b)

pub min_of' : (a b : ℤ) → lt_z a b ≡ false → min_z a b ≡ b
min_of' a b h = omega (arithℤ, min_parts a b)

pub max_of : (a b : ℤ) → lt_z b a ≡ false → max_z a b ≡ b
max_of a b h = omega (arithℤ, max_parts a b)

pub max_of' : (a b : ℤ) → lt_z a b ≡ false → max_z a b ≡ a
max_of' a b h = omega (arithℤ, max_parts a b)

-- ---- the test `b ≤ a` where the code tests `a < b`

pub no_le : (a b : ℤ) → lt_z a b ≡ true → le_z b a ≡ false
no_le a b h = omega arithℤ

pub le_unless : (a b : ℤ) → lt_z a b ≡ false → le_z b a ≡ true
le_unless a b h = omega arithℤ
