-- What each operation and each test of ℤ says of the parts above and below zero, so that `omega` decides what is linear.
use mathlib.Core.Path.{◌≡◌, refl, sym, ◌∙◌, ap, subst}
use mathlib.Core.Bool.{Bool, true, false, cond, false≢true}
use Prim.Native.Nat.{ℕ, zero, suc, ◌+◌, ◌*◌, ◌-◌, ◌<◌, ◌≤◌, min, max}
use native.Mathlib.Omega.{arith}
use lib.Dec.{T, ltb, ltb→lt, lt→ltb, le→leb, leb→le}
use borrow.Author.Tests.{ltb-true, ltb-false, leb-false, lt-ltb, le-ltb, le-leb, lt-leb, eq-eqb, ne_eqb, eqb-true}
use lib.IntN.{ℤ, pos, negsuc, neg_ℤ, sub_ℕ, ◌+ℤ◌, ◌-ℤ◌, ◌*ℤ◌, nat_abs}
use lib.Signed.{◌≤ℤ◌, ◌<ℤ◌, le_z, lt_z}
use Rattle.exact.proofs.Apart.{impossible}
use Rattle.std.specs.Prelude.{if◌then◌else◌}
use Rattle.exact.specs.Whole.{over, under, min_z, max_z, eq_z, span}

-- ---- operations

sub_parts : (p n : ℕ) → over (sub_ℕ p n) + n ≡ p + under (sub_ℕ p n)
sub_parts p n = go (ltb p n) refl
  where
    go : (b : Bool) → ltb p n ≡ b → over (cond b (negsuc (n - suc p)) (pos (p - n))) + n ≡ p + under (cond b (negsuc (n - suc p)) (pos (p - n)))
    go true e = omega (arith, ltb-true p n e)
    go false e = omega (arith, ltb-false p n e)

pub apart : (z : ℤ) → min (over z) (under z) ≡ 0
apart (pos n) = omega arith
apart (negsuc n) = omega arith

pub neg_over : (z : ℤ) → over (neg_ℤ z) ≡ under z
neg_over (pos zero) = refl
neg_over (pos (suc n)) = refl
neg_over (negsuc n) = refl

pub neg_under : (z : ℤ) → under (neg_ℤ z) ≡ over z
neg_under (pos zero) = refl
neg_under (pos (suc n)) = refl
neg_under (negsuc n) = refl

pub add_parts : (a b : ℤ) → over (a +ℤ b) + (under a + under b) ≡ under (a +ℤ b) + (over a + over b)
add_parts (pos a) (pos b) = omega arith
add_parts (pos a) (negsuc b) = omega (arith, sub_parts a (suc b))
add_parts (negsuc a) (pos b) = omega (arith, sub_parts b (suc a))
add_parts (negsuc a) (negsuc b) = omega arith

pub less_parts : (a b : ℤ) → over (a -ℤ b) + (under a + over b) ≡ under (a -ℤ b) + (over a + under b)
less_parts a b = omega (arith, add_parts a (neg_ℤ b), neg_over b, neg_under b)

pub mul_parts : (a b : ℤ) → over (a *ℤ b) + (over a * under b + under a * over b) ≡ under (a *ℤ b) + (over a * over b + under a * under b)
mul_parts (pos a) (pos b) = omega arith
mul_parts (pos a) (negsuc b) = omega (arith, neg_over (pos (a * suc b)), neg_under (pos (a * suc b)))
mul_parts (negsuc a) (pos b) = omega (arith, neg_over (pos (suc a * b)), neg_under (pos (suc a * b)))
mul_parts (negsuc a) (negsuc b) = omega arith

-- ---- equations and orders, to ℕ and back

pub eq_parts : {a b : ℤ} → a ≡ b → over a + under b ≡ over b + under a
eq_parts {a} {b} e = ap (λ (z : ℤ). over a + under z) (sym e) ∙ ap (λ (z : ℤ). over z + under a) e

pub parts_eq : (a b : ℤ) → over a + under b ≡ over b + under a → a ≡ b
parts_eq (pos a) (pos b) h = ap pos (omega arith)
parts_eq (pos a) (negsuc b) h = absurd (omega arith)
parts_eq (negsuc a) (pos b) h = absurd (omega arith)
parts_eq (negsuc a) (negsuc b) h = ap negsuc (omega arith)

pub le_parts : {a b : ℤ} → a ≤ℤ b → over a + under b ≤ over b + under a
le_parts {a} {b} h = go a b h.le
  where
    go : (a b : ℤ) → T (le_z a b) → over a + under b ≤ over b + under a
    go (pos a) (pos b) t = omega (arith, leb→le)
    go (pos a) (negsuc b) t = absurd t
    go (negsuc a) (pos b) t = omega arith
    go (negsuc a) (negsuc b) t = omega (arith, leb→le)

pub parts_le : (a b : ℤ) → over a + under b ≤ over b + under a → a ≤ℤ b
parts_le a b h = record { le = go a b h }
  where
    go : (a b : ℤ) → over a + under b ≤ over b + under a → T (le_z a b)
    go (pos a) (pos b) h = le→leb a b (omega arith)
    go (pos a) (negsuc b) h = absurd (omega arith)
    go (negsuc a) (pos b) h = tt
    go (negsuc a) (negsuc b) h = le→leb b a (omega arith)

pub lt_parts : {a b : ℤ} → a <ℤ b → over a + under b < over b + under a
lt_parts {a} {b} h = go a b h.lt
  where
    go : (a b : ℤ) → T (lt_z a b) → over a + under b < over b + under a
    go (pos a) (pos b) t = omega (arith, ltb→lt)
    go (pos a) (negsuc b) t = absurd t
    go (negsuc a) (pos b) t = omega arith
    go (negsuc a) (negsuc b) t = omega (arith, ltb→lt)

pub parts_lt : (a b : ℤ) → over a + under b < over b + under a → a <ℤ b
parts_lt a b h = record { lt = go a b h }
  where
    go : (a b : ℤ) → over a + under b < over b + under a → T (lt_z a b)
    go (pos a) (pos b) h = lt→ltb a b (omega arith)
    go (pos a) (negsuc b) h = absurd (omega arith)
    go (negsuc a) (pos b) h = tt
    go (negsuc a) (negsuc b) h = lt→ltb b a (omega arith)

-- ---- tests, to ℕ and back

is : {b : Bool} → b ≡ true → T b
is e = subst T (sym e) tt

pub lt_true : (a b : ℤ) → lt_z a b ≡ true → over a + under b < over b + under a
lt_true a b e = lt_parts {a = a} {b = b} (record { lt = is e })

pub lt_false : (a b : ℤ) → lt_z a b ≡ false → over b + under a ≤ over a + under b
lt_false (pos a) (pos b) e = omega (arith, ltb-false a b e)
lt_false (pos a) (negsuc b) e = omega arith
lt_false (negsuc a) (pos b) e = impossible cc
lt_false (negsuc a) (negsuc b) e = omega (arith, ltb-false b a e)

pub le_true : (a b : ℤ) → le_z a b ≡ true → over a + under b ≤ over b + under a
le_true a b e = le_parts {a = a} {b = b} (record { le = is e })

pub le_false : (a b : ℤ) → le_z a b ≡ false → over b + under a < over a + under b
le_false (pos a) (pos b) e = omega (arith, leb-false a b e)
le_false (pos a) (negsuc b) e = omega arith
le_false (negsuc a) (pos b) e = impossible cc
le_false (negsuc a) (negsuc b) e = omega (arith, leb-false b a e)

pub true_lt : (a b : ℤ) → over a + under b < over b + under a → lt_z a b ≡ true
true_lt (pos a) (pos b) h = lt-ltb a b (omega arith)
true_lt (pos a) (negsuc b) h = absurd (omega arith)
true_lt (negsuc a) (pos b) h = refl
true_lt (negsuc a) (negsuc b) h = lt-ltb b a (omega arith)

pub false_lt : (a b : ℤ) → over b + under a ≤ over a + under b → lt_z a b ≡ false
false_lt (pos a) (pos b) h = le-ltb a b (omega arith)
false_lt (pos a) (negsuc b) h = refl
false_lt (negsuc a) (pos b) h = absurd (omega arith)
false_lt (negsuc a) (negsuc b) h = le-ltb b a (omega arith)

pub true_le : (a b : ℤ) → over a + under b ≤ over b + under a → le_z a b ≡ true
true_le (pos a) (pos b) h = le-leb a b (omega arith)
true_le (pos a) (negsuc b) h = absurd (omega arith)
true_le (negsuc a) (pos b) h = refl
true_le (negsuc a) (negsuc b) h = le-leb b a (omega arith)

pub false_le : (a b : ℤ) → over b + under a < over a + under b → le_z a b ≡ false
false_le (pos a) (pos b) h = lt-leb a b (omega arith)
false_le (pos a) (negsuc b) h = refl
false_le (negsuc a) (pos b) h = absurd (omega arith)
false_le (negsuc a) (negsuc b) h = lt-leb b a (omega arith)

pub true-eq_z : (a b : ℤ) → a ≡ b → eq_z a b ≡ true
true-eq_z (pos a) (pos b) e = eq-eqb a b (ap nat_abs e)
true-eq_z (pos a) (negsuc b) e = absurd (let z = eq_parts e in omega arith)
true-eq_z (negsuc a) (pos b) e = absurd (let z = eq_parts e in omega arith)
true-eq_z (negsuc a) (negsuc b) e = eq-eqb a b (let z = eq_parts e in omega arith)

pub eq_z-true : (a b : ℤ) → eq_z a b ≡ true → a ≡ b
eq_z-true (pos a) (pos b) e = ap pos (eqb-true a b e)
eq_z-true (pos a) (negsuc b) e = absurd (false≢true e)
eq_z-true (negsuc a) (pos b) e = absurd (false≢true e)
eq_z-true (negsuc a) (negsuc b) e = ap negsuc (eqb-true a b e)

pub false-eq_z : (a b : ℤ) → (a ≡ b → ⊥) → eq_z a b ≡ false
false-eq_z (pos a) (pos b) h = ne_eqb a b (λ e. h (ap pos e))
false-eq_z (pos a) (negsuc b) h = refl
false-eq_z (negsuc a) (pos b) h = refl
false-eq_z (negsuc a) (negsuc b) h = ne_eqb a b (λ e. h (ap negsuc e))

-- what `omega` takes to read and to prove facts and tests of ℤ
pub ruleset arithℤ = (arith, eq_parts, parts_eq, le_parts, parts_le, lt_parts, parts_lt, lt_true, lt_false, le_true, le_false, true_lt, false_lt, true_le, false_le)

-- ---- the lesser, the greater, the distance

pub by_test : (b : Bool) (P : Bool → Type 0) → (b ≡ true → P true) → (b ≡ false → P false) → P b
by_test true P f g = f refl
by_test false P f g = g refl

pub min_parts : (a b : ℤ) → over (min_z a b) + (under a + under b) ≡ under (min_z a b) + min (over a + under b) (over b + under a)
unfolding min_z
min_parts a b =
    by_test (lt_z a b)
    (λ t. over (if t then a else b) + (under a + under b) ≡ under (if t then a else b) + min (over a + under b) (over b + under a))
    (λ e. omega arithℤ)
    (λ e. omega arithℤ)

pub max_parts : (a b : ℤ) → over (max_z a b) + (under a + under b) ≡ under (max_z a b) + max (over a + under b) (over b + under a)
unfolding max_z
max_parts a b =
    by_test (lt_z a b)
    (λ t. over (if t then b else a) + (under a + under b) ≡ under (if t then b else a) + max (over a + under b) (over b + under a))
    (λ e. omega arithℤ)
    (λ e. omega arithℤ)

-- the distance from a up to b, whichever is the greater
pub span_parts : (a b : ℤ) → span a b ≡ (over b + under a) - (over a + under b)
unfolding span
span_parts a b = omega (arith, less_parts b a, apart (b -ℤ a))
