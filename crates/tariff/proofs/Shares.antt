-- The shares of a reduction: who is served of what is left over; and within the room they sum to it, and none exceeds its potential.
use mathlib.Core.Path.{◌≡◌, refl, ap}
use mathlib.Core.Logic.{◌≢◌, ◌⊎◌, inl, inr}
use mathlib.Core.Bool.{Bool, true, false, ◌||◌}
use Prim.Native.Nat.{ℕ, zero, suc, ◌+◌, ◌-◌, ◌*◌, ◌/◌, ◌%◌, ◌<◌, ◌≤◌}
use native.Mathlib.Nat.{div-add-mod', mod-lt, mul-le-mul_left, le_of_mul-le-mul_right, lt_of_mul-lt-mul_right}
use native.Mathlib.Decide.{dec_lt}
use native.Mathlib.Omega.{arith}
use lib.Dec.{ltb, eqb}
use borrow.Author.Tests.{ltb-false, le-ltb, eqb-true, eqb-false, eq-eqb}
use Rattle.std.specs.Prelude.{if◌then◌else◌}
use Rattle.exact.proofs.Parts.{by_test}
use Rattle.tariff.specs.Derate.{of_five, floor_of, remainder, left_over, one, is_before, rank, share}
use Rattle.tariff.proofs.Ranks.{one_small, one_lt, five, five_same, five_le, before_lt, ranks_below}

-- ---- plain numbers

-- a factor shed from both sides
shed : (m n k : ℕ) → (k ≡ 0 → m ≤ n) → m * k ≤ n * k → m ≤ n
shed m n zero h u = h refl
shed m n (suc k) h u = le_of_mul-le-mul_right u (omega arith)

scaled : (f : ℕ → ℕ) (n : ℕ) → of_five (λ j. f j * n) ≡ of_five f * n
scaled f n = omega arith

summed : (f r p : ℕ → ℕ) (n m : ℕ) → ((j : ℕ) → f j * n + r j ≡ p j * m) → of_five f * n + of_five r ≡ of_five p * m
summed f r p n m h = omega (arith, five (λ j. f j * n + r j ≡ p j * m) (λ j u. h j))

-- what f leaves of m, l, is r in parts of n
left_parts : (f l r n m : ℕ) → f + l ≡ m → f * n + r ≡ n * m → l * n ≡ r
left_parts f l r n m e h = omega (arith, ap (λ x. x * n) e)

-- less than five times n holds n at most four times
few : (l n : ℕ) → (n ≡ 0 → l ≡ 0) → l * n ≤ 5 * (n - 1) → l ≤ 4
few l zero h u = omega (arith, h refl)
few l (suc n) h u = omega (arith, lt_of_mul-lt-mul_right (suc n) {m = l} {n = 5} (omega arith))

either : (a b : Bool) → one a ≤ one (a || b)
either true b = omega arith
either false b = omega arith

-- a schedule that the rounding takes nothing from comes behind each that it takes something from
last : (rem : ℕ → ℕ) (j : ℕ) → rem j ≡ 0 → of_five (λ i. one (ltb 0 (rem i))) ≤ rank rem j
last rem j e = five_le (λ i. one (ltb 0 (rem i))) (λ i. one (is_before rem i j)) (λ i u. rw e (either (ltb 0 (rem i)) _))

pub share_small : (pot : ℕ → ℕ) (red j : ℕ) → share pot red j ≤ floor_of pot red j + 1
unfolding share
share_small pot red j = omega (arith, one_small (ltb (rank (remainder pot red) j) (left_over pot red)))

-- who is served has one more, and the others none: beside any whole number
pub one_or_none : (rem : ℕ → ℕ) (left j n : ℕ) → (n + one (ltb (rank rem j) left) ≡ n) ⊎ (n + one (ltb (rank rem j) left) ≡ n + 1)
one_or_none rem left j n = go (ltb (rank rem j) left)
  where
    go : (t : Bool) → (n + one t ≡ n) ⊎ (n + one t ≡ n + 1)
    go true = inr refl
    go false = inl (omega arith)

-- a schedule that comes before one that is served is served too
pub served_first : (rem : ℕ → ℕ) (left i j m n : ℕ) → i < 5 → j < 5 → is_before rem i j ≡ true
    → m + one (ltb (rank rem j) left) ≡ m + 1
    → n + one (ltb (rank rem i) left) ≡ n + 1
served_first rem left i j m n u v before served =
    omega (arith, one_lt (rank rem i) left, one_lt (rank rem j) left, before_lt rem i j u v before)

module _ (pot : ℕ → ℕ) (red : ℕ) (fits : red ≤ of_five pot) where
  -- ---- one schedule

  floor_none : (j : ℕ) → of_five pot ≡ 0 → floor_of pot red j ≡ 0
  unfolding floor_of
  floor_none j e = rw (eq-eqb (of_five pot) 0 e)

  parts : (j : ℕ) → floor_of pot red j * of_five pot + remainder pot red j ≡ pot j * red
  unfolding floor_of remainder
  parts j =
      by_test (eqb (of_five pot) 0)
      (λ t. (if t then 0 else pot j * red / of_five pot) * of_five pot + (if t then 0 else pot j * red % of_five pot) ≡ pot j * red)
      (λ e. let none : red ≡ 0 = omega (arith, eqb-true (of_five pot) 0 e) in omega (arith, ap (λ x. pot j * x) none))
      (λ e. div-add-mod' (pot j * red) (of_five pot))

  remainder_small : (j : ℕ) → remainder pot red j ≤ of_five pot - 1
  unfolding remainder
  remainder_small j =
      by_test (eqb (of_five pot) 0)
      (λ t. (if t then 0 else pot j * red % of_five pot) ≤ of_five pot - 1)
      (λ e. omega arith)
      (λ e.
      let some : of_five pot ≢ 0 = eqb-false (of_five pot) 0 e in
      omega (arith, mod-lt (pot j * red) {m = of_five pot} (omega arith)))

  pub floor_bound : (j : ℕ) → floor_of pot red j ≤ pot j
  floor_bound j =
      shed (floor_of pot red j) (pot j) (of_five pot)
      (λ e. omega (arith, floor_none j e))
      (omega (arith, parts j, mul-le-mul_left (pot j) fits))

  -- ---- all five

  whole : of_five (floor_of pot red) * of_five pot + of_five (remainder pot red) ≡ of_five pot * red
  whole = summed (floor_of pot red) (remainder pot red) pot (of_five pot) red parts

  pub floors_left : of_five (floor_of pot red) + left_over pot red ≡ red
  unfolding left_over
  floors_left = omega (arith, below)
    where
      below : of_five (floor_of pot red) ≤ red
      below =
          shed (of_five (floor_of pot red)) red (of_five pot)
          (λ e. omega (arith, five_same (floor_of pot red) (λ j. 0) (λ j u. floor_none j e)))
          (omega (arith, whole))

  left_remainders : left_over pot red * of_five pot ≡ of_five (remainder pot red)
  left_remainders =
      left_parts (of_five (floor_of pot red)) (left_over pot red) (of_five (remainder pot red)) (of_five pot) red floors_left whole

  left_none : of_five pot ≡ 0 → left_over pot red ≡ 0
  left_none e = omega (arith, floors_left)

  pub left_small : left_over pot red ≤ 4
  left_small =
      few (left_over pot red) (of_five pot) left_none
      (rw left_remainders (omega (arith, five_le (remainder pot red) (λ j. of_five pot - 1) (λ j u. remainder_small j))))

  -- as many as are left over, or more, have a remainder
  left_some : left_over pot red ≤ of_five (λ j. one (ltb 0 (remainder pot red j)))
  left_some =
      shed (left_over pot red) (of_five some) (of_five pot)
      (λ e. omega (arith, left_none e))
      (rw (left_remainders, ← scaled some (of_five pot)) (five_le (remainder pot red) (λ j. some j * of_five pot) each))
    where
      some : ℕ → ℕ
      some j = one (ltb 0 (remainder pot red j))

      each : (j : ℕ) → j < 5 → remainder pot red j ≤ some j * of_five pot
      each j u =
          by_test (ltb 0 (remainder pot red j))
          (λ t. remainder pot red j ≤ one t * of_five pot)
          (λ e. omega (arith, remainder_small j))
          (λ e. omega (arith, ltb-false 0 (remainder pot red j) e))

  pub shares_sum : of_five (share pot red) ≡ red
  unfolding share
  shares_sum = omega (arith, floors_left, ranks_below (remainder pot red) (left_over pot red) (omega (arith, left_small)))

  pub share_bound : (j : ℕ) → share pot red j ≤ pot j
  unfolding share
  share_bound j = go (dec_lt 0 (remainder pot red j))
    where
      go : Dec (0 < remainder pot red j) → share pot red j ≤ pot j
      go (yes h) =
          let more : floor_of pot red j < pot j = lt_of_mul-lt-mul_right (of_five pot) (omega (arith, parts j, mul-le-mul_left (pot j) fits)) in
          omega (arith, share_small pot red j)
      go (no h) =
          let high : left_over pot red ≤ rank (remainder pot red) j = omega (arith, left_some, last (remainder pot red) j (omega arith)) in
          rw (le-ltb (rank (remainder pot red) j) (left_over pot red) high) (omega (arith, floor_bound j))
