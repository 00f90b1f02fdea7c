-- Five schedules in a row by remainder: of their ranks exactly n are below n, for every n up to 5.
use mathlib.Core.Path.{◌≡◌, refl, sym, ◌∙◌, ap}
use mathlib.Core.Logic.{◌≢◌, ◌↔◌, ◌⊎◌, inl, inr}
use mathlib.Core.Bool.{Bool, true, false, ◌&&◌, ◌||◌, or-true}
use Prim.Native.Nat.{ℕ, zero, suc, ◌+◌, ◌-◌, ◌*◌, ◌<◌, ◌≤◌, min}
use native.Mathlib.Nat.{zero-add, add-zero, add-suc}
use native.Mathlib.Decide.{dec_lt}
use native.Mathlib.Omega.{arith}
use lib.Dec.{ltb, eqb}
use borrow.Author.Tests.{ltb-true, ltb-false, lt-ltb, eqb-true, eqb-false, eq-eqb, ne_eqb}
use Rattle.exact.proofs.Apart.{impossible}
use Rattle.exact.proofs.Parts.{by_test}
use Rattle.tariff.specs.Derate.{of_five, one, is_before, rank}

-- ---- a test as a number

pub one_small : (t : Bool) → one t ≤ 1
one_small true = omega arith
one_small false = omega arith

pub one_lt : (a b : ℕ) → one (ltb a b) ≡ min 1 (b - a)
one_lt a b = by_test (ltb a b) (λ t. one t ≡ min 1 (b - a)) (λ e. omega (arith, ltb-true a b e)) (λ e. omega (arith, ltb-false a b e))

one_next : (a n : ℕ) → one (ltb a (suc n)) ≡ one (ltb a n) + one (eqb a n)
one_next a n =
    by_test (eqb a n)
    (λ t. one (ltb a (suc n)) ≡ one (ltb a n) + one t)
    (λ e. omega (arith, one_lt a (suc n), one_lt a n, eqb-true a n e))
    (λ e. let differ : a ≢ n = eqb-false a n e in omega (arith, one_lt a (suc n), one_lt a n))

one_apart : (a b n : ℕ) → (a ≡ b → ⊥) → one (eqb a n) + one (eqb b n) ≤ 1
one_apart a b n h =
    by_test (eqb a n)
    (λ t. one t + one (eqb b n) ≤ 1)
    (λ e. omega (arith, ap one (ne_eqb b n (λ q. h (eqb-true a n e ∙ sym q)))))
    (λ e. omega (arith, one_small (eqb b n)))

-- a test of three, taken apart and put together
halves : (a b c : Bool) → (a || (b && c)) ≡ true → (a ≡ true) ⊎ ((b ≡ true) × (c ≡ true))
halves true b c e = inl refl
halves false true true e = inr (refl, refl)
halves false true false e = impossible cc
halves false false c e = impossible cc

-- ---- what holds at each of five, and sums of five

pub five : (P : ℕ → Type 0) → ((k : ℕ) → k < 5 → P k) → P 0 × P 1 × P 2 × P 3 × P 4
five P h = (h 0 (omega arith), h 1 (omega arith), h 2 (omega arith), h 3 (omega arith), h 4 (omega arith))

pub at_five : (P : ℕ → Type 0) → P 0 × P 1 × P 2 × P 3 × P 4 → (k : ℕ) → k < 5 → P k
at_five P h zero u = h.0
at_five P h (suc zero) u = h.1
at_five P h (suc (suc zero)) u = h.2
at_five P h (suc (suc (suc zero))) u = h.3
at_five P h (suc (suc (suc (suc zero)))) u = h.4
at_five P h (suc (suc (suc (suc (suc k))))) u = absurd (omega arith)

module _ (f g : ℕ → ℕ) where
  pub five_same : ((k : ℕ) → k < 5 → f k ≡ g k) → of_five f ≡ of_five g
  five_same h = omega (arith, five (λ k. f k ≡ g k) h)

  module _ (h : (k : ℕ) → k < 5 → f k ≤ g k) where
    pub five_le : of_five f ≤ of_five g
    five_le = omega (arith, five (λ k. f k ≤ g k) h)

    -- and by at least the gap at i
    pub five_gap : (i : ℕ) → i < 5 → of_five f + (g i - f i) ≤ of_five g
    five_gap = at_five (λ i. of_five f + (g i - f i) ≤ of_five g) (omega (arith, five (λ k. f k ≤ g k) h))

-- ---- five numbers of which no two are the same, each below 5: n of them are below n

three : (a b c : ℕ) → a + b ≤ 1 → a + c ≤ 1 → b + c ≤ 1 → a + b + c ≤ 1
three a b c x y z = omega arith

-- of five tests of which no two hold at once, at most one holds
lone : (f : ℕ → ℕ) → ((i j : ℕ) → i < j → j < 5 → f i + f j ≤ 1) → of_five f ≤ 1
lone f h = up_to 3 4 (omega arith) (omega arith)
  where
    first : ℕ → ℕ
    first zero = f 0
    first (suc n) = first n + f (suc n)

    up_to : (n k : ℕ) → n < k → k < 5 → first n + f k ≤ 1
    up_to zero k u v = h 0 k u v
    up_to (suc n) k u v =
        three (first n) (f (suc n)) (f k) (up_to n (suc n) (omega arith) (omega arith)) (up_to n k (omega arith) v) (h (suc n) k u v)

module _ (r : ℕ → ℕ) (apart : (i j : ℕ) → i < j → j < 5 → r i ≡ r j → ⊥) where
  below : ℕ → ℕ
  below n = of_five (λ j. one (ltb (r j) n))

  below_next : (n : ℕ) → below (suc n) ≤ below n + 1
  unfolding below
  below_next n =
      omega (
        arith,
        five (λ j. one (ltb (r j) (suc n)) ≡ one (ltb (r j) n) + one (eqb (r j) n)) (λ j u. one_next (r j) n),
        lone (λ j. one (eqb (r j) n)) (λ i j u v. one_apart (r i) (r j) n (apart i j u v)),
      )

  below_more : (n d : ℕ) → below (n + d) ≤ below n + d
  below_more n zero = rw (add-zero n) (omega arith)
  below_more n (suc d) = rw (add-suc n d) (omega (arith, below_next (n + d), below_more n d))

  pub below_all : ((j : ℕ) → j < 5 → r j < 5) → (n : ℕ) → n ≤ 5 → of_five (λ j. one (ltb (r j) n)) ≡ n
  unfolding below
  below_all small n u = omega (arith, rw zero-add at (below_more 0 n), rw whole at (below_more n (5 - n)), none, every)
    where
      whole : n + (5 - n) ≡ 5
      whole = omega arith

      none : below 0 ≡ 0
      none = five_same (λ j. one (ltb (r j) 0)) (λ j. 0) (λ j v. omega (arith, one_lt (r j) 0))

      every : below 5 ≡ 5
      every = five_same (λ j. one (ltb (r j) 5)) (λ j. 1) (λ j v. omega (arith, one_lt (r j) 5, small j v))

-- ---- the larger number, or the same and earlier

pub before_when : (a b i j : ℕ) → ((ltb b a || (eqb a b && ltb i j)) ≡ true) ↔ ((b < a) ⊎ ((a ≡ b) × (i < j)))
before_when a b i j = (λ e. told (halves (ltb b a) (eqb a b) (ltb i j) e), holds)
  where
    told : (ltb b a ≡ true) ⊎ ((eqb a b ≡ true) × (ltb i j ≡ true)) → (b < a) ⊎ ((a ≡ b) × (i < j))
    told (inl e) = inl (ltb-true b a e)
    told (inr e) = inr (eqb-true a b e.0, ltb-true i j e.1)

    holds : (b < a) ⊎ ((a ≡ b) × (i < j)) → (ltb b a || (eqb a b && ltb i j)) ≡ true
    holds (inl u) = rw (lt-ltb b a u)
    holds (inr e) = rw (eq-eqb a b e.0, lt-ltb i j e.1) (or-true (ltb b a))

-- ---- the ranks by remainder

module _ (rem : ℕ → ℕ) where
  -- i comes before j exactly if its remainder is the larger once each is counted five times, less the index
  one_before : (i j : ℕ) → i < 5 → j < 5 → one (is_before rem i j) ≡ min 1 (rem i * 5 + j - (rem j * 5 + i))
  one_before i j u v =
      by_test (ltb (rem j) (rem i))
      (λ t. one (t || (eqb (rem i) (rem j) && ltb i j)) ≡ min 1 (rem i * 5 + j - (rem j * 5 + i)))
      (λ e. omega (arith, ltb-true (rem j) (rem i) e))
      (λ e.
      by_test (eqb (rem i) (rem j))
      (λ t. one (t && ltb i j) ≡ min 1 (rem i * 5 + j - (rem j * 5 + i)))
      (λ q. omega (arith, eqb-true (rem i) (rem j) q, one_lt i j))
      (λ q. let differ : rem i ≢ rem j = eqb-false (rem i) (rem j) q in omega (arith, ltb-false (rem j) (rem i) e)))

  pub not_before : (i j : ℕ) → i < 5 → j < 5 → (is_before rem i j ≡ false) ↔ (rem i * 5 + j ≤ rem j * 5 + i)
  not_before i j u v =
      (λ e. omega (arith, one_before i j u v, ap one e), λ h. by_test (is_before rem i j) (λ t. t ≡ false) (λ e. absurd (omega (arith, one_before i j u v, ap one e))) (λ e. refl))

  rank_lt : (i j : ℕ) → i < 5 → j < 5 → rem j * 5 + i < rem i * 5 + j → rank rem i < rank rem j
  rank_lt i j u v h =
      omega (
        arith,
        five_gap
            (λ k. one (is_before rem k i))
            (λ k. one (is_before rem k j))
            (λ k w. omega (arith, one_before k i w u, one_before k j w v))
            i
            u,
        one_before i i u u,
        one_before i j u v,
      )

  pub before_lt : (i j : ℕ) → i < 5 → j < 5 → is_before rem i j ≡ true → rank rem i < rank rem j
  before_lt i j u v e = rank_lt i j u v (omega (arith, one_before i j u v, ap one e))

  rank_small : (j : ℕ) → j < 5 → rank rem j < 5
  rank_small j u =
      omega (
        arith,
        five_gap (λ k. one (is_before rem k j)) (λ k. 1) (λ k w. one_small (is_before rem k j)) j u,
        one_before j j u u,
      )

  rank_apart : (i j : ℕ) → i < j → j < 5 → rank rem i ≡ rank rem j → ⊥
  rank_apart i j u v e = go (dec_lt (rem j * 5 + i) (rem i * 5 + j))
    where
      go : Dec (rem j * 5 + i < rem i * 5 + j) → ⊥
      go (yes h) = omega (arith, rank_lt i j (omega arith) v h)
      go (no h) = omega (arith, rank_lt j i v (omega arith) (omega arith))

  pub ranks_below : (n : ℕ) → n ≤ 5 → of_five (λ j. one (ltb (rank rem j) n)) ≡ n
  ranks_below = below_all (rank rem) rank_apart rank_small
