-- Rounds and ranks agree: after n rounds those are served that have fewer than n before them.
use mathlib.Core.Path.{◌≡◌, refl, sym, ◌∙◌, ap}
use mathlib.Core.Logic.{◌≢◌}
use mathlib.Core.Bool.{Bool, true, false, not, ◌&&◌, ◌||◌, or-true, or-false}
use Prim.Native.Nat.{ℕ, zero, suc, ◌+◌, ◌<◌, ◌≤◌}
use native.Mathlib.Numerals.{add-one}
use native.Mathlib.Omega.{arith}
use lib.Dec.{ltb, eqb}
use borrow.Author.Tests.{ltb-true, ltb-false, lt-ltb, le-ltb, eqb-true, eqb-false, not-true}
use Rattle.std.specs.Prelude.{if◌then◌else◌}
use Rattle.exact.proofs.Apart.{impossible}
use Rattle.exact.proofs.Parts.{by_test}
use Rattle.tariff.specs.Sheet.{all_to}
use Rattle.tariff.specs.Derate.{of_five, floor_of, remainder, left_over, one, is_before, rank, share}
use Rattle.tariff.specs.Rounds.{is_largest, served_in}
use Rattle.tariff.proofs.Tests.{and_left, and_right, and_both, all_same, all_at, all_of}
use Rattle.tariff.proofs.Ranks.{five_same, five_le, not_before, before_lt, ranks_below}
use Rattle.tariff.proofs.Shares.{left_small}

-- ---- tests

-- below n, or n itself
below_or_at : (a n : ℕ) → (ltb a n || eqb a n) ≡ ltb a (suc n)
below_or_at a n =
    by_test (ltb a n)
    (λ t. (t || eqb a n) ≡ ltb a (suc n))
    (λ e. sym (lt-ltb a (suc n) (omega (arith, ltb-true a n e))))
    (λ e.
    by_test (eqb a n)
    (λ t. t ≡ ltb a (suc n))
    (λ q. sym (lt-ltb a (suc n) (omega (arith, eqb-true a n q))))
    (λ q. let differ : a ≢ n = eqb-false a n q in sym (le-ltb a (suc n) (omega (arith, ltb-false a n e)))))

-- where b holds or a does not, a counts for no more than b
one_if : (a b : Bool) → (b || not a) ≡ true → one a ≤ one b
one_if true true e = omega arith
one_if true false e = impossible cc
one_if false b e = omega arith

module _ (rem : ℕ → ℕ) where
  -- ---- the largest remainder not yet served

  -- schedule i is served, or does not come before schedule j
  abbrev pub yields : (ℕ → Bool) → ℕ → ℕ → Bool
  yields served j i = served i || not (is_before rem i j)

  pub is_largest_lem : (served : ℕ → Bool) (j : ℕ) → served j ≡ false → ((i : ℕ) → i < 5 → yields served j i ≡ true) → is_largest rem served j ≡ true
  is_largest_lem served j e h = and_both (not (served j)) (all_to (yields served j) 5) (ap not e) (all_of (yields served j) 5 h)

  module _ (served : ℕ → Bool) (j : ℕ) (h : is_largest rem served j ≡ true) where
    pub largest_waits : served j ≡ false
    largest_waits = not-true (served j) (and_left (not (served j)) (all_to (yields served j) 5) h)

    others_yield : (i : ℕ) → i < 5 → yields served j i ≡ true
    others_yield i u = all_at (yields served j) 5 i (and_right (not (served j)) (all_to (yields served j) 5) h) u

  -- there is one at most: of two that are not served neither would come before the other
  largest_alone : (served : ℕ → Bool) (i j : ℕ) → i < 5 → j < 5 → is_largest rem served i ≡ true → is_largest rem served j ≡ true → i ≡ j
  largest_alone served i j u v h g = omega (arith, (not_before rem i j u v).0 (not_ahead i j h g u), (not_before rem j i v u).0 (not_ahead j i g h v))
    where
      not_ahead : (a b : ℕ) → is_largest rem served a ≡ true → is_largest rem served b ≡ true → a < 5 → is_before rem a b ≡ false
      not_ahead a b h g w =
          not-true (is_before rem a b) (ap (λ t. t || not (is_before rem a b)) (sym (largest_waits served a h)) ∙ others_yield served b g a w)

  -- it asks of the five alone who is served
  pub largest_same : (served told : ℕ → Bool) → ((i : ℕ) → i < 5 → served i ≡ told i) → (j : ℕ) → j < 5 → is_largest rem served j ≡ is_largest rem told j
  largest_same served told e j u =
      λ i. not (e j u i) && all_same (yields served j) (yields told j) 5 (λ k v. ap (λ t. t || not (is_before rem k j)) (e k v)) i

  -- a round serves it, and nobody else
  pub served_next : (n next : ℕ) → next < 5 → is_largest rem (served_in rem n) next ≡ true → (j : ℕ) → j < 5 → served_in rem (n + 1) j ≡ (if eqb j next then true else served_in rem n j)
  unfolding served_in
  served_next n next u h j v =
      rw add-one
      (by_test (eqb j next)
      (λ t. (served_in rem n j || is_largest rem (served_in rem n) j) ≡ (if t then true else served_in rem n j))
      (λ e. ap (λ t. served_in rem n j || t) (ap (is_largest rem (served_in rem n)) (eqb-true j next e) ∙ h) ∙ or-true (served_in rem n j))
      (λ e. ap (λ t. served_in rem n j || t) (not_largest (eqb-false j next e)) ∙ or-false (served_in rem n j)))
    where
      not_largest : (j ≡ next → ⊥) → is_largest rem (served_in rem n) j ≡ false
      not_largest differ = by_test (is_largest rem (served_in rem n) j) (λ t. t ≡ false) (λ g. absurd (differ (largest_alone (served_in rem n) j next v u g h))) (λ g. refl)

  -- ---- rounds and ranks

  -- where those are served that have fewer than n before them, the largest remainder has n
  module _ (n : ℕ) (few : n ≤ 5) (served : ℕ → Bool) (first : (i : ℕ) → i < 5 → served i ≡ ltb (rank rem i) n) where
    largest_rank : (j : ℕ) → j < 5 → is_largest rem served j ≡ eqb (rank rem j) n
    largest_rank j v =
        by_test (eqb (rank rem j) n)
        (λ t. is_largest rem served j ≡ t)
        (λ e. is_largest_lem served j (first j v ∙ le-ltb (rank rem j) n (omega (arith, eqb-true (rank rem j) n e))) (behind (eqb-true (rank rem j) n e)))
        (λ e. by_test (is_largest rem served j) (λ t. t ≡ false) (λ h. absurd (eqb-false (rank rem j) n e (at h))) (λ h. refl))
      where
        behind : rank rem j ≡ n → (i : ℕ) → i < 5 → yields served j i ≡ true
        behind e i u =
            by_test (is_before rem i j)
            (λ t. (served i || not t) ≡ true)
            (λ b. rw (first i u ∙ lt-ltb (rank rem i) n (omega (arith, before_lt rem i j u v b))))
            (λ b. or-true (served i))

        at : is_largest rem served j ≡ true → rank rem j ≡ n
        at h =
            omega (
              arith,
              ltb-false (rank rem j) n (sym (first j v) ∙ largest_waits served j h),
              five_le
                  (λ i. one (is_before rem i j))
                  (λ i. one (ltb (rank rem i) n))
                  (λ i u. one_if (is_before rem i j) (ltb (rank rem i) n) (ap (λ t. t || not (is_before rem i j)) (sym (first i u)) ∙ others_yield served j h i u)),
              ranks_below rem n few,
            )

  pub rounds_are_ranks : (n j : ℕ) → n ≤ 5 → j < 5 → served_in rem n j ≡ ltb (rank rem j) n
  unfolding served_in
  rounds_are_ranks zero j few u = sym (le-ltb (rank rem j) 0 (omega arith))
  rounds_are_ranks (suc n) j few u =
      let so : (i : ℕ) → i < 5 → served_in rem n i ≡ ltb (rank rem i) n = λ i v. rounds_are_ranks n i (omega arith) v in
      (λ i. so j u i || largest_rank n (omega arith) (served_in rem n) so j u i) ∙ below_or_at (rank rem j) n

  -- each round serves one more
  pub served_as_many : (n : ℕ) → n ≤ 5 → of_five (λ j. one (served_in rem n j)) ≡ n
  served_as_many n few =
      five_same (λ j. one (served_in rem n j)) (λ j. one (ltb (rank rem j) n)) (λ j u. ap one (rounds_are_ranks n j few u)) ∙ ranks_below rem n few

-- one kilowatt more for whoever is served in as many rounds as are left over
pub share_in_rounds : (pot : ℕ → ℕ) (red j : ℕ) → red ≤ of_five pot → j < 5 → share pot red j ≡ floor_of pot red j + one (served_in (remainder pot red) (left_over pot red) j)
unfolding share
share_in_rounds pot red j fits u =
    ap (λ t. floor_of pot red j + one t) (sym (rounds_are_ranks (remainder pot red) (left_over pot red) j (omega (arith, left_small pot red fits)) u))
