-- The rounds in arrays: what each leaves of the shares and of who is served; and that they come to the shares.
use mathlib.Core.Path.{◌≡◌, refl, sym, ◌∙◌, ap}
use mathlib.Core.Bool.{Bool, true, false}
use mathlib.Core.List.{List}
use Prim.Native.Nat.{ℕ, ◌+◌, ◌-◌, ◌<◌, ◌≤◌}
use native.Mathlib.Nat.{add-zero}
use native.Mathlib.Omega.{arith}
use lib.Dec.{eqb}
use lib.ListN.{length, set}
use borrow.Author.Tests.{eqb-true}
use Rattle.std.specs.Prelude.{if◌then◌else◌}
use Rattle.exact.proofs.Parts.{by_test}
use Rattle.tariff.specs.Derate.{of_five, floor_of, remainder, left_over, one, share}
use Rattle.tariff.specs.Rounds.{is_largest, served_in}
use Rattle.tariff.proofs.Ranks.{five_same}
use Rattle.tariff.proofs.Shares.{left_small}
use Rattle.tariff.proofs.Rounds.{largest_waits, largest_same, served_next, served_as_many, rounds_are_ranks}
use Rattle.derate.specs.declared.cuts.Cut.{Cut}
use Rattle.derate.specs.Five.{cut, cut_five, cut_at, served_at}
use Rattle.derate.proofs.Fives.{five_of, fives_same, five_set, five_at, five_long}

-- a share after so many rounds
abbrev share_after : (rounded rem : List Cut) → ℕ → ℕ → ℕ
share_after rounded rem rounds j = cut_at rounded j + one (served_in (cut_at rem) rounds j)

-- the shares, and who is served, after so many rounds
pub record Handed (rounded rem shares : List Cut) (served : List Bool) (rounds : ℕ) : Type 0 where
  pub shared : shares ≡ cut_five (share_after rounded rem rounds)
  pub told : served ≡ five_of (served_in (cut_at rem) rounds)

pub handed_none : (rounded rem : List Cut) → length rounded ≡ 5 → Handed rounded rem rounded (five_of (λ j. false)) 0
unfolding served_in
handed_none rounded rem long =
    record {
      shared = five_long (cut 0) rounded long ∙ fives_same _ _ (λ j u. ap cut (sym (add-zero (cut_at rounded j))));
      told = refl;
    }

module _ {rounded rem shares : List Cut} {served : List Bool} {rounds : ℕ} (o : Handed rounded rem shares served rounds) where
  as_told : (j : ℕ) → j < 5 → served_at served j ≡ served_in (cut_at rem) rounds j
  as_told j u = grind (arith, five_at)

  -- one of five is left for a round more
  pub handed_waits : rounds ≤ 4 → of_five (λ j. one (served_at served j)) < 5
  handed_waits few =
      omega (
        arith,
        five_same (λ j. one (served_at served j)) (λ j. one (served_in (cut_at rem) rounds j)) (λ j u. ap one (as_told j u)),
        served_as_many (cut_at rem) rounds (omega arith),
      )

  module _ (next : ℕ) (u : next < 5) (h : is_largest (cut_at rem) (served_at served) next ≡ true) where
    largest : is_largest (cut_at rem) (served_in (cut_at rem) rounds) next ≡ true
    largest = sym (largest_same (cut_at rem) (served_at served) (served_in (cut_at rem) rounds) as_told next u) ∙ h

    -- who is served next has what the rounding gave it
    next_share : cut_at shares next ≡ cut_at rounded next
    next_share = grind (arith, five_at, largest_waits, largest)

    pub handed_more : {c : Cut} → c.0 ≡ cut_at shares next + 1 → Handed rounded rem (set shares next c) (set served next true) (rounds + 1)
    handed_more {c} e =
        record {
          shared =
              rw o.shared (five_set (λ j. cut (share_after rounded rem rounds j)) c next u)
              ∙ fives_same _ _ (λ j v. at j v);
          told =
              rw o.told (five_set (served_in (cut_at rem) rounds) true next u)
              ∙ fives_same _ _ (λ j v. sym (served_next (cut_at rem) rounds next u largest j v));
        }
      where
        at : (j : ℕ) → j < 5 → (if eqb j next then c else cut (share_after rounded rem rounds j)) ≡ cut (share_after rounded rem (rounds + 1) j)
        at j v =
            by_test (eqb j next)
            (λ t. (if t then c else cut (share_after rounded rem rounds j)) ≡ cut (cut_at rounded j + one (if t then true else served_in (cut_at rem) rounds j)))
            (λ q. ap cut (e ∙ omega (arith, next_share, ap (cut_at rounded) (eqb-true j next q))))
            (λ q. refl)
            ∙ ap (λ t. cut (cut_at rounded j + one t)) (sym (served_next (cut_at rem) rounds next u largest j v))

-- ---- as many rounds as kilowatts are left over

module _ (pot : ℕ → ℕ) (red : ℕ) (fits : red ≤ of_five pot) {rounded : List Cut} {sum left : ℕ}
    (e : rounded ≡ cut_five (floor_of pot red)) (g : sum ≡ of_five (cut_at rounded)) (h : left ≡ red - sum) where
  left_is : left ≡ left_over pot red
  unfolding left_over
  left_is = rw (h, g, e)

  pub left_few : left ≤ 4
  left_few = rw left_is (left_small pot red fits)

  pub shares_are : {rem l : List Cut}
      → rem ≡ cut_five (remainder pot red)
      → l ≡ cut_five (share_after rounded rem left)
      → l ≡ cut_five (share pot red)
  unfolding share
  shares_are {rem} f q = grind (arith, fives_same, rounds_are_ranks, left_few, left_is)
