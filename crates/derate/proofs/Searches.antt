-- The search for the largest remainder not yet served, place by place.
use mathlib.Core.Path.{◌≡◌, refl, sym, ◌∙◌, ap}
use mathlib.Core.Bool.{Bool, true, false, not, ◌&&◌, ◌||◌}
use Prim.Native.Nat.{ℕ, ◌+◌, ◌*◌, ◌<◌, ◌≤◌}
use native.Mathlib.Omega.{arith}
use lib.Dec.{ltb}
use borrow.Author.Count.{below_more}
use borrow.Author.Tests.{ltb-true, ltb-false, not-true}
use Rattle.exact.proofs.Parts.{by_test}
use Rattle.exact.proofs.Tests.{and_left, and_right, neither}
use Rattle.tariff.specs.Derate.{of_five, one}
use Rattle.tariff.specs.Rounds.{is_largest}
use Rattle.tariff.proofs.Ranks.{five_same, not_before}
use Rattle.tariff.proofs.Rounds.{yields, is_largest_lem}

module _ (rem : ℕ → ℕ) (served : ℕ → Bool) where
  -- of the places before j: if any is not served, the one found is not, and none that is not comes before it. Each remainder counts five times,
  -- less its place, as in Ranks of tariff
  pub record Leads (found j : ℕ) : Type 0 where
    pub few : j ≤ 5
    pub among : found < j
    pub waits : (k : ℕ) → k < j → served k ≡ false → served found ≡ false
    pub leads : (k : ℕ) → k < j → served k ≡ false → rem k * 5 + found ≤ rem found * 5 + k

  -- schedule j is not served, and the one found is, or has a smaller remainder
  abbrev overtakes : ℕ → ℕ → Bool
  overtakes found j = not (served j) && (served found || ltb (rem found) (rem j))

  pub leads_one : Leads 0 1
  leads_one = record { few = omega arith; among = omega arith; waits = λ k u e. ap served (own k u) ∙ e; leads = λ k u e. omega (arith, ap rem (own k u)) }
    where
      own : (k : ℕ) → k < 1 → 0 ≡ k
      own k u = omega arith

  module _ {found j : ℕ} (o : Leads found j) (u : j < 5) where
    pub leads_over : overtakes found j ≡ true → Leads j (j + 1)
    leads_over e =
        record {
          few = omega arith;
          among = omega arith;
          waits = λ k v w. here;
          leads = below_more (λ k. served k ≡ false → rem k * 5 + j ≤ rem j * 5 + k) j earlier (λ w. omega arith);
        }
      where
        here : served j ≡ false
        here = not-true (served j) (and_left (not (served j)) (served found || ltb (rem found) (rem j)) e)

        earlier : (k : ℕ) → k < j → served k ≡ false → rem k * 5 + j ≤ rem j * 5 + k
        earlier k v w =
            let less : ltb (rem found) (rem j) ≡ true = ap (λ t. t || ltb (rem found) (rem j)) (sym (o.waits k v w)) ∙ and_right (not (served j)) (served found || ltb (rem found) (rem j)) e in
            omega (arith, ltb-true (rem found) (rem j) less, o.leads k v w, o.among)

    pub leads_still : overtakes found j ≡ false → Leads found (j + 1)
    leads_still e =
        record {
          few = omega arith;
          among = omega (arith, o.among);
          waits = below_more (λ k. served k ≡ false → served found ≡ false) j o.waits (λ w. (none w).0);
          leads = below_more (λ k. served k ≡ false → rem k * 5 + found ≤ rem found * 5 + k) j o.leads (λ w. omega (arith, o.among, ltb-false (rem found) (rem j) (none w).1));
        }
      where
        none : served j ≡ false → (served found ≡ false) × (ltb (rem found) (rem j) ≡ false)
        none w = neither (served found) (ltb (rem found) (rem j)) (ap (λ t. not t && (served found || ltb (rem found) (rem j))) (sym w) ∙ e)

  -- past all five, and with one of them not served
  pub leads_all : {found j : ℕ} → Leads found j → 5 ≤ j → of_five (λ k. one (served k)) < 5 → (found < 5) × (is_largest rem served found ≡ true)
  leads_all {found} {j} o u some = (inside, is_largest_lem rem served found (by_test (served found) (λ t. t ≡ false) (λ e. absurd (all e)) (λ e. refl)) first)
    where
      inside : found < 5
      inside = omega (arith, o.few, o.among)

      all : served found ≡ true → ⊥
      all e = omega (arith, five_same (λ k. one (served k)) (λ k. 1) (λ k v. ap one (by_test (served k) (λ t. t ≡ true) (λ w. refl) (λ w. sym (o.waits k (omega arith) w) ∙ e))))

      first : (i : ℕ) → i < 5 → yields rem served found i ≡ true
      first i v = grind (arith, not_before, inside)
