-- A generator's intervals are stopped for POINT, for DERATE or for REACH: which of them is the first, in the words of the demands.
use mathlib.Core.Path.{◌≡◌, ◌∙◌, ap}
use mathlib.Core.Bool.{Bool}
use mathlib.Core.Logic.{◌↔◌, ◌⊎◌, inl, inr, ⊎_elim}
use Prim.Native.Nat.{ℕ, ◌<◌}
use native.Mathlib.Omega.{arith}
use Rattle.tariff.specs.declared.Hour.{Hour}
use Rattle.tariff.specs.Reply.{DERATE, REACH, POINT}
use Rattle.tariff.specs.Hour.{outcome_at}
use Rattle.tariff.specs.Outcome.{Outcome, stops}
use Rattle.tariff.specs.Demand.{FirstOf, SomeOf, FirstUnpriced, SomeUnpriced, FirstExceeded, SomeExceeded, FirstPointless, SomePointless}
use Rattle.tariff.proofs.Needed.{Cause, stops_are, pointless, derated, unreached}
use Rattle.tariff.proofs.Stops.{FirstStopped, StoppedFor}

module _ (h : Hour) (is_excluded : Bool) where
  abbrev outcomes : ℕ → Outcome
  outcomes = outcome_at h is_excluded

  -- of three checks with their numbers, those that can stop an interval
  module _ (a b c : ℕ) (This Second Third : ℕ → Type 0)
      (this : (i : ℕ) → Cause h is_excluded a This i)
      (second : (i : ℕ) → Cause h is_excluded b Second i)
      (third : (i : ℕ) → Cause h is_excluded c Third i)
      (only : (i number : ℕ) → outcomes i ≡ stops number → (number ≡ a) ⊎ ((number ≡ b) ⊎ (number ≡ c))) where
    -- what stops an interval that neither of two refuses is the other
    left : (j : ℕ) → j < h.n → (Second j → ⊥) → (Third j → ⊥) → (number : ℕ) → outcomes j ≡ stops number → number ≡ a
    left j u noSecond noThird number e =
        ⊎_elim
        (λ q. q)
        (λ w.
        ⊎_elim
        (λ q. absurd (noSecond ((second j).means u (e ∙ ap stops q))))
        (λ q. absurd (noThird ((third j).means u (e ∙ ap stops q))))
        w)
        (only j number e)

    first_of : (i : ℕ) → FirstStopped outcomes h.n a i ↔ FirstOf This Second Third i
    first_of i = (
      λ f.
          record {
            here = (this i).means f.counted f.here;
            first = λ j u w. f.first j u a ((this j).stopped w);
            no_second_before = λ j u w. f.first j u b ((second j).stopped w);
            no_third_before = λ j u w. f.first j u c ((third j).stopped w);
          },
      λ w.
          let u = (this i).counted w.here in
          record {
            counted = u;
            here = (this i).stopped w.here;
            first = λ j v number e.
                let q = left j (omega arith) (w.no_second_before j v) (w.no_third_before j v) number e in
                w.first j v ((this j).means (omega arith) (e ∙ ap stops q));
          },
    )

    module _ (b≢a : b ≡ a → ⊥) (c≢a : c ≡ a → ⊥) where
      some_of : StoppedFor outcomes h.n a ↔ SomeOf This Second Third
      some_of = (
        λ s.
            record {
              at = s.at;
              here = (this s.at).means s.counted s.here;
              no_second_before = λ j u w. b≢a (s.no_other j u b ((second j).stopped w));
              no_third_before = λ j u w. c≢a (s.no_other j u c ((third j).stopped w));
            },
        λ w.
            let u = (this w.at).counted w.here in
            record {
              at = w.at;
              counted = u;
              here = (this w.at).stopped w.here;
              no_other = λ j v number e. left j (omega arith) (w.no_second_before j v) (w.no_third_before j v) number e;
            },
      )

  -- ---- each of them

  reach_first : (i number : ℕ) → outcomes i ≡ stops number → (number ≡ REACH) ⊎ ((number ≡ DERATE) ⊎ (number ≡ POINT))
  reach_first i number e = ⊎_elim (λ q. inr (inr q)) (λ w. ⊎_elim (λ q. inr (inl q)) (λ q. inl q) w) (stops_are h is_excluded i number e)

  derate_first : (i number : ℕ) → outcomes i ≡ stops number → (number ≡ DERATE) ⊎ ((number ≡ REACH) ⊎ (number ≡ POINT))
  derate_first i number e = ⊎_elim (λ q. inr (inr q)) (λ w. ⊎_elim (λ q. inl q) (λ q. inr (inl q)) w) (stops_are h is_excluded i number e)

  point_first : (i number : ℕ) → outcomes i ≡ stops number → (number ≡ POINT) ⊎ ((number ≡ REACH) ⊎ (number ≡ DERATE))
  point_first i number e = ⊎_elim (λ q. inl q) (λ w. ⊎_elim (λ q. inr (inr q)) (λ q. inr (inl q)) w) (stops_are h is_excluded i number e)

  pub first_unpriced : (i : ℕ) → FirstStopped outcomes h.n REACH i ↔ FirstUnpriced h is_excluded i
  first_unpriced = first_of REACH DERATE POINT _ _ _ (unreached h is_excluded) (derated h is_excluded) (pointless h is_excluded) reach_first

  pub some_unpriced : StoppedFor outcomes h.n REACH ↔ SomeUnpriced h is_excluded
  some_unpriced = some_of REACH DERATE POINT _ _ _ (unreached h is_excluded) (derated h is_excluded) (pointless h is_excluded) reach_first (λ e. omega arith) (λ e. omega arith)

  pub first_exceeded : (i : ℕ) → FirstStopped outcomes h.n DERATE i ↔ FirstExceeded h is_excluded i
  first_exceeded = first_of DERATE REACH POINT _ _ _ (derated h is_excluded) (unreached h is_excluded) (pointless h is_excluded) derate_first

  pub some_exceeded : StoppedFor outcomes h.n DERATE ↔ SomeExceeded h is_excluded
  some_exceeded = some_of DERATE REACH POINT _ _ _ (derated h is_excluded) (unreached h is_excluded) (pointless h is_excluded) derate_first (λ e. omega arith) (λ e. omega arith)

  pub first_pointless : (i : ℕ) → FirstStopped outcomes h.n POINT i ↔ FirstPointless h is_excluded i
  first_pointless = first_of POINT REACH DERATE _ _ _ (pointless h is_excluded) (unreached h is_excluded) (derated h is_excluded) point_first

  pub some_pointless : StoppedFor outcomes h.n POINT ↔ SomePointless h is_excluded
  some_pointless = some_of POINT REACH DERATE _ _ _ (pointless h is_excluded) (unreached h is_excluded) (derated h is_excluded) point_first (λ e. omega arith) (λ e. omega arith)
