-- The kilowatts that an interval of an internal controllable line must price: what it comes to reads their prices alone, and it stops, for
-- REACH, exactly when one has none. And two of its hours alike in all but their curves.
use mathlib.Core.Path.{◌≡◌, refl, sym, ◌∙◌, ap}
use mathlib.Core.Bool.{Bool, true, false}
use mathlib.Core.Logic.{◌↔◌}
use Prim.Native.Nat.{ℕ, ◌<◌}
use native.Mathlib.Omega.{arith}
use lib.IntN.{ℤ, pos}
use Rattle.std.specs.Prelude.{if◌then◌else◌}
use Rattle.exact.proofs.Apart.{impossible}
use Rattle.tariff.specs.declared.Curve.{Curve}
use Rattle.tariff.specs.declared.IclHour.{IclHour}
use Rattle.tariff.specs.declared.IclInterval.{IclInterval}
use Rattle.tariff.specs.Curve.{Amount, known, none}
use Rattle.tariff.specs.Reply.{REACH, clear}
use Rattle.tariff.specs.Outcome.{Outcome, gives, stops, or_reach}
use Rattle.tariff.specs.Controllable.{icl_interval, icl_is_lower, icl_lower_grains, icl_upper_grains, icl_energy, icl_outcome_at, icl_intervals}
use Rattle.tariff.specs.Demand.{Extends}
use Rattle.tariff.specs.ControllableDemand.{IclMustPrice, icl_price_in, IclUnpriced, IclFirstUnpriced, IclSomeUnpriced, IclAlike}
use Rattle.tariff.proofs.Branches.{energy_same, energy_none, none_energy, branch_extended}
use Rattle.tariff.proofs.Stops.{none_stopped, FirstStopped, StoppedFor}

-- ---- an outcome, by its tests

abbrev staged : (is_excluded : Bool) → Amount → Outcome
staged x e = if x then gives (pos 0) else or_reach e

staged_same : (x : Bool) (e f : Amount) → (x ≡ false → e ≡ f) → staged x e ≡ staged x f
staged_same true e f h = refl
staged_same false e f h = rw (h refl)

staged_stops : (x : Bool) (e : Amount) (number : ℕ) → staged x e ≡ stops number → (number ≡ REACH) × (x ≡ false) × (e ≡ none)
staged_stops true e number q = impossible cc
staged_stops false (known e) number q = impossible cc
staged_stops false none number q = (cc, refl, refl)

-- ---- the outcome of interval i

-- an hour with other curves
abbrev icl_with_curves : IclHour → (da rt : Curve) → IclHour
icl_with_curves h da rt = record { hour = h.hour; dasi = h.dasi; dasw = h.dasw; da = da; rt = rt; n = h.n; iv = h.iv }

module _ (h : IclHour) (is_excluded : Bool) (i : ℕ) where
  abbrev own : IclInterval
  own = icl_interval h i

  abbrev lower : Bool
  lower = icl_is_lower h.dasi own

  abbrev below : ℤ → ℤ
  below = icl_lower_grains h.dasi h.dasw own

  abbrev above : ℤ → ℤ
  above = icl_upper_grains h.dasi h.dasw own

  outcome_same : (da rt : Curve) → i < h.n → ((k : ℤ) → IclMustPrice h is_excluded i k → icl_price_in h i k ≡ icl_price_in (icl_with_curves h da rt) i k)
      → icl_outcome_at h is_excluded i ≡ icl_outcome_at (icl_with_curves h da rt) is_excluded i
  unfolding icl_outcome_at icl_energy
  outcome_same da rt u same =
      staged_same is_excluded _ _
      (λ x. energy_same h.dasi.0 own.aei.0 below above h.da h.rt lower da rt
      (λ k w. same k (record { counted = u; eligible = x; needed = w })))

  -- an interval is stopped by REACH alone
  pub icl_stops_are : (number : ℕ) → icl_outcome_at h is_excluded i ≡ stops number → number ≡ REACH
  unfolding icl_outcome_at
  icl_stops_are number e = (staged_stops is_excluded (icl_energy h own) number e).0

  pub icl_unpriced_unreached : IclUnpriced h is_excluded i → icl_outcome_at h is_excluded i ≡ stops REACH
  unfolding icl_outcome_at icl_energy
  icl_unpriced_unreached w =
      let m = w.needed in
      let e =
      energy_none h.dasi.0 own.aei.0 below above h.da h.rt lower
      (record { kilowatt = w.kilowatt; needed = m.needed; missing = w.missing })
      in
      rw (m.eligible, e)

  pub icl_unreached_unpriced : i < h.n → icl_outcome_at h is_excluded i ≡ stops REACH → IclUnpriced h is_excluded i
  unfolding icl_outcome_at icl_energy
  icl_unreached_unpriced u e =
      let s = staged_stops is_excluded (icl_energy h own) REACH e in
      let m = none_energy h.dasi.0 own.aei.0 below above h.da h.rt lower s.2 in
      record { kilowatt = m.kilowatt; needed = record { counted = u; eligible = s.1; needed = m.needed }; missing = m.missing }

-- ---- the first that is stopped

module _ (h : IclHour) (is_excluded : Bool) where
  pub icl_first_unpriced : (i : ℕ) → FirstStopped (icl_outcome_at h is_excluded) h.n REACH i ↔ IclFirstUnpriced h is_excluded i
  icl_first_unpriced i = (
    λ f.
        record {
          here = icl_unreached_unpriced h is_excluded i f.counted f.here;
          first = λ j u w. f.first j u REACH (icl_unpriced_unreached h is_excluded j w);
        },
    λ w.
        let u = w.here.needed.counted in
        record {
          counted = u;
          here = icl_unpriced_unreached h is_excluded i w.here;
          first = λ j v number e.
              w.first j v (icl_unreached_unpriced h is_excluded j (omega arith) (e ∙ ap stops (icl_stops_are h is_excluded j number e)));
        },
  )

  pub icl_some_unpriced : StoppedFor (icl_outcome_at h is_excluded) h.n REACH ↔ IclSomeUnpriced h is_excluded
  icl_some_unpriced = (
    λ s. (s.at, icl_unreached_unpriced h is_excluded s.at s.counted s.here),
    λ w.
        record {
          at = w.0;
          counted = w.1.needed.counted;
          here = icl_unpriced_unreached h is_excluded w.0 w.1;
          no_other = λ j v number e. icl_stops_are h is_excluded j number e;
        },
  )

-- ---- two hours alike in all but their curves

module _ (h g : IclHour) (alike : IclAlike h g) where
  -- h with the curves of g is g
  pub icl_path : icl_with_curves h g.da g.rt ≡ g
  icl_path =
      λ i. record { hour = alike.hour i; dasi = alike.dasi i; dasw = alike.dasw i; da = g.da; rt = g.rt; n = alike.n i; iv = alike.iv i }

  pub icl_alike_outcome : (is_excluded : Bool) (i : ℕ) → i < h.n → ((k : ℤ) → IclMustPrice h is_excluded i k → icl_price_in h i k ≡ icl_price_in g i k)
      → icl_outcome_at h is_excluded i ≡ icl_outcome_at g is_excluded i
  icl_alike_outcome is_excluded i u prices =
      outcome_same h is_excluded i g.da g.rt u (λ k m. prices k m ∙ ap (λ (x : IclHour). icl_price_in x i k) (sym icl_path))
      ∙ ap (λ (x : IclHour). icl_outcome_at x is_excluded i) icl_path

  -- curves with every price that h has, where no interval of h is stopped
  pub icl_extended_price : (is_excluded : Bool) → Extends h.da g.da → Extends h.rt g.rt → icl_intervals h is_excluded ≡ clear
      → (i : ℕ) (k : ℤ) → IclMustPrice h is_excluded i k → icl_price_in h i k ≡ icl_price_in g i k
  icl_extended_price is_excluded d r e i k m = go (icl_price_in h i k) refl ∙ ap (λ (x : IclHour). icl_price_in x i k) icl_path
    where
      go : (x : Amount) → icl_price_in h i k ≡ x → icl_price_in h i k ≡ icl_price_in (icl_with_curves h g.da g.rt) i k
      go (known p) q = q ∙ sym (branch_extended d r (icl_is_lower h.dasi (icl_interval h i)) k p q)
      go none q =
          absurd
          ((none_stopped (icl_outcome_at h is_excluded) h.n).0 e i m.counted REACH
          (icl_unpriced_unreached h is_excluded i (record { kilowatt = k; needed = m; missing = q })))
