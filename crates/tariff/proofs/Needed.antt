-- Laws of what a generator's interval asks of the curves: its outcome reads its operating point, where it must find one, and the prices of the
-- kilowatts that it must price, and is stopped for POINT, DERATE and REACH each exactly when the demands' words say.
use Rattle.tariff.specs.Units.{MaybeKw}
use mathlib.Core.Path.{◌≡◌, refl}
use mathlib.Core.Bool.{Bool, true, false}
use mathlib.Core.Logic.{◌⊎◌, inl, inr}
use Prim.Native.Nat.{ℕ, ◌<◌}
use lib.IntN.{ℤ, pos}
use Rattle.std.specs.Prelude.{if◌then◌else◌, None, Some}
use Rattle.exact.proofs.Apart.{impossible}
use Rattle.tariff.specs.declared.Curve.{Curve}
use Rattle.tariff.specs.declared.Interval.{Interval}
use Rattle.tariff.specs.declared.Hour.{Hour}
use Rattle.tariff.specs.Curve.{Amount, known, none}
use Rattle.tariff.specs.Eligible.{lags}
use Rattle.tariff.specs.Derate.{exceeds_room, reduced}
use Rattle.tariff.specs.Point.{point_on, point_by, point_of}
use Rattle.tariff.specs.Contributions.{lower_grains, upper_grains, lower_in, limit_in, energy_of, other_than_energy}
use Rattle.tariff.specs.Reply.{DERATE, REACH, POINT}
use Rattle.tariff.specs.Hour.{interval, or_point, with_others, outcome, outcome_at}
use Rattle.tariff.specs.Outcome.{Outcome, gives, stops}
use Rattle.tariff.specs.Demand.{MustFind, MustPrice, price_in, PointRefused, DerateRefused, Unpriced}
use Rattle.tariff.proofs.Points.{without_steps, needs_steps, not_given_lem}
use Rattle.tariff.proofs.Branches.{energy_same, energy_none, none_energy}

-- ---- an outcome, by its tests

abbrev staged : (is_excluded isLagging : Bool) → (point : Amount) → (is_refused : Bool) → ℤ → (ℤ → Amount) → Outcome
staged x l p d others e =
    if x then gives (pos 0) else (if l then gives (pos 0) else or_point p (λ E. if d then stops DERATE else with_others others (e E)))

staged_same : (x l : Bool) (p q : Amount) (d : Bool) (others : ℤ) (e f : ℤ → Amount) → (x ≡ false → l ≡ false → p ≡ q)
    → (x ≡ false → l ≡ false → (E : ℤ) → p ≡ known E → d ≡ false → e E ≡ f E)
    → staged x l p d others e ≡ staged x l q d others f
staged_same true l p q d others e f point h = refl
staged_same false true p q d others e f point h = refl
staged_same false false none q d others e f point h = rw (← point refl refl)
staged_same false false (known E) q true others e f point h = rw (← point refl refl)
staged_same false false (known E) q false others e f point h = rw (← point refl refl, h refl refl E refl refl)

staged_unreached : (x l : Bool) (p : Amount) (d : Bool) (others : ℤ) (e : ℤ → Amount) → staged x l p d others e ≡ stops REACH
    → (x ≡ false) × (l ≡ false) × (E : ℤ) × (p ≡ known E) × (d ≡ false) × (e E ≡ none)
staged_unreached true l p d others e q = impossible cc
staged_unreached false true p d others e q = impossible cc
staged_unreached false false none d others e q = impossible cc
staged_unreached false false (known E) true others e q = impossible cc
staged_unreached false false (known E) false others e q = (refl, refl, E, refl, refl, go (e E) q)
  where
    go : (a : Amount) → with_others others a ≡ stops REACH → a ≡ none
    go (known a) q = impossible cc
    go none q = refl

staged_derated : (x l : Bool) (p : Amount) (d : Bool) (others : ℤ) (e : ℤ → Amount) → staged x l p d others e ≡ stops DERATE
    → (x ≡ false) × (l ≡ false) × (E : ℤ) × (p ≡ known E) × (d ≡ true)
staged_derated true l p d others e q = impossible cc
staged_derated false true p d others e q = impossible cc
staged_derated false false none d others e q = impossible cc
staged_derated false false (known E) true others e q = (refl, refl, E, refl, refl)
staged_derated false false (known E) false others e q = absurd (go (e E) q)
  where
    go : (a : Amount) → with_others others a ≡ stops DERATE → ⊥
    go (known a) q = impossible cc
    go none q = impossible cc

staged_pointless : (x l : Bool) (p : Amount) (d : Bool) (others : ℤ) (e : ℤ → Amount) → staged x l p d others e ≡ stops POINT
    → (x ≡ false) × (l ≡ false) × (p ≡ none)
staged_pointless true l p d others e q = impossible cc
staged_pointless false true p d others e q = impossible cc
staged_pointless false false none d others e q = (refl, refl, refl)
staged_pointless false false (known E) true others e q = impossible cc
staged_pointless false false (known E) false others e q = absurd (go (e E) q)
  where
    go : (a : Amount) → with_others others a ≡ stops POINT → ⊥
    go (known a) q = impossible cc
    go none q = impossible cc

staged_stops : (x l : Bool) (p : Amount) (d : Bool) (others : ℤ) (e : ℤ → Amount) (number : ℕ) → staged x l p d others e ≡ stops number
    → (number ≡ POINT) ⊎ ((number ≡ DERATE) ⊎ (number ≡ REACH))
staged_stops true l p d others e number q = impossible cc
staged_stops false true p d others e number q = impossible cc
staged_stops false false none d others e number q = inl cc
staged_stops false false (known E) true others e number q = inr (inl cc)
staged_stops false false (known E) false others e number q = inr (inr (go (e E) q))
  where
    go : (a : Amount) → with_others others a ≡ stops number → number ≡ REACH
    go (known a) q = impossible cc
    go none q = cc

-- ---- the outcome of interval i

-- an hour with other curves
abbrev pub with_curves : Hour → (da rt : Curve) → Hour
with_curves h da rt = record { hour = h.hour; ahead = h.ahead; da = da; rt = rt; n = h.n; iv = h.iv }

-- interval i is stopped for this number exactly when P holds of it
pub record Cause (h : Hour) (is_excluded : Bool) (number : ℕ) (P : ℕ → Type 0) (i : ℕ) : Type 0 where
  pub counted : P i → i < h.n
  pub stopped : P i → outcome_at h is_excluded i ≡ stops number
  pub means : i < h.n → outcome_at h is_excluded i ≡ stops number → P i

module _ (h : Hour) (is_excluded : Bool) (i : ℕ) where
  -- its figures
  abbrev own : Interval
  own = interval h i

  abbrev D : ℤ
  D = reduced h.ahead own 0

  abbrev limit : ℤ → ℤ
  limit E = limit_in h.ahead own E

  abbrev lower : Bool
  lower = lower_in h.ahead own

  abbrev below : ℤ → ℤ → ℤ
  below E = lower_grains D (limit E) own.pen.0 own.s.0

  abbrev above : ℤ → ℤ → ℤ
  above E = upper_grains D (limit E) own.pen.0 own.s.0

  abbrev others : ℤ
  others = other_than_energy h.ahead own

  abbrev amount_by : (da rt : Curve) → ℤ → Amount
  amount_by da rt = energy_of da rt h.ahead own

  abbrev point : Amount
  point = point_of h.rt own

  abbrev exceeds : Bool
  exceeds = exceeds_room h.ahead own

  -- with other curves it comes to the same, where they have the point that it must find and the prices that it must price
  pub outcome_same : (da rt : Curve) → i < h.n
      → (MustFind h is_excluded i → point_on h.rt own.pen.0 ≡ point_on rt own.pen.0)
      → ((k : ℤ) → MustPrice h is_excluded i k → price_in h i k ≡ price_in (with_curves h da rt) i k)
      → outcome_at h is_excluded i ≡ outcome_at (with_curves h da rt) is_excluded i
  unfolding outcome_at outcome
  outcome_same da rt u points same =
      staged_same is_excluded (lags own) point (point_of rt own) exceeds others (amount_by h.da h.rt) (amount_by da rt)
      (λ x l. go own.eop refl x l)
      (λ x l E p d. energy_same D (limit E) (below E) (above E) h.da h.rt lower da rt
      (λ k w.
      same k (record { eligible = record { counted = u; not_excluded = x; not_lagging = l }; E = E; found = p; no_derate = d; needed = w })))
    where
      go : (m : MaybeKw) → own.eop ≡ m → is_excluded ≡ false → lags own ≡ false
          → point_by m (point_on h.rt own.pen.0) ≡ point_by m (point_on rt own.pen.0)
      go (Some eop) e x l = refl
      go None e x l = points (record { eligible = record { counted = u; not_excluded = x; not_lagging = l }; not_given = e })

  -- an interval is stopped by POINT, by DERATE or by REACH
  pub stops_are : (number : ℕ) → outcome_at h is_excluded i ≡ stops number → (number ≡ POINT) ⊎ ((number ≡ DERATE) ⊎ (number ≡ REACH))
  unfolding outcome_at outcome
  stops_are number e = staged_stops is_excluded (lags own) point exceeds others (amount_by h.da h.rt) number e

  -- ---- by each exactly when

  pub pointless : Cause h is_excluded POINT (PointRefused h is_excluded) i
  unfolding outcome_at outcome
  pointless =
      record {
        counted = λ w. w.asked.eligible.counted;
        stopped = λ w.
            let m = w.asked in
            let q : point_of h.rt own ≡ none = rw m.not_given (without_steps h.rt own.pen.0 w.empty) in
            rw (m.eligible.not_excluded, m.eligible.not_lagging, q);
        means = λ u e.
            let s = staged_pointless is_excluded (lags own) point exceeds others (amount_by h.da h.rt) e in
            let m = not_given_lem own.eop (point_on h.rt own.pen.0) s.2 in
            record {
              asked = record { eligible = record { counted = u; not_excluded = s.0; not_lagging = s.1 }; not_given = m.0 };
              empty = needs_steps h.rt own.pen.0 m.1;
            };
      }

  -- what it should find it does not
  pub point_is_missing : PointRefused h is_excluded i → (E : ℤ) → point_of h.rt own ≡ known E → ⊥
  point_is_missing w E e =
      let q : point_of h.rt own ≡ none = rw w.asked.not_given (without_steps h.rt own.pen.0 w.empty) in
      impossible cc

  pub derated : Cause h is_excluded DERATE (DerateRefused h is_excluded) i
  unfolding outcome_at outcome
  derated =
      record {
        counted = λ w. w.eligible.counted;
        stopped = λ w. rw (w.eligible.not_excluded, w.eligible.not_lagging, w.found, w.exceeded);
        means = λ u e.
            let s = staged_derated is_excluded (lags own) point exceeds others (amount_by h.da h.rt) e in
            record { eligible = record { counted = u; not_excluded = s.0; not_lagging = s.1 }; E = s.2; found = s.3; exceeded = s.4 };
      }

  pub unreached : Cause h is_excluded REACH (Unpriced h is_excluded) i
  unfolding outcome_at outcome
  unreached =
      record {
        counted = λ w. w.needed.eligible.counted;
        stopped = λ w.
            let m = w.needed in
            let e =
            energy_none D (limit m.E) (below m.E) (above m.E) h.da h.rt lower
            (record { kilowatt = w.kilowatt; needed = m.needed; missing = w.missing }) in
            rw (m.eligible.not_excluded, m.eligible.not_lagging, m.found, m.no_derate, e);
        means = λ u e.
            let s = staged_unreached is_excluded (lags own) point exceeds others (amount_by h.da h.rt) e in
            let m = none_energy D (limit s.2) (below s.2) (above s.2) h.da h.rt lower s.5 in
            record {
              kilowatt = m.kilowatt;
              needed =
                  record {
                    eligible = record { counted = u; not_excluded = s.0; not_lagging = s.1 };
                    E = s.2;
                    found = s.3;
                    no_derate = s.4;
                    needed = m.needed;
                  };
              missing = m.missing;
            };
      }
