-- The intervals of any hour: which of them is the first that is stopped, and for what.
use mathlib.Core.Path.{◌≡◌, refl, sym, ◌∙◌, ap, subst}
use mathlib.Core.Logic.{◌↔◌}
use Prim.Native.Nat.{ℕ, suc, ◌+◌, ◌<◌, ◌≤◌}
use native.Mathlib.Decide.{dec_lt}
use native.Mathlib.Omega.{arith}
use Rattle.exact.proofs.Apart.{impossible}
use Rattle.tariff.specs.Reply.{Verdict, clear, fault, first_of}
use Rattle.tariff.specs.Outcome.{Outcome, gives, stops, fault_at, first_stop}
use Rattle.tariff.proofs.Checks.{first_clear, clear_first, first_fault, fault_first, Without, without_first}

-- ---- one interval

clear_at : (i : ℕ) (o : Outcome) → (fault_at i o ≡ clear) ↔ ((number : ℕ) → o ≡ stops number → ⊥)
clear_at i (gives grains) = (λ e number q. impossible cc, λ f. refl)
clear_at i (stops a) = (λ e number q. impossible cc, λ f. absurd (f a refl))

fault_at_lem : (i : ℕ) (o : Outcome) (number place : ℕ) → fault_at i o ≡ fault number place → (o ≡ stops number) × (place ≡ i + 1)
fault_at_lem i (gives grains) number place e = impossible cc
fault_at_lem i (stops a) number place e = (let same : a ≡ number = cc in ap stops same, cc)

one_stop : {o : Outcome} {a b : ℕ} → o ≡ stops a → o ≡ stops b → a ≡ b
one_stop p q = cc

without_at : (m i : ℕ) (o : Outcome) → (o ≡ stops m → ⊥) → Without m (fault_at i o)
without_at m i (gives grains) f = tt
without_at m i (stops a) f = λ e. f (ap stops e)

-- ---- the intervals below n

module _ (outcome : ℕ → Outcome) (n : ℕ) where
  abbrev check : ℕ → Verdict
  check i = fault_at i (outcome i)

  pub none_stopped : (first_stop outcome n ≡ clear) ↔ ((i : ℕ) → i < n → (number : ℕ) → outcome i ≡ stops number → ⊥)
  unfolding first_stop
  none_stopped = (
    λ e i u. (clear_at i (outcome i)).0 (first_clear check n e i u),
    λ f. clear_first check n (λ i u. (clear_at i (outcome i)).1 (f i u)),
  )

  -- where no interval is stopped for m, none refuses for it
  pub stops_without : (m : ℕ) → ((i : ℕ) → outcome i ≡ stops m → ⊥) → Without m (first_stop outcome n)
  unfolding first_stop
  stops_without m f = without_first m check n (λ i. without_at m i (outcome i) (f i))

  -- the first that is stopped is i, for this number
  pub record FirstStopped (number i : ℕ) : Type 0 where
    pub counted : i < n
    pub here : outcome i ≡ stops number
    pub first : (j : ℕ) → j < i → (other : ℕ) → outcome j ≡ stops other → ⊥

  -- some interval is stopped for this number, and none before it for another
  pub record StoppedFor (number : ℕ) : Type 0 where
    pub at : ℕ
    pub counted : at < n
    pub here : outcome at ≡ stops number
    pub no_other : (j : ℕ) → j < at → (other : ℕ) → outcome j ≡ stops other → other ≡ number

  abbrev first_is_some : (number i : ℕ) → FirstStopped number i → StoppedFor number
  first_is_some number i f = record { at = i; counted = f.counted; here = f.here; no_other = λ j u other q. absurd (f.first j u other q) }

  -- nor is any at it
  at_or_before : (number : ℕ) (w : StoppedFor number) (j : ℕ) → j ≤ w.at → (other : ℕ) → outcome j ≡ stops other → other ≡ number
  at_or_before number w j u other e = go (dec_lt j w.at)
    where
      go : Dec (j < w.at) → other ≡ number
      go (yes v) = w.no_other j v other e
      go (no v) = let same : w.at ≡ j = omega arith in one_stop e (ap outcome (sym same) ∙ w.here)

  -- ---- the fault of the first that is stopped

  stopped_when : (number place : ℕ) → (first_stop outcome n ≡ fault number place) ↔ ((i : ℕ) × (place ≡ i + 1) × FirstStopped number i)
  unfolding first_stop
  stopped_when number place = (
    λ e.
        let f = first_fault check n number place e in
        let own = fault_at_lem f.at (outcome f.at) number place f.gives in
        (f.at, own.1, record { counted = f.below; here = own.0; first = λ j u. (clear_at j (outcome j)).0 (f.before j u) }),
    λ w.
        let f = w.2 in
        rw w.1
        (fault_first check n number (w.0 + 1)
        (record { at = w.0; below = f.counted; before = λ j u. (clear_at j (outcome j)).1 (f.first j u); gives = ap (fault_at w.0) f.here })),
  )

  pub stop_at : (number i : ℕ) → (first_stop outcome n ≡ fault number (i + 1)) ↔ FirstStopped number i
  stop_at number i = (
    λ e.
        let w = (stopped_when number (i + 1)).0 e in
        let same : w.0 ≡ i = let p = w.1 in omega arith in
        subst (FirstStopped number) same w.2,
    λ f. (stopped_when number (i + 1)).1 (i, refl, f),
  )

  -- where some interval is stopped there is a first, at or before it
  least : (number : ℕ) → StoppedFor number → (i : ℕ) × FirstStopped number i
  least number w = go (first_of check (suc w.at)) refl
    where
      go : (v : Verdict) → first_of check (suc w.at) ≡ v → (i : ℕ) × FirstStopped number i
      go clear e = absurd ((clear_at w.at (outcome w.at)).0 (first_clear check (suc w.at) e w.at (omega arith)) number w.here)
      go (fault a place) e =
          let f = first_fault check (suc w.at) a place e in
          let up_to : f.at ≤ w.at = let u = f.below in omega arith in
          let here = (fault_at_lem f.at (outcome f.at) a place f.gives).0 in
          let own = at_or_before number w f.at up_to a here in
          (f.at, record { counted = let u = w.counted in omega arith; here = here ∙ ap stops own; first = λ j u. (clear_at j (outcome j)).0 (f.before j u) })

  pub stop_some : (number : ℕ) → ((place : ℕ) × (first_stop outcome n ≡ fault number place)) ↔ StoppedFor number
  stop_some number = (
    λ e. let w = (stopped_when number e.0).0 e.1 in first_is_some number w.0 w.2,
    λ w. let f = least number w in (f.0 + 1, (stop_at number f.0).1 f.1),
  )
