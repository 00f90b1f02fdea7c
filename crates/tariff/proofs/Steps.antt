-- The steps of a curve: which kilowatts have a price, and that further steps change none.
use mathlib.Core.Path.{◌≡◌, refl}
use mathlib.Core.Bool.{Bool, true, false}
use Prim.Native.Nat.{ℕ, zero, suc, ◌+◌, ◌-◌, ◌<◌, ◌≤◌}
use native.Mathlib.Decide.{dec_lt, dec_le}
use native.Mathlib.Omega.{arith}
use borrow.Author.Tests.{eqb-true}
use lib.Dec.{eqb}
use lib.IntN.{ℤ, pos}
use lib.Signed.{lt_z, ◌≤ℤ◌, ◌<ℤ◌, ≤ℤ_refl}
use Rattle.std.specs.Prelude.{if◌then◌else◌}
use Rattle.exact.specs.Whole.{eq_z}
use Rattle.exact.proofs.Apart.{impossible}
use Rattle.exact.proofs.Parts.{arithℤ, by_test}
use Rattle.tariff.specs.declared.Curve.{Curve}
use Rattle.tariff.specs.Sheet.{end_of, price_of, begin_of, all_to, rises, is_fair, step_keeps, curve_keeps}
use Rattle.tariff.specs.Curve.{known, none, quote_from, quote}
use Rattle.tariff.proofs.Tests.{and_left, all_at}

-- ---- the first step that ends above k

module _ (ends prices : ℕ → ℤ) where
  -- a step at or after j, of `left`, ends above k
  record Ending (j left : ℕ) (k : ℤ) : Type 0 where
    pub at : ℕ
    pub from : j ≤ at
    pub below : at < j + left
    pub above : lt_z k (ends at) ≡ true

  priced_ending : (j left : ℕ) (k p : ℤ) → quote_from ends prices j left k ≡ known p → Ending j left k
  unfolding quote_from
  priced_ending j zero k p e = impossible cc
  priced_ending j (suc left) k p e = go (lt_z k (ends j)) refl (priced_ending (j + 1) left k p) e
    where
      go : (t : Bool) → lt_z k (ends j) ≡ t → (quote_from ends prices (j + 1) left k ≡ known p → Ending (j + 1) left k)
          → (if t then known (prices j) else quote_from ends prices (j + 1) left k) ≡ known p
          → Ending j (suc left) k
      go true q ih e = record { at = j; from = omega arith; below = omega arith; above = q }
      go false q ih e =
          let w = ih e in
          record { at = w.at; from = let u = w.from in omega arith; below = let u = w.below in omega arith; above = w.above }

  ending_priced : (j left : ℕ) (k : ℤ) → Ending j left k → (p : ℤ) × (quote_from ends prices j left k ≡ known p)
  unfolding quote_from
  ending_priced j zero k w = absurd (let u = w.from in let v = w.below in omega arith)
  ending_priced j (suc left) k w = go (lt_z k (ends j)) refl (ending_priced (j + 1) left k)
    where
      past : Dec (j < w.at) → lt_z k (ends j) ≡ false → j + 1 ≤ w.at
      past (yes u) q = omega arith
      past (no u) q =
          let same : w.at ≡ j = let f = w.from in omega arith in
          let above : lt_z k (ends j) ≡ true = rw same at w.above in
          impossible cc

      go : (t : Bool) → lt_z k (ends j) ≡ t → (Ending (j + 1) left k → (p : ℤ) × (quote_from ends prices (j + 1) left k ≡ known p))
          → (p : ℤ) × ((if t then known (prices j) else quote_from ends prices (j + 1) left k) ≡ known p)
      go true q ih = (prices j, refl)
      go false q ih = ih (record { at = w.at; from = past (dec_lt j w.at) q; below = let u = w.below in omega arith; above = w.above })

  -- the first step that ends above k has its price
  first_ending : (i j left : ℕ) (k : ℤ) → j ≤ i → i < j + left → ((m : ℕ) → m < i → lt_z k (ends m) ≡ false) → lt_z k (ends i) ≡ true
      → quote_from ends prices j left k ≡ known (prices i)
  unfolding quote_from
  first_ending i j zero k u v before here = absurd (omega arith)
  first_ending i j (suc left) k u v before here = go (first_ending i (j + 1) left k) (dec_lt j i)
    where
      go : (j + 1 ≤ i → i < j + 1 + left → ((m : ℕ) → m < i → lt_z k (ends m) ≡ false) → lt_z k (ends i) ≡ true → quote_from ends prices (j + 1) left k ≡ known (prices i))
          → Dec (j < i)
          → (if lt_z k (ends j) then known (prices j) else quote_from ends prices (j + 1) left k) ≡ known (prices i)
      go ih (yes w) = rw (before j w) (ih (omega arith) (omega arith) before here)
      go ih (no w) = let same : j ≡ i = omega arith in rw (same, here)

-- ---- further steps at the end

from_more : (ends prices ends' prices' : ℕ → ℤ) (j left more : ℕ) (k p : ℤ) → left ≤ more
    → ((i : ℕ) → i < j + left → (ends i ≡ ends' i) × (prices i ≡ prices' i))
    → quote_from ends prices j left k ≡ known p
    → quote_from ends' prices' j more k ≡ known p
unfolding quote_from
from_more ends prices ends' prices' j zero more k p u same e = impossible cc
from_more ends prices ends' prices' j (suc left) zero k p u same e = absurd (omega arith)
from_more ends prices ends' prices' j (suc left) (suc more) k p u same e =
    let here = same j (omega arith) in
    rw (← here.0, ← here.1) (go (lt_z k (ends j)) (from_more ends prices ends' prices' (j + 1) left more k p (omega arith) (λ i v. same i (omega arith))) e)
  where
    go : (t : Bool) → (quote_from ends prices (j + 1) left k ≡ known p → quote_from ends' prices' (j + 1) more k ≡ known p)
        → (if t then known (prices j) else quote_from ends prices (j + 1) left k) ≡ known p
        → (if t then known (prices j) else quote_from ends' prices' (j + 1) more k) ≡ known p
    go true ih e = e
    go false ih e = ih e

pub more_quoted : (ends prices ends' prices' : ℕ → ℤ) (n m : ℕ) (start k : ℤ) → n ≤ m
    → ((i : ℕ) → i < n → (ends i ≡ ends' i) × (prices i ≡ prices' i))
    → (p : ℤ)
    → (if lt_z k start then none else quote_from ends prices 0 n k) ≡ known p
    → (if lt_z k start then none else quote_from ends' prices' 0 m k) ≡ known p
more_quoted ends prices ends' prices' n m start k u same p = go (lt_z k start)
  where
    go : (t : Bool) → (if t then none else quote_from ends prices 0 n k) ≡ known p → (if t then none else quote_from ends' prices' 0 m k) ≡ known p
    go true e = e
    go false e = from_more ends prices ends' prices' 0 n m k p u (λ i v. same i (omega arith)) e

-- ---- ends that rise

module _ (c : Curve) (keeps : curve_keeps c ≡ true) where
  pub rising : (j : ℕ) → j < c.n → lt_z (begin_of c j) (end_of c j) ≡ true
  unfolding curve_keeps
  rising j u =
      and_left (rises c j) (is_fair c j)
      (all_at (step_keeps c) c.n j
      (by_test (eqb c.n 0)
      (λ t. (if t then eq_z c.start.0 (pos 0) else all_to (step_keeps c) c.n) ≡ true → all_to (step_keeps c) c.n ≡ true)
      (λ e q. absurd (omega (arith, eqb-true c.n 0 e)))
      (λ e q. q)
      keeps) u)

  -- no step begins above a later one, and a step ends where the next begins
  pub begins_rise : (i j : ℕ) → i ≤ j → j ≤ c.n → begin_of c i ≤ℤ begin_of c j
  begins_rise i zero u v = let same : i ≡ 0 = omega arith in rw same (≤ℤ_refl (begin_of c 0))
  begins_rise i (suc j) u v = go (begins_rise i j) (dec_le i j)
    where
      go : (i ≤ j → j ≤ c.n → begin_of c i ≤ℤ begin_of c j) → Dec (i ≤ j) → begin_of c i ≤ℤ begin_of c (suc j)
      go ih (yes w) = omega (arithℤ, ih w (omega arith), rising j v)
      go ih (no w) = let same : i ≡ suc j = omega arith in rw same (≤ℤ_refl (begin_of c (suc j)))

  pub priced_when : (k p : ℤ) → quote c k ≡ known p → (c.start.0 ≤ℤ k) × (0 < c.n) × (k <ℤ end_of c (c.n - 1))
  unfolding quote
  priced_when k p = by_test (lt_z k c.start.0)
      (λ t. (if t then none else quote_from (end_of c) (price_of c) 0 c.n k) ≡ known p → (c.start.0 ≤ℤ k) × (0 < c.n) × (k <ℤ end_of c (c.n - 1)))
      (λ t e. impossible cc)
      (λ t e.
      let w = priced_ending (end_of c) (price_of c) 0 c.n k p e in
      let u : w.at < c.n = let b = w.below in omega arith in
      let r : end_of c w.at ≤ℤ end_of c (c.n - 1) = begins_rise (suc w.at) (suc (c.n - 1)) (omega arith) (omega arith) in
      let a = w.above in
      (omega arithℤ, omega arith, omega arithℤ))

  pub when_priced : (k : ℤ) → (c.start.0 ≤ℤ k) × (0 < c.n) × (k <ℤ end_of c (c.n - 1)) → (p : ℤ) × (quote c k ≡ known p)
  unfolding quote
  when_priced k w =
      let start : lt_z k c.start.0 ≡ false = let u = w.0 in omega arithℤ in
      let u = w.1 in
      let v = w.2 in
      let x = ending_priced (end_of c) (price_of c) 0 c.n k (record { at = c.n - 1; from = omega arith; below = omega arith; above = omega arithℤ }) in
      (x.0, rw start x.1)

  -- a kilowatt of step j: neither the curve's start nor the end of a step before j is above it, and the end of j is
  in_step : (j : ℕ) (k : ℤ) → j < c.n → begin_of c j ≤ℤ k → k <ℤ end_of c j
      → (lt_z k c.start.0 ≡ false) × ((m : ℕ) → m < j → lt_z k (end_of c m) ≡ false) × (lt_z k (end_of c j) ≡ true)
  in_step j k u low high = (
    omega (arithℤ, begins_rise 0 j (omega arith) (omega arith)),
    λ m v. omega (arithℤ, begins_rise (suc m) j (omega arith) (omega arith)),
    omega arithℤ,
  )

  pub step_quoted : (j : ℕ) (k : ℤ) → j < c.n → begin_of c j ≤ℤ k → k <ℤ end_of c j → quote c k ≡ known (price_of c j)
  unfolding quote
  step_quoted j k u low high =
      let step = in_step j k u low high in
      rw step.0 (first_ending (end_of c) (price_of c) j 0 c.n k (omega arith) (omega arith) step.1 step.2)

  -- below the begin of step m, from the curve's start on, kilowatt k is one of a step before m
  pub record Stepped (m : ℕ) (k : ℤ) : Type 0 where
    pub at : ℕ
    pub before : at < m
    pub priced : quote c k ≡ known (price_of c at)

  pub stepped : (m : ℕ) (k : ℤ) → m ≤ c.n → c.start.0 ≤ℤ k → k <ℤ begin_of c m → Stepped m k
  stepped zero k u low high = absurd (omega arithℤ)
  stepped (suc m) k u low high = go (stepped m k) (lt_z k (begin_of c m)) refl
    where
      go : (m ≤ c.n → c.start.0 ≤ℤ k → k <ℤ begin_of c m → Stepped m k) → (t : Bool) → lt_z k (begin_of c m) ≡ t → Stepped (suc m) k
      go ih true e = let w = ih (omega arith) low (omega arithℤ) in record { at = w.at; before = let b = w.before in omega arith; priced = w.priced }
      go ih false e = record { at = m; before = omega arith; priced = step_quoted m k u (omega arithℤ) high }
