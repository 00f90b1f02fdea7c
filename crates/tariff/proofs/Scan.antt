-- The scan of a curve's steps: what it has summed at step j, and what each way of a turn makes of it.
use mathlib.Core.Path.{◌≡◌, refl, sym, ap, ◌∙◌}
use mathlib.Core.Bool.{Bool, true, false}
use Prim.Native.Nat.{ℕ, zero, suc, ◌+◌, ◌-◌, ◌*◌, ◌<◌, ◌≤◌}
use native.Mathlib.Nat.{add-zero, add-suc, sub-zero}
use native.Mathlib.Omega.{arith}
use lib.IntN.{ℤ, pos, ◌+ℤ◌, ◌-ℤ◌, ◌*ℤ◌, +ℤ_assoc, +ℤ_idl, +ℤ_idr, suc_ℤ-*ℤ, zero-*ℤ}
use lib.Signed.{lt_z}
use Rattle.std.specs.Prelude.{if◌then◌else◌}
use Rattle.exact.specs.Whole.{span, Within}
use Rattle.exact.proofs.Parts.{arithℤ, add_parts, span_parts}
use Rattle.exact.proofs.Ring.{+-over-*}
use Rattle.exact.proofs.Order.{span_gap, span_some, lt_flip, step_step}
use Rattle.exact.proofs.Range.{within_add, within_mul, within_more, within_zero}
use Rattle.tariff.specs.declared.Curve.{Curve}
use Rattle.tariff.specs.Sheet.{end_of, price_of}
use Rattle.tariff.specs.Curve.{Amount, known, none, quote_from, quote, plus, change, sum_up}
use Rattle.tariff.proofs.Curves.{sum_nothing, sum_up_same, sum_up_none}

-- ---- amounts

plus_assoc : (x y z : Amount) → plus (plus x y) z ≡ plus x (plus y z)
plus_assoc (known x) (known y) (known z) = ap known (+ℤ_assoc x y z)
plus_assoc (known x) (known y) none = refl
plus_assoc (known x) none (known z) = refl
plus_assoc (known x) none none = refl
plus_assoc none (known y) (known z) = refl
plus_assoc none (known y) none = refl
plus_assoc none none (known z) = refl
plus_assoc none none none = refl

plus_zero : (x : Amount) → plus x (known (pos 0)) ≡ x
plus_zero (known x) = ap known (+ℤ_idr x)
plus_zero none = refl

zero_plus : (x : Amount) → plus (known (pos 0)) x ≡ x
zero_plus (known x) = ap known (+ℤ_idl x)
zero_plus none = refl

times_plus : (s : ℤ) (x y : Amount) → change (λ z. z *ℤ s) (plus x y) ≡ plus (change (λ z. z *ℤ s) x) (change (λ z. z *ℤ s) y)
times_plus s (known x) (known y) = ap known (+-over-* x y s)
times_plus s (known x) none = refl
times_plus s none (known y) = refl
times_plus s none none = refl

-- ---- sums of kilowatts

sum_split : (f : ℤ → Amount) (a : ℤ) (m n : ℕ) → sum_up f a (m + n) ≡ plus (sum_up f a m) (sum_up f (a +ℤ pos m) n)
unfolding sum_up
sum_split f a m zero = rw (add-zero, plus_zero)
sum_split f a m (suc n) = rw (add-suc, sum_split f a m n, plus_assoc, step_step)

sum_flat : (f : ℤ → Amount) (p a : ℤ) (m : ℕ) → ((i : ℕ) → i < m → f (a +ℤ pos i) ≡ known p) → sum_up f a m ≡ known (pos m *ℤ p)
unfolding sum_up
sum_flat f p a zero h = ap known (sym (zero-*ℤ p))
sum_flat f p a (suc m) h =
    rw (sum_flat f p a m (λ i u. h i (omega arith)), h m (omega arith)) (ap known (sym (suc_ℤ-*ℤ (pos m) p)))

sum_times : (s : ℤ) (f : ℤ → Amount) (a : ℤ) (m : ℕ) → change (λ z. z *ℤ s) (sum_up f a m) ≡ sum_up (λ k. change (λ z. z *ℤ s) (f k)) a m
unfolding sum_up
sum_times s f a zero = ap known (zero-*ℤ s)
sum_times s f a (suc m) =
    times_plus s (sum_up f a m) (f (a +ℤ pos m)) ∙ ap (λ (x : Amount). plus x (change (λ z. z *ℤ s) (f (a +ℤ pos m)))) (sum_times s f a m)

-- the first kilowatt has no price
sum_first : (f : ℤ → Amount) (a : ℤ) (m : ℕ) → f a ≡ none → 0 < m → sum_up f a m ≡ none
sum_first f a m e h = sum_up_none f a m (record { at = 0; below = h; missing = ap f (+ℤ_idr a) ∙ e })

-- ---- the steps from j on

module _ (ends prices : ℕ → ℤ) (j l : ℕ) where
  in_step : (k : ℤ) → lt_z k (ends j) ≡ true → quote_from ends prices j (suc l) k ≡ known (prices j)
  unfolding quote_from
  in_step k h = rw h

  past_step : (k : ℤ) → lt_z k (ends j) ≡ false → quote_from ends prices j (suc l) k ≡ quote_from ends prices (j + 1) l k
  unfolding quote_from
  past_step k h = rw h

  -- a run that begins at or past the step's end
  run_past : (x : ℤ) (m : ℕ) → lt_z x (ends j) ≡ false → sum_up (quote_from ends prices j (suc l)) x m ≡ sum_up (quote_from ends prices (j + 1) l) x m
  run_past x m h = sum_up_same _ _ x m (λ i u. past_step (x +ℤ pos i) (omega (arithℤ, add_parts x (pos i))))

  -- a run that ends at or before the step's end
  run_in : (x : ℤ) (m : ℕ) → lt_z x (ends j) ≡ true → m ≤ span x (ends j) → sum_up (quote_from ends prices j (suc l)) x m ≡ known (pos m *ℤ prices j)
  run_in x m h le = sum_flat _ (prices j) x m (λ i u. in_step (x +ℤ pos i) (omega (arithℤ, add_parts x (pos i), span_parts x (ends j))))

  -- a run that goes past the step's end
  run_over : (x b : ℤ) → lt_z x (ends j) ≡ true → lt_z (ends j) b ≡ true
      → sum_up (quote_from ends prices j (suc l)) x (span x b)
      ≡ plus (known (pos (span x (ends j)) *ℤ prices j)) (sum_up (quote_from ends prices (j + 1) l) (ends j) (span (ends j) b))
  run_over x b h k =
      let e : ℤ = ends j in
      let cut : span x b ≡ span x e + span e b = omega (arithℤ, span_parts x b, span_parts x e, span_parts e b) in
      let there : x +ℤ pos (span x e) ≡ e = omega (arithℤ, add_parts x (pos (span x e)), span_parts x e) in
      let still : lt_z e e ≡ false = omega arithℤ in
      ap (sum_up (quote_from ends prices j (suc l)) x) cut
      ∙ sum_split _ x (span x e) (span e b)
      ∙ ap (λ (t : Amount). plus t (sum_up (quote_from ends prices j (suc l)) (x +ℤ pos (span x e)) (span e b))) (run_in x (span x e) h (omega arith))
      ∙ ap (λ (z : ℤ). plus (known (pos (span x e) *ℤ prices j)) (sum_up (quote_from ends prices j (suc l)) z (span e b))) there
      ∙ ap (plus (known (pos (span x e) *ℤ prices j))) (run_past e (span e b) still)

-- ---- at step j the kilowatts from a up to x are summed: the whole is that sum and what the steps from j on say of the rest

pub record Going (ends prices : ℕ → ℤ) (n P : ℕ) (a b x sum : ℤ) (j : ℕ) : Type 0 where
  pub within : j ≤ n
  pub low : lt_z x a ≡ false
  pub ahead : lt_z x b ≡ true
  pub size : Within (P * span a x) sum
  pub owed : sum_up (quote_from ends prices 0 n) a (span a b) ≡ plus (known sum) (sum_up (quote_from ends prices j (n - j)) x (span x b))

module _ (ends prices : ℕ → ℤ) (n P : ℕ) (a b : ℤ) (ab : lt_z a b ≡ true) where
  pub begin : Going ends prices n P a b a (pos 0) 0
  begin =
      record {
        within = omega arith;
        low = omega arithℤ;
        ahead = ab;
        size = within_zero (P * span a a);
        owed = rw (sub-zero, zero_plus);
      }

  -- no step is left
  pub ends_short : (x sum : ℤ) (j : ℕ) → Going ends prices n P a b x sum j → n ≤ j → sum_up (quote_from ends prices 0 n) a (span a b) ≡ none
  unfolding quote_from
  ends_short x sum j go h =
      let no : n - j ≡ 0 = let w = go.within in omega arith in
      go.owed ∙ rw (no, sum_first (quote_from ends prices j 0) x (span x b) refl (span_some x b go.ahead))

  module _ (x sum : ℤ) (j : ℕ) (go : Going ends prices n P a b x sum j) (more : j < n) where
    l : ℕ
    l = n - (j + 1)

    left : n - j ≡ suc l
    unfolding l
    left = omega arith

    -- the step ends at or below x
    pub past : lt_z x (ends j) ≡ false → Going ends prices n P a b x sum (j + 1)
    unfolding l
    past h =
        record {
          within = omega arith;
          low = go.low;
          ahead = go.ahead;
          size = go.size;
          owed = go.owed ∙ rw (left, run_past ends prices j l x (span x b) h);
        }

    -- what is summed when the run from x goes up to e at this step's price
    reached : (e r : ℤ) → lt_z x e ≡ true → r ≡ sum +ℤ (e -ℤ x) *ℤ prices j → r ≡ sum +ℤ pos (span x e) *ℤ prices j
    reached e r h q = q ∙ ap (λ (z : ℤ). sum +ℤ z *ℤ prices j) (span_gap x e (lt_flip x e h))

    pub grown : (e r : ℤ) → lt_z x e ≡ true → Within P (prices j) → r ≡ sum +ℤ (e -ℤ x) *ℤ prices j → Within (P * span a e) r
    grown e r h w q =
        let cut : span a e ≡ span a x + span x e = let u = go.low in omega (arithℤ, span_parts a e, span_parts a x, span_parts x e) in
        let bound : Within (span x e) (pos (span x e)) = record { above = omega arith; below = omega arith } in
        rw (reached e r h q, cut) (within_more (omega arith) (within_add go.size (within_mul bound w)))

    -- the step ends below b
    pub goes_on : (r : ℤ) → lt_z x (ends j) ≡ true → lt_z (ends j) b ≡ true → Within P (prices j) → r ≡ sum +ℤ (ends j -ℤ x) *ℤ prices j
        → Going ends prices n P a b (ends j) r (j + 1)
    unfolding l
    goes_on r h k w q =
        record {
          within = omega arith;
          low = let u = go.low in omega arithℤ;
          ahead = k;
          size = grown (ends j) r h w q;
          owed =
              go.owed
              ∙ rw (left, run_over ends prices j l x b h k, ← plus_assoc)
              (ap (λ (z : ℤ). plus (known z) (sum_up (quote_from ends prices (j + 1) l) (ends j) (span (ends j) b))) (sym (reached (ends j) r h q)));
        }

    -- the step reaches b
    pub reaches : (r : ℤ) → lt_z x (ends j) ≡ true → lt_z (ends j) b ≡ false → r ≡ sum +ℤ (b -ℤ x) *ℤ prices j
        → sum_up (quote_from ends prices 0 n) a (span a b) ≡ known r
    unfolding l
    reaches r h k q =
        let near : span x b ≤ span x (ends j) = omega (arithℤ, span_parts x b, span_parts x (ends j)) in
        go.owed ∙ rw (left, run_in ends prices j l x (span x b) h near) (ap known (sym (reached b r go.ahead q)))

-- ---- a curve, its prices times the seconds

abbrev pub timed : Curve → ℤ → ℕ → ℤ
timed c s j = price_of c j *ℤ s

quote_timed : (ends prices : ℕ → ℤ) (s : ℤ) (j l : ℕ) (k : ℤ)
    → change (λ z. z *ℤ s) (quote_from ends prices j l k) ≡ quote_from ends (λ i. prices i *ℤ s) j l k
unfolding quote_from
quote_timed ends prices s j zero k = refl
quote_timed ends prices s j (suc l) k = pick (lt_z k (ends j)) _ _ (quote_timed ends prices s (j + 1) l k)
  where
    pick : (t : Bool) (y z : Amount) → change (λ z. z *ℤ s) y ≡ z
        → change (λ z. z *ℤ s) (if t then known (prices j) else y) ≡ (if t then known (prices j *ℤ s) else z)
    pick true y z e = refl
    pick false y z e = e

module _ (c : Curve) (a : ℤ) (m : ℕ) (s : ℤ) where
  -- from the curve's start on, the steps decide
  pub from_start : lt_z a c.start.0 ≡ false → change (λ z. z *ℤ s) (sum_up (quote c) a m) ≡ sum_up (quote_from (end_of c) (timed c s) 0 c.n) a m
  unfolding quote
  from_start h =
      sum_times s (quote c) a m
      ∙ sum_up_same _ _ a m
      (λ i u.
      let above : lt_z (a +ℤ pos i) c.start.0 ≡ false = omega (arithℤ, add_parts a (pos i)) in
      rw above (quote_timed (end_of c) (price_of c) s 0 c.n (a +ℤ pos i)))

  pub below_start : lt_z a c.start.0 ≡ true → 0 < m → change (λ z. z *ℤ s) (sum_up (quote c) a m) ≡ none
  unfolding quote
  below_start h p = ap (change (λ z. z *ℤ s)) (sum_first (quote c) a m (rw h) p)

  pub no_kilowatt : m ≡ 0 → change (λ z. z *ℤ s) (sum_up (quote c) a m) ≡ known (pos 0)
  no_kilowatt h = ap (change (λ z. z *ℤ s)) (sum_nothing (quote c) a m h) ∙ ap known (zero-*ℤ s)
