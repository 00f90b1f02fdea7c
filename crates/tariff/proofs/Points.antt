-- Laws of the operating point on a curve: which steps are taken, and that it is the first kilowatt that costs more than `pen` or has no price,
-- however the curve is cut into steps.
use Rattle.tariff.specs.Units.{MaybeKw}
use mathlib.Core.Path.{◌≡◌, refl, sym, ◌∙◌, ap}
use mathlib.Core.Bool.{Bool, true, false}
use mathlib.Core.Logic.{◌↔◌}
use Prim.Native.Nat.{ℕ, zero, suc, ◌+◌, ◌-◌, ◌<◌, ◌≤◌}
use native.Mathlib.Decide.{dec_lt}
use native.Mathlib.Omega.{arith}
use borrow.Author.Tests.{eqb-true}
use lib.Dec.{eqb}
use lib.IntN.{ℤ}
use lib.Signed.{lt_z, le_z, ◌≤ℤ◌, ◌<ℤ◌, ≤ℤ_refl}
use Rattle.std.specs.Prelude.{if◌then◌else◌, None, Some}
use Rattle.exact.specs.Whole.{Within}
use Rattle.exact.proofs.Apart.{impossible}
use Rattle.exact.proofs.Parts.{arithℤ, by_test}
use Rattle.tariff.specs.declared.Curve.{Curve}
use Rattle.tariff.specs.declared.Interval.{Interval}
use Rattle.tariff.specs.Sheet.{end_of, price_of, begin_of, curve_in_range, eop_in_range, curve_keeps}
use Rattle.tariff.specs.Curve.{Amount, known, none, quote}
use Rattle.tariff.specs.Point.{first_dearer, point_on, point_by, point_of}
use Rattle.tariff.specs.Demand.{FirstDear, SamePrices}
use Rattle.tariff.proofs.Ranges.{power_within, curve_fits}
use Rattle.tariff.proofs.Steps.{rising, begins_rise, priced_when, when_priced, step_quoted, stepped}

-- ---- the first step that costs more than `pen`

module _ (prices : ℕ → ℤ) (pen : ℤ) where
  abbrev dearer : (j left : ℕ) → ℕ
  dearer = first_dearer prices pen

  -- it is one of the steps, or the one behind them; those before it cost no more, and it does
  pub record Taken (j left m : ℕ) : Type 0 where
    pub from : j ≤ m
    pub up_to : m ≤ j + left
    pub cheap : (i : ℕ) → j ≤ i → i < m → prices i ≤ℤ pen
    pub dear : m < j + left → pen <ℤ prices m

  pub taken : (j left : ℕ) → Taken j left (dearer j left)
  unfolding first_dearer
  taken j zero = record { from = omega arith; up_to = omega arith; cheap = λ i u v. absurd (omega arith); dear = λ u. absurd (omega arith) }
  taken j (suc left) =
      by_test (le_z (prices j) pen)
      (λ t. Taken j (suc left) (if t then dearer (j + 1) left else j))
      (λ e. further e (taken (j + 1) left))
      (λ e. record { from = omega arith; up_to = omega arith; cheap = λ i u v. absurd (omega arith); dear = λ u. omega arithℤ })
    where
      further : le_z (prices j) pen ≡ true → {m : ℕ} → Taken (j + 1) left m → Taken j (suc left) m
      further e {m} w =
          record {
            from = let u = w.from in omega arith;
            up_to = let u = w.up_to in omega arith;
            cheap = λ i u v. go i u v (dec_lt j i);
            dear = λ u. w.dear (omega arith);
          }
        where
          go : (i : ℕ) → j ≤ i → i < m → Dec (j < i) → prices i ≤ℤ pen
          go i u v (yes after) = w.cheap i (omega arith) v
          go i u v (no before) = let same : i ≡ j = omega arith in rw same (omega arithℤ)

-- ---- the point, and its lack

pub without_steps : (c : Curve) (pen : ℤ) → c.n ≡ 0 → point_on c pen ≡ none
unfolding point_on
without_steps c pen e = rw e

pub needs_steps : (c : Curve) (pen : ℤ) → point_on c pen ≡ none → c.n ≡ 0
unfolding point_on
needs_steps c pen =
    by_test (eqb c.n 0)
    (λ t. (if t then none else known (begin_of c (first_dearer (price_of c) pen 0 c.n))) ≡ none → c.n ≡ 0)
    (λ t e. eqb-true c.n 0 t)
    (λ t e. impossible cc)

pub not_given_lem : (m : MaybeKw) (x : Amount) → point_by m x ≡ none → (m ≡ None) × (x ≡ none)
not_given_lem (Some eop) x e = impossible cc
not_given_lem None x e = (refl, e)

module _ (c : Curve) (pen : ℤ) where
  -- how many steps are taken
  abbrev pub count : ℕ
  count = first_dearer (price_of c) pen 0 c.n

  abbrev pub these : Taken (price_of c) pen 0 c.n count
  these = taken (price_of c) pen 0 c.n

  pub with_steps : 0 < c.n → point_on c pen ≡ known (begin_of c count)
  unfolding point_on
  with_steps u =
      by_test (eqb c.n 0)
      (λ t. (if t then none else known (begin_of c count)) ≡ known (begin_of c count))
      (λ t. absurd (let e = eqb-true c.n 0 t in omega arith))
      (λ t. refl)

  has_steps : {E : ℤ} → point_on c pen ≡ known E → 0 < c.n
  has_steps {E} e = go (dec_lt 0 c.n)
    where
      go : Dec (0 < c.n) → 0 < c.n
      go (yes u) = u
      go (no u) = let q = without_steps c pen (omega arith) in impossible cc

  pub point_is : {E : ℤ} → point_on c pen ≡ known E → E ≡ begin_of c count
  point_is e = let q = with_steps (has_steps e) in cc

-- ---- in range, where the curve and what the sheet gives are

begin_within : (c : Curve) → curve_in_range c ≡ true → (j : ℕ) → j ≤ c.n → Within 2000000 (begin_of c j)
begin_within c e zero u = (curve_fits c e).start
begin_within c e (suc j) u = (curve_fits c e).ends j u

pub point_within : (rt : Curve) (v : Interval) → curve_in_range rt ≡ true → eop_in_range v.eop ≡ true → (E : ℤ) → point_of rt v ≡ known E → Within 2000000 E
point_within rt v e f E = go v.eop f
  where
    go : (m : MaybeKw) → eop_in_range m ≡ true → point_by m (point_on rt v.pen.0) ≡ known E → Within 2000000 E
    go (Some eop) f p = let same : eop.0 ≡ E = cc in rw (← same) (power_within f)
    go None f p =
        let t = these rt v.pen.0 in
        rw (point_is rt v.pen.0 p) (begin_within rt e (count rt v.pen.0) (let u = t.up_to in omega arith))

-- ---- on a curve that breaks no rule

module _ (c : Curve) (keeps : curve_keeps c ≡ true) (pen : ℤ) where
  few : count c pen ≤ c.n
  few = let u = (these c pen).up_to in omega arith

  -- what is priced there is the first step that is not taken
  dear_there : (p : ℤ) → quote c (begin_of c (count c pen)) ≡ known p → Dec (count c pen < c.n) → pen <ℤ p
  dear_there p e (yes u) =
      let own = step_quoted c keeps (count c pen) (begin_of c (count c pen)) u (≤ℤ_refl (begin_of c (count c pen))) (omega (arithℤ, rising c keeps (count c pen) u)) in
      let same : price_of c (count c pen) ≡ p = cc in
      rw (← same) ((these c pen).dear (omega arith))
  dear_there p e (no u) =
      let w = priced_when c keeps (begin_of c (count c pen)) p e in
      let v = w.1 in
      let last : count c pen ≡ suc (c.n - 1) = let f = few in omega arith in
      let high : begin_of c (count c pen) <ℤ begin_of c (suc (c.n - 1)) = w.2 in
      absurd (let above = rw last at high in omega arithℤ)

  pub point_first : FirstDear c pen (begin_of c (count c pen))
  point_first =
      record {
        from = begins_rise c keeps 0 (count c pen) (omega arith) few;
        cheap = λ k u v.
            let w = stepped c keeps (count c pen) k few u v in
            (price_of c w.at, w.priced, (these c pen).cheap w.at (omega arith) w.before);
        dear = λ p e. dear_there p e (dec_lt (count c pen) c.n);
      }

-- no such kilowatt lies below another
not_below : {c : Curve} {pen E P : ℤ} → FirstDear c pen E → FirstDear c pen P → E <ℤ P → ⊥
not_below {c} {pen} {E} {P} e q u =
    let w = q.cheap E e.from u in
    let v = e.dear w.0 w.1 in
    let x = w.2 in
    omega arithℤ

one_first : {c : Curve} {pen E P : ℤ} → FirstDear c pen E → FirstDear c pen P → E ≡ P
one_first {c} {pen} {E} {P} e q = go (lt_z E P) refl (lt_z P E) refl
  where
    go : (t : Bool) → lt_z E P ≡ t → (s : Bool) → lt_z P E ≡ s → E ≡ P
    go true x s y = absurd (not_below e q (omega arithℤ))
    go false x true y = absurd (not_below q e (omega arithℤ))
    go false x false y = omega arithℤ

pub point_when : (c : Curve) → curve_keeps c ≡ true → 0 < c.n → (pen E : ℤ) → (point_on c pen ≡ known E) ↔ FirstDear c pen E
point_when c keeps u pen E = (
  λ e. let same = point_is c pen e in rw same (point_first c keeps pen),
  λ w. let same = one_first w (point_first c keeps pen) in with_steps c pen u ∙ ap known (sym same),
)

-- ---- however it is cut

module _ (c d : Curve) (kc : curve_keeps c ≡ true) (kd : curve_keeps d ≡ true) (same : SamePrices c d) where
  -- its first kilowatt has a price, and so the other curve begins no later, and has a step
  begins : 0 < c.n → (d.start.0 ≤ℤ c.start.0) × (0 < d.n)
  begins u =
      let first : c.start.0 <ℤ end_of c (c.n - 1) = omega (arithℤ, rising c kc 0 u, begins_rise c kc 1 (suc (c.n - 1)) (omega arith) (omega arith)) in
      let w = when_priced c kc c.start.0 (≤ℤ_refl c.start.0, u, first) in
      let v = priced_when d kd c.start.0 w.0 (sym (same.each c.start.0) ∙ w.1) in
      (v.0, v.1)

flipped : {c d : Curve} → SamePrices c d → SamePrices d c
flipped same = record { each = λ k. sym (same.each k) }

pub point_same : (c d : Curve) → curve_keeps c ≡ true → curve_keeps d ≡ true → SamePrices c d → (pen : ℤ) → point_on c pen ≡ point_on d pen
point_same c d kc kd same pen = go (dec_lt 0 c.n) (dec_lt 0 d.n)
  where
    go : Dec (0 < c.n) → Dec (0 < d.n) → point_on c pen ≡ point_on d pen
    go (no u) (no v) = without_steps c pen (omega arith) ∙ sym (without_steps d pen (omega arith))
    go (no u) (yes v) = absurd (u (begins d c kd kc (flipped same) v).1)
    go (yes u) (no v) = absurd (v (begins c d kc kd same u).1)
    go (yes u) (yes v) =
        let low = (begins c d kc kd same u).0 in
        let high = (begins d c kd kc (flipped same) v).0 in
        let w = point_first c kc pen in
        let other : FirstDear d pen (begin_of c (count c pen)) =
        record {
          from = let f = w.from in omega arithℤ;
          cheap = λ k x y. let z = w.cheap k (omega arithℤ) y in (z.0, sym (same.each k) ∙ z.1, z.2);
          dear = λ p e. w.dear p (same.each (begin_of c (count c pen)) ∙ e);
        } in
        with_steps c pen u ∙ sym ((point_when d kd v pen (begin_of c (count c pen))).1 other)

-- ---- where it lies

module _ (c : Curve) (keeps : curve_keeps c ≡ true) (pen E : ℤ) (e : point_on c pen ≡ known E) where
  pub point_between : (c.start.0 ≤ℤ E) × (E ≤ℤ end_of c (c.n - 1))
  point_between =
      let u = has_steps c pen e in
      rw (point_is c pen e) (
        begins_rise c keeps 0 (count c pen) (omega arith) (few c keeps pen),
        begins_rise c keeps (count c pen) (suc (c.n - 1)) (let f = few c keeps pen in omega arith) (omega arith),
      )

  -- a step is taken where it and every step before it cost no more than `pen`
  pub cheap_taken : (j : ℕ) → j < c.n → ((i : ℕ) → i ≤ j → price_of c i ≤ℤ pen) → end_of c j ≤ℤ E
  cheap_taken j u cheap = rw (point_is c pen e) (begins_rise c keeps (suc j) (count c pen) (go (dec_lt j (count c pen))) (few c keeps pen))
    where
      go : Dec (j < count c pen) → suc j ≤ count c pen
      go (yes v) = omega arith
      go (no v) =
          let x = (these c pen).dear (omega arith) in
          let y = cheap (count c pen) (omega arith) in
          absurd (omega arithℤ)

  -- one that costs more is not, nor is any behind it
  pub dear_left : (j : ℕ) → j < c.n → pen <ℤ price_of c j → E ≤ℤ begin_of c j
  dear_left j u dear = rw (point_is c pen e) (begins_rise c keeps (count c pen) j (go (dec_lt j (count c pen))) (omega arith))
    where
      go : Dec (j < count c pen) → count c pen ≤ j
      go (yes v) = let x = (these c pen).cheap j (omega arith) v in absurd (omega arithℤ)
      go (no v) = omega arith
