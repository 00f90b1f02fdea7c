-- What the range tests say: how far each number is from 0, for sums and products that must fit.
use mathlib.Core.Path.{◌≡◌}
use mathlib.Core.Bool.{true, ◌&&◌, and-eq-true_iff}
use Prim.Native.Nat.{ℕ, ◌+◌, ◌<◌, ◌≤◌}
use native.Mathlib.Omega.{arith}
use lib.Dec.{leb}
use borrow.Author.Tests.{leb-true}
use lib.IntN.{ℤ, pos, neg_ℤ}
use lib.Signed.{◌≤ℤ◌, le_z}
use Rattle.exact.specs.Whole.{under, Within}
use Rattle.exact.proofs.Parts.{arithℤ, apart}
use Rattle.tariff.specs.declared.Kw.{Kw}
use Rattle.tariff.specs.declared.Curve.{Curve}
use Rattle.tariff.specs.declared.DayAhead.{DayAhead}
use Rattle.tariff.specs.declared.Interval.{Interval}
use Rattle.tariff.specs.declared.IclInterval.{IclInterval}
use Rattle.tariff.specs.declared.Expected.{Expected}
use Rattle.tariff.specs.Sheet.{lies_in, is_seconds, is_hour, is_power, is_capacity, is_bid, is_price, end_of, price_of, all_to, ahead_in_range, step_in_range, curve_in_range, uol_in_range, eop_in_range, interval_in_range}
use Rattle.tariff.specs.Reply.{FORM, RANGE, Verdict, clear, unless, ◌then◌, first_of}
use Rattle.tariff.specs.Controllable.{icl_ahead_in_range, icl_interval_in_range}
use Rattle.tariff.specs.Checks.{form_in, range_in, Parts, hours_around, form_of, range_of}
use Rattle.tariff.proofs.Checks.{then_clear, unless_clear, first_clear}
use Rattle.tariff.proofs.Tests.{and_left, and_right, and_both, all_at}

-- ---- one number

module _ (low : ℤ) (N : ℕ) {z : ℤ} (e : lies_in low (pos N) z ≡ true) where
  at_least : low ≤ℤ z
  at_least = omega (arithℤ, and_left (le_z low z) (le_z z (pos N)) e)

  lies_within : under low ≤ N → Within N z
  lies_within h = omega (arithℤ, apart z, and_left (le_z low z) (le_z z (pos N)) e, and_right (le_z low z) (le_z z (pos N)) e)

pub power_within : {z : ℤ} → is_power z ≡ true → Within 2000000 z
power_within e = lies_within (neg_ℤ (pos 2000000)) 2000000 e (omega arith)

pub capacity_within : {z : ℤ} → is_capacity z ≡ true → Within 2000000 z
capacity_within e = lies_within (pos 0) 2000000 e (omega arith)

pub capacity_least : {z : ℤ} → is_capacity z ≡ true → pos 0 ≤ℤ z
capacity_least e = at_least (pos 0) 2000000 e

pub price_within : {z : ℤ} → is_price z ≡ true → Within 1000000 z
price_within e = lies_within (neg_ℤ (pos 1000000)) 1000000 e (omega arith)

pub bid_within : {z : ℤ} → is_bid z ≡ true → Within 1000000 z
bid_within e = lies_within (pos 0) 1000000 e (omega arith)

pub seconds_within : {z : ℤ} → is_seconds z ≡ true → Within 900 z
seconds_within e = lies_within (pos 1) 900 e (omega arith)

-- ---- line 1

pub record AheadFits (a : DayAhead) : Type 0 where
  pub en : Within 2000000 a.en.0
  pub reg : Within 2000000 a.reg.0
  pub r1 : Within 2000000 a.r1.0
  pub r2 : Within 2000000 a.r2.0
  pub r3 : Within 2000000 a.r3.0
  pub breg : Within 1000000 a.breg.0
  pub b1 : Within 1000000 a.b1.0
  pub b2 : Within 1000000 a.b2.0
  pub b3 : Within 1000000 a.b3.0

pub ahead_fits : (a : DayAhead) → ahead_in_range a ≡ true → AheadFits a
unfolding ahead_in_range
ahead_fits a e = let h = simp and-eq-true_iff at e in search (power_within, capacity_within, bid_within, and_both)

-- ---- an interval line

pub record IntervalFits (v : Interval) : Type 0 where
  pub s : Within 900 v.s.0
  pub en : Within 2000000 v.en.0
  pub ae : Within 2000000 v.ae.0
  pub co : Within 2000000 v.co.0
  pub pen : Within 1000000 v.pen.0
  pub lim : Within 2000000 v.lim.0
  pub r1 : Within 2000000 v.r1.0
  pub r2 : Within 2000000 v.r2.0
  pub r3 : Within 2000000 v.r3.0
  pub p1 : Within 1000000 v.p1.0
  pub p2 : Within 1000000 v.p2.0
  pub p3 : Within 1000000 v.p3.0
  pub reg : Within 2000000 v.reg.0
  pub preg : Within 1000000 v.preg.0
  pub breg : Within 1000000 v.breg.0
  pub mv : Within 2000000 v.mv.0
  pub pmv : Within 1000000 v.pmv.0
  pub bmv : Within 1000000 v.bmv.0

pub interval_fits : (v : Interval) → interval_in_range v ≡ true → IntervalFits v
unfolding interval_in_range
interval_fits v e =
    let h = simp and-eq-true_iff at e in
    search (seconds_within, power_within, capacity_within, price_within, bid_within, and_both)

pub uol_fits : (v : Interval) → interval_in_range v ≡ true → uol_in_range v.uol ≡ true
unfolding interval_in_range
uol_fits v e = let h = simp and-eq-true_iff at e in search h

pub eop_fits : (v : Interval) → interval_in_range v ≡ true → eop_in_range v.eop ≡ true
unfolding interval_in_range
eop_fits v e = let h = simp and-eq-true_iff at e in search h

-- ---- an internal controllable line's

pub record IclIntervalFits (v : IclInterval) : Type 0 where
  pub s : Within 900 v.s.0
  pub en : Within 2000000 v.en.0
  pub aei : Within 2000000 v.aei.0
  pub aew : Within 2000000 v.aew.0
  pub pin : Within 1000000 v.pin.0
  pub pout : Within 1000000 v.pout.0

pub icl_interval_fits : (v : IclInterval) → icl_interval_in_range v ≡ true → IclIntervalFits v
unfolding icl_interval_in_range
icl_interval_fits v e = let h = simp and-eq-true_iff at e in search (seconds_within, power_within, price_within, and_both)

pub icl_ahead_fits : (dasi dasw : Kw) → icl_ahead_in_range dasi dasw ≡ true → Within 2000000 dasi.0 × Within 2000000 dasw.0
unfolding icl_ahead_in_range
icl_ahead_fits dasi dasw e =
    (power_within (and_left (is_power dasi.0) (is_power dasw.0) e), power_within (and_right (is_power dasi.0) (is_power dasw.0) e))

-- ---- a curve

pub record CurveFits (c : Curve) : Type 0 where
  pub start : Within 2000000 c.start.0
  pub ends : (j : ℕ) → j < c.n → Within 2000000 (end_of c j)
  pub prices : (j : ℕ) → j < c.n → Within 1000000 (price_of c j)

module _ (c : Curve) (e : curve_in_range c ≡ true) where
  start_test : is_power c.start.0 ≡ true
  unfolding curve_in_range
  start_test = and_left (is_power c.start.0) (all_to (step_in_range c) c.n) e

  steps_test : all_to (step_in_range c) c.n ≡ true
  unfolding curve_in_range
  steps_test = and_right (is_power c.start.0) (all_to (step_in_range c) c.n) e

  step_test : (j : ℕ) → j < c.n → step_in_range c j ≡ true
  step_test j u = all_at (step_in_range c) c.n j steps_test u

  pub curve_fits : CurveFits c
  curve_fits =
      record {
        start = power_within start_test;
        ends = λ j u. power_within (and_left (is_power (end_of c j)) (is_price (price_of c j)) (step_test j u));
        prices = λ j u. price_within (and_right (is_power (end_of c j)) (is_price (price_of c j)) (step_test j u));
      }

-- ---- checks 1 and 2, where they find nothing

pub form_says : (p : Parts) → form_of p ≡ clear → (p.da.n ≤ 12) × (p.rt.n ≤ 12) × (p.n ≤ 30)
unfolding form_in
form_says b e =
    let da : Verdict = unless (leb b.da.n 12) FORM 2 in
    let rt : Verdict = unless (leb b.rt.n 12) FORM 3 in
    let n : Verdict = unless (leb b.n 30) FORM 34 in
    let p = then_clear da (rt then n) e in
    let q = then_clear rt n p.1 in
    (leb-true _ _ (unless_clear _ FORM 2 p.0), leb-true _ _ (unless_clear _ FORM 3 q.0), leb-true _ _ (unless_clear _ FORM 34 q.1))

pub range_says : (p : Parts) (expected : Expected) → range_of p expected ≡ clear
    → (is_hour (hours_around expected) p.hour ≡ true)
    × (p.ahead_in_range ≡ true)
    × (curve_in_range p.da ≡ true)
    × (curve_in_range p.rt ≡ true)
    × ((i : ℕ) → i < p.n → p.interval_in_range i ≡ true)
unfolding range_in
range_says b expected e =
    let first = is_hour (hours_around expected) b.hour && b.ahead_in_range in
    let each : ℕ → Verdict = λ i. unless (b.interval_in_range i) RANGE (i + 4) in
    let p = then_clear (unless first RANGE 1) (unless (curve_in_range b.da) RANGE 2 then unless (curve_in_range b.rt) RANGE 3 then first_of each b.n) e in
    let q = then_clear (unless (curve_in_range b.da) RANGE 2) (unless (curve_in_range b.rt) RANGE 3 then first_of each b.n) p.1 in
    let r = then_clear (unless (curve_in_range b.rt) RANGE 3) (first_of each b.n) q.1 in
    let line1 = unless_clear first RANGE 1 p.0 in (
      and_left (is_hour (hours_around expected) b.hour) b.ahead_in_range line1,
      and_right (is_hour (hours_around expected) b.hour) b.ahead_in_range line1,
      unless_clear _ RANGE 2 q.0,
      unless_clear _ RANGE 3 r.0,
      λ i u. unless_clear _ RANGE (i + 4) (first_clear each b.n r.1 i u),
    )
