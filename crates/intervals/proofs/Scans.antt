-- The scan inside the walk: all that is known at step j as one record, and each way of a turn as one law on it.
use mathlib.Core.Path.{◌≡◌, sym, ap, ◌∙◌}
use mathlib.Core.Bool.{Bool, true, false, false≢true}
use Prim.Native.Nat.{ℕ, ◌+◌, ◌<◌, ◌≤◌}
use native.Mathlib.Omega.{arith}
use lib.IntN.{ℤ, pos, ◌+ℤ◌, ◌-ℤ◌, ◌*ℤ◌}
use lib.Signed.{lt_z}
use Rattle.std.specs.Prelude.{if◌then◌else◌}
use Rattle.exact.specs.Whole.{min_z, span, Within}
use Rattle.exact.proofs.Parts.{arithℤ, by_test, min_parts}
use Rattle.exact.proofs.Ring.{*-assoc}
use Rattle.exact.proofs.Order.{span_some, span_none, lt_flip, min_of, min_of'}
use Rattle.exact.proofs.Range.{within_more, within_mul, within_span, within_zero}
use Rattle.tariff.specs.declared.Curve.{Curve}
use Rattle.tariff.specs.declared.Grains.{Grains}
use Rattle.tariff.specs.declared.Kw.{Kw}
use Rattle.tariff.specs.Units.{kw, grains, grains_of}
use Rattle.tariff.specs.Sheet.{end_of, price_of}
use Rattle.tariff.specs.Curve.{known, none}
use Rattle.tariff.proofs.Ranges.{CurveFits}
use Rattle.tariff.proofs.Scan.{Going, timed, begin, past, goes_on, reaches, grown, ends_short, from_start, below_start, no_kilowatt}
use Rattle.intervals.specs.declared.steps.Run.{Run}
use Rattle.intervals.specs.Task.{run_on, cost_up}

-- the curve and the stretch from low up to high
pub record Stretch (c : Curve) (low high s : ℤ) : Type 0 where
  pub few : c.n ≤ 12
  pub fits : CurveFits c
  pub lowest : Within 2000000 low
  pub highest : Within 2000000 high
  pub seconds : Within 900 s
  pub up : lt_z low high ≡ true
  pub started : lt_z low c.start.0 ≡ false

pub record Scanning (c : Curve) (low high s : ℤ) (run : Run) (j : ℕ) : Type 0 where
  pub stretch : Stretch c low high s
  pub place : Within 2000000 run.at.0
  pub going : Going (end_of c) (timed c s) c.n 900000000 low high run.at.0 run.cost.0 j

-- what the stretch costs, and how large that can be
pub record Priced (c : Curve) (low high s cost : ℤ) : Type 0 where
  pub amount : cost_up c low high s ≡ known cost
  pub size : Within 4000000000000000 cost

pub min_swap : (a b : ℤ) {z : ℤ} → z ≡ min_z a b → z ≡ min_z b a
min_swap a b e = e ∙ omega (arithℤ, min_parts a b, min_parts b a)

-- the run goes on, by what it goes up to and what it then costs
pub runs_on : (run : Run) (high e p s : ℤ) → lt_z run.at.0 e ≡ true → {up : Kw} → up.0 ≡ min_z e high → {cost : Grains}
    → cost.0 ≡ run.cost.0 +ℤ grains_of (up.0 -ℤ run.at.0) p s
    → record { at = up; cost = cost } ≡ run_on run high e p s
runs_on run high e p s h u q =
    rw h
    (λ i. record { at = kw (u i); cost = grains ((q ∙ ap (λ (z : ℤ). run.cost.0 +ℤ grains_of (z -ℤ run.at.0) p s) u) i) })

pub scan_begins : {c : Curve} {high s : ℤ} {run : Run} → Stretch c run.at.0 high s → run.cost.0 ≡ pos 0 → Scanning c run.at.0 high s run 0
scan_begins {c} {high} {s} {run} t e =
    record { stretch = t; place = t.lowest; going = rw e (begin (end_of c) (timed c s) c.n 900000000 run.at.0 high t.up) }

-- a run at one price, in grains
in_grains : (cost e x p s : ℤ) → cost +ℤ grains_of (e -ℤ x) p s ≡ cost +ℤ (e -ℤ x) *ℤ (p *ℤ s)
in_grains cost e x p s = ap (λ (z : ℤ). cost +ℤ z) (*-assoc (e -ℤ x) p s)

module _ {c : Curve} {low high s : ℤ} {run : Run} {j : ℕ} (o : Scanning c low high s run j) where
  pub scan_short : c.n ≤ j → cost_up c low high s ≡ none
  unfolding cost_up
  scan_short h =
      from_start c low (span low high) s o.stretch.started
      ∙ ends_short (end_of c) (timed c s) c.n 900000000 low high o.stretch.up run.at.0 run.cost.0 j o.going h

  module _ (more : j < c.n) where
    -- what a turn adds up stays small
    pub turn_within : Within 4000000000000000 run.cost.0 × Within 2000000 run.at.0 × Within 2000000 high × Within 2000000 (end_of c j)
        × Within 1000000 (price_of c j) × Within 900 s
    turn_within =
        let d : span low run.at.0 ≤ 4000000 = within_span o.stretch.lowest o.place in (
          within_more (omega arith) o.going.size,
          o.place,
          o.stretch.highest,
          o.stretch.fits.ends j more,
          o.stretch.fits.prices j more,
          o.stretch.seconds,
        )

    timed_within : Within 900000000 (timed c s j)
    timed_within = within_mul (o.stretch.fits.prices j more) o.stretch.seconds

    -- the run up to e at this step's price
    up_to : ℤ → Run
    up_to e = record { at = kw e; cost = grains (run.cost.0 +ℤ grains_of (e -ℤ run.at.0) (price_of c j) s) }

    module _ (below : lt_z run.at.0 (end_of c j) ≡ true) where
      to_end : lt_z (end_of c j) high ≡ true → Scanning c low high s (up_to (end_of c j)) (j + 1)
      unfolding up_to
      to_end eb =
          record {
            stretch = o.stretch;
            place = o.stretch.fits.ends j more;
            going =
                goes_on (end_of c) (timed c s) c.n 900000000 low high o.stretch.up run.at.0 run.cost.0 j o.going more _ below eb timed_within
                (in_grains run.cost.0 (end_of c j) run.at.0 (price_of c j) s);
          }

      to_high : lt_z (end_of c j) high ≡ false → Priced c low high s (up_to high).cost.0
      unfolding cost_up up_to
      to_high eb =
          let added = in_grains run.cost.0 high run.at.0 (price_of c j) s in
          let d : span low high ≤ 4000000 = within_span o.stretch.lowest o.stretch.highest in
          record {
            amount =
                from_start c low (span low high) s o.stretch.started
                ∙ reaches (end_of c) (timed c s) c.n 900000000 low high o.stretch.up run.at.0 run.cost.0 j o.going more _ below eb added;
            size =
                within_more (omega arith)
                (grown (end_of c) (timed c s) c.n 900000000 low high o.stretch.up run.at.0 run.cost.0 j o.going more high _
                o.going.ahead timed_within added);
          }

    -- the step ends at or below the run
    beyond : lt_z run.at.0 (end_of c j) ≡ false → Scanning c low high s run (j + 1)
    beyond h =
        record {
          stretch = o.stretch;
          place = o.place;
          going = past (end_of c) (timed c s) c.n 900000000 low high o.stretch.up run.at.0 run.cost.0 j o.going more h;
        }

    -- a turn: the scan goes on below `high`, and at `high` the stretch is priced
    record Turned (r : Run) : Type 0 where
      onward : lt_z r.at.0 high ≡ true → Scanning c low high s r (j + 1)
      priced : lt_z r.at.0 high ≡ false → Priced c low high s r.cost.0

    turns : Turned (run_on run high (end_of c j) (price_of c j) s)
    unfolding up_to
    turns =
        by_test (lt_z run.at.0 (end_of c j))
        (λ t. Turned (if t then up_to (min_z (end_of c j) high) else run))
        (λ below.
        by_test (lt_z (end_of c j) high)
        (λ _. Turned (up_to (min_z (end_of c j) high)))
        (λ eb. rw (min_of (end_of c j) high (lt_flip (end_of c j) high eb)) (record { onward = λ _. to_end below eb; priced = λ not. never eb not }))
        (λ eb. rw (min_of' (end_of c j) high eb) (record { onward = λ up. absurd (omega arithℤ); priced = λ _. to_high below eb })))
        (λ past. record { onward = λ _. beyond past; priced = λ not. never o.going.ahead not })
      where
        never : {A : Type 0} {t : Bool} → t ≡ true → t ≡ false → A
        never is not = absurd (false≢true (sym not ∙ is))

    module _ {r : Run} (e : r ≡ run_on run high (end_of c j) (price_of c j) s) where
      pub scan_goes_on : lt_z r.at.0 high ≡ true → Scanning c low high s r (j + 1)
      scan_goes_on = rw e turns.onward

      pub scan_reaches : {q : Run} → q ≡ r → lt_z r.at.0 high ≡ false → Priced c low high s q.cost.0
      scan_reaches p = rw (p, e) turns.priced

-- ---- where nothing is scanned

pub cost_nothing : {c : Curve} {low high s cost : ℤ} → lt_z low high ≡ false → cost ≡ pos 0 → Priced c low high s cost
unfolding cost_up
cost_nothing {c} {low} {high} {s} h e =
    rw e record { amount = no_kilowatt c low (span low high) s (span_none low high h); size = within_zero 4000000000000000 }

pub cost_before : (c : Curve) (low high s : ℤ) → lt_z low high ≡ true → lt_z low c.start.0 ≡ true → cost_up c low high s ≡ none
unfolding cost_up
cost_before c low high s h k = below_start c low (span low high) s k (span_some low high h)
