-- 25.3.5 worked by hand for an internal controllable line, in one table: both branches, the cap over the whole interval, both directions of the
-- integral, a line that withdraws at its injection bus, the hour's sum and cents, REACH where the cap would give 0, and an hour that is not marked.
use Rattle.std.specs.Prelude.{refl, Bool, true, false, List, [], ◌∷◌, ℕ, replicate, ℤ, pos, neg_ℤ}
use Rattle.exact.specs.Whole.{span, min_z, sum_to}
use Rattle.tariff.specs.declared.IclHour.{IclHour}
use Rattle.tariff.specs.declared.IclInterval.{IclInterval}
use Rattle.tariff.specs.declared.Curve.{Curve}
use Rattle.tariff.specs.declared.Expected.TheVariants.{Any}
use Rattle.tariff.specs.Units.{kw, price, seconds, cents_of}
use Rattle.tariff.specs.Sheet.{all_to, curve_in_range, curve_keeps}
use Rattle.tariff.specs.Curve.{quote_from, quote, sum_up, integral}
use Rattle.tariff.specs.Reply.{first_of}
use Rattle.tariff.specs.Checks.{form_in, range_in, order_in, curves_in, seconds_in}
use Rattle.tariff.specs.Outcome.{first_stop, sum_by, reply_by}
use Rattle.tariff.specs.Contributions.{energy_by}
use Rattle.tariff.specs.Controllable.{icl_ahead_in_range, icl_interval_in_range, blank_icl, icl_energy, icl_outcome_at, icl_reply}
use Rattle.figures.specs.Sample.{one_step, two_steps}
use Rattle.figures.specs.Table.{Row, Holds, done, ◌and◌, said, replied}

-- ---- an hour of a line: 600 kW day-ahead for injection and 620 for withdrawal, and four quarters

abbrev pub quarter : (en aei aew pin pout : ℤ) → IclInterval
quarter en aei aew pin pout = record { s = seconds (pos 900); en = kw en; aei = kw aei; aew = kw aew; pin = price pin; pout = price pout }

abbrev pub hour_of : (dasi dasw : ℤ) → (da rt : Curve) → (i₁ i₂ i₃ i₄ : IclInterval) → IclHour
hour_of dasi dasw da rt i₁ i₂ i₃ i₄ =
    record { hour = pos 14; dasi = kw dasi; dasw = kw dasw; da = da; rt = rt; n = 4; iv = i₁ ∷ i₂ ∷ i₃ ∷ i₄ ∷ replicate 26 blank_icl }

abbrev pub line : (i₁ i₂ i₃ i₄ : IclInterval) → IclHour
line = hour_of (pos 600) (pos 620) (two_steps (pos 400) (pos 500) (pos 800) (pos 1500)) (two_steps (pos 400) (pos 600) (pos 800) (pos 1800))

-- scheduled down and injecting less: 300 × 4000 - 310 × 2500 = 425,000, less 100 × 500 + 200 × 1500 on the day-ahead curve
abbrev pub lowered : IclInterval
lowered = quarter (pos 300) (pos 300) (pos 310) (pos 4000) (pos 2500)

-- scheduled down, but injecting more: -100 × 2000 + 100 × 2000 = 0, less -(100 × 1500), since the integral from 700 to 600 goes downward
abbrev pub overrun : IclInterval
overrun = quarter (pos 500) (pos 700) (pos 720) (pos 2000) (pos 2000)

-- scheduled up: -100 × 1000 + 100 × 1200 = 20,000, and 100 × 1800 on the real-time curve: a gain, which the cap takes whole
abbrev pub gaining : IclInterval
gaining = quarter (pos 700) (pos 700) (pos 720) (pos 1000) (pos 1200)

-- at its schedule, which is the other branch: -100 × 3000 + 90 × 1000 = -210,000, and 180,000 on the real-time curve
abbrev pub losing : IclInterval
losing = quarter (pos 600) (pos 700) (pos 710) (pos 3000) (pos 1000)

-- scheduled up, but injecting less: 100 × 1500 - 100 × 1000 = 50,000, and -(100 × 1800): the integral from 600 to 500 goes downward
abbrev pub short : IclInterval
short = quarter (pos 650) (pos 500) (pos 520) (pos 1500) (pos 1000)

-- one kilowatt past the real-time curve's end, in an interval whose gain the cap would take
abbrev pub past : IclInterval
past = quarter (pos 700) (pos 801) (pos 620) (neg_ℤ (pos 1000)) (pos 0)

-- a line that withdraws at its injection bus: 100 × 1000 - 105 × 800 = 16,000, less 100 × 1500
abbrev pub withdrawing : IclHour
withdrawing =
    let v = quarter (neg_ℤ (pos 500)) (neg_ℤ (pos 500)) (neg_ℤ (pos 525)) (pos 1000) (pos 800) in
    hour_of (neg_ℤ (pos 400)) (neg_ℤ (pos 420)) (one_step (neg_ℤ (pos 500)) (pos 0) (pos 1500)) (one_step (neg_ℤ (pos 500)) (pos 0) (pos 1500)) v v v v

abbrev at : IclHour → ℕ → List ℤ
at h i = said (icl_outcome_at h false i)

abbrev whole : IclHour → (is_excluded : Bool) → List ℤ
whole h is_excluded = replied (icl_reply h is_excluded Any 30)

-- ---- the table: the figure's number, what the definitions compute, and what comes out by hand

infix 1 L◌is◌by_hand◌
abbrev L◌is◌by_hand◌ : ℕ → List ℤ → List ℤ → Row
L figure is computed by_hand worked = record { figure = figure; computed = computed; printed = worked }

abbrev pub icl_figures : List Row
icl_figures =
    (L 1 is at (line lowered overrun gaining losing) 0 by_hand (pos 0 ∷ pos 67500000 ∷ []))
    ∷ (L 2 is at (line lowered overrun gaining losing) 1 by_hand (pos 0 ∷ pos 135000000 ∷ []))
    ∷ (L 3 is at (line lowered overrun gaining losing) 2 by_hand (pos 0 ∷ pos 0 ∷ []))
    ∷ (L 4 is at (line lowered overrun gaining losing) 3 by_hand (pos 0 ∷ neg_ℤ (pos 27000000) ∷ []))
    ∷ (L 5 is at (line short short short short) 0 by_hand (pos 0 ∷ neg_ℤ (pos 117000000) ∷ []))
    ∷ (L 6 is at withdrawing 0 by_hand (pos 0 ∷ neg_ℤ (pos 120600000) ∷ []))
    ∷ (L 7 is whole (line lowered overrun gaining losing) false by_hand (pos 0 ∷ pos 175500000 ∷ pos 49 ∷ []))
    ∷ (L 8 is whole (line lowered gaining losing short) false by_hand (pos 0 ∷ neg_ℤ (pos 76500000) ∷ pos 0 ∷ []))
    ∷ (L 9 is whole (line lowered gaining past losing) false by_hand (pos 7 ∷ pos 3 ∷ []))
    ∷ (L 10 is whole (line lowered gaining past losing) true by_hand (pos 0 ∷ pos 0 ∷ pos 0 ∷ []))
    ∷ []

pub icl_figures_hold : Holds icl_figures
unfolding
    icl_outcome_at icl_energy energy_by min_z integral span sum_up quote quote_from cents_of
    reply_by form_in range_in icl_ahead_in_range curve_in_range icl_interval_in_range all_to first_of order_in curves_in curve_keeps seconds_in sum_to sum_by first_stop
icl_figures_hold = refl and refl and refl and refl and refl and refl and refl and refl and refl and refl and done
