-- 25.3.5, "Formula for Day-Ahead Margin Assurance Payments for Internal Controllable Lines", as request 3 of document 02 has it. An internal
-- controllable line (ICL) injects at one bus and withdraws at another. DASI and DASW are its day-ahead schedules there, AEI and AEW what an
-- interval had, LBMPI and LBMPW the prices. Neither 25.2.2 nor 25.4 nor 25.5 applies to it.
use Rattle.std.specs.Prelude.{if◌then◌else◌, Bool, ◌&&◌, List, ℕ, get_or, ℤ, pos, ◌+ℤ◌, ◌-ℤ◌, ◌*ℤ◌}
use Rattle.std.specs.Int.Signed.{lt_z}
use Rattle.exact.specs.Whole.{min_z}
use Rattle.tariff.specs.declared.Kw.{Kw}
use Rattle.tariff.specs.declared.IclHour.{IclHour}
use Rattle.tariff.specs.declared.IclInterval.{IclInterval}
use Rattle.tariff.specs.declared.Expected.{Expected}
use Rattle.tariff.specs.Units.{kw, price, seconds}
use Rattle.tariff.specs.Sheet.{is_seconds, is_power, is_price}
use Rattle.tariff.specs.Curve.{Amount}
use Rattle.tariff.specs.Reply.{Reply, Verdict}
use Rattle.tariff.specs.Checks.{Parts, fault_of}
use Rattle.tariff.specs.Outcome.{Outcome, gives, or_reach, first_stop, amount, reply_by, row_by}
use Rattle.tariff.specs.Contributions.{energy_by}

-- ---- ranges: the four energies and the real-time schedule as energy, prices as all other prices

unfoldable pub icl_ahead_in_range : (dasi dasw : Kw) → Bool
icl_ahead_in_range dasi dasw = is_power dasi.0 && is_power dasw.0

unfoldable pub icl_interval_in_range : IclInterval → Bool
icl_interval_in_range v =
    is_seconds v.s.0 && (is_power v.en.0 && is_power v.aei.0 && is_power v.aew.0) && (is_price v.pin.0 && is_price v.pout.0)

-- ---- checks 1 to 5, over the whole block

-- what stands past a record's intervals: zeros
abbrev pub blank_icl : IclInterval
blank_icl = record { s = seconds (pos 0); en = kw (pos 0); aei = kw (pos 0); aew = kw (pos 0); pin = price (pos 0); pout = price (pos 0) }

-- interval i, from 0
abbrev pub icl_interval : IclHour → ℕ → IclInterval
icl_interval h i = get_or h.iv i blank_icl

-- what they read of it
abbrev pub icl_parts : IclHour → Parts
icl_parts h =
    record {
      hour = h.hour;
      ahead_in_range = icl_ahead_in_range h.dasi h.dasw;
      da = h.da;
      rt = h.rt;
      n = h.n;
      interval_in_range = λ i. icl_interval_in_range (icl_interval h i);
      seconds = λ i. (icl_interval h i).s.0;
    }

abbrev pub icl_fault : IclHour → Expected → Verdict
icl_fault h = fault_of (icl_parts h)

-- ---- an interval: the branch by its real-time schedule, and what that makes of the curve's cost

-- the real-time energy schedule is lower than the day-ahead one
abbrev pub icl_is_lower : (dasi : Kw) → IclInterval → Bool
icl_is_lower dasi v = lt_z v.en.0 dasi.0

-- (DASI - AEI) × LBMPI - (DASW - AEW) × LBMPW
abbrev pub icl_margin : (dasi dasw : Kw) → IclInterval → ℤ
icl_margin dasi dasw v = (dasi.0 -ℤ v.aei.0) *ℤ v.pin.0 -ℤ (dasw.0 -ℤ v.aew.0) *ℤ v.pout.0

-- less what the day-ahead curve costs from AEI to DASI
abbrev pub icl_lower_grains : (dasi dasw : Kw) → IclInterval → ℤ → ℤ
icl_lower_grains dasi dasw v cost = (icl_margin dasi dasw v -ℤ cost) *ℤ v.s.0

-- with what the real-time curve costs from DASI to AEI; the whole of it is capped at 0
abbrev pub icl_upper_grains : (dasi dasw : Kw) → IclInterval → ℤ → ℤ
icl_upper_grains dasi dasw v cost = min_z ((icl_margin dasi dasw v +ℤ cost) *ℤ v.s.0) (pos 0)

unfoldable pub icl_energy : IclHour → IclInterval → Amount
icl_energy h v =
    energy_by (icl_is_lower h.dasi v) h.da h.rt h.dasi.0 v.aei.0
    (icl_lower_grains h.dasi h.dasw v)
    (icl_upper_grains h.dasi h.dasw v)

-- ---- the hour: check 7 goes interval by interval, and an hour that is not marked contributes and asks nothing

unfoldable pub icl_outcome_at : IclHour → (is_excluded : Bool) → ℕ → Outcome
icl_outcome_at h is_excluded i = if is_excluded then gives (pos 0) else or_reach (icl_energy h (icl_interval h i))

abbrev pub icl_intervals : IclHour → Bool → Verdict
icl_intervals h is_excluded = first_stop (icl_outcome_at h is_excluded) h.n

abbrev pub icl_contribution : IclHour → Bool → ℕ → ℤ
icl_contribution h is_excluded i = amount (icl_outcome_at h is_excluded i)

abbrev pub icl_reply : IclHour → Bool → Expected → (room : ℕ) → Reply
icl_reply h is_excluded expected = reply_by (icl_fault h expected) (icl_outcome_at h is_excluded) h.n

abbrev pub icl_row_after : IclHour → Bool → Expected → List ℤ → List ℤ
icl_row_after h is_excluded expected = row_by (icl_fault h expected) (icl_outcome_at h is_excluded) h.n
