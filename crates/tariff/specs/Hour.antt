-- The hour: its checks in their order, the contributions of its intervals, the reply, and the lent row.
use Rattle.std.specs.Prelude.{if◌then◌else◌, Bool, List, ℕ, get_or, ℤ, pos, ◌+ℤ◌, None}
use Rattle.tariff.specs.declared.Hour.{Hour}
use Rattle.tariff.specs.declared.Interval.{Interval}
use Rattle.tariff.specs.declared.Expected.{Expected}
use Rattle.tariff.specs.Units.{kw, price, move_price, seconds}
use Rattle.tariff.specs.Sheet.{ahead_in_range, interval_in_range}
use Rattle.tariff.specs.Curve.{Amount, known, none}
use Rattle.tariff.specs.Reply.{Reply, DERATE, REACH, POINT, Verdict}
use Rattle.tariff.specs.Checks.{Parts, form_of, range_of, order_of, curves_of, seconds_of, fault_of}
use Rattle.tariff.specs.Outcome.{Outcome, gives, stops, first_stop, amount, sum_by, reply_by, row_by}
use Rattle.tariff.specs.Eligible.{lags}
use Rattle.tariff.specs.Derate.{exceeds_room}
use Rattle.tariff.specs.Point.{point_of}
use Rattle.tariff.specs.Contributions.{energy_of, other_than_energy}

-- what stands past a record's intervals: zeros, or nothing given; RANGE would refuse its seconds
abbrev pub blank : Interval
blank =
    record {
      s = seconds (pos 0);
      en = kw (pos 0);
      ae = kw (pos 0);
      co = kw (pos 0);
      eop = None;
      pen = price (pos 0);
      lim = kw (pos 0);
      uol = None;
      r1 = kw (pos 0);
      r2 = kw (pos 0);
      r3 = kw (pos 0);
      p1 = price (pos 0);
      p2 = price (pos 0);
      p3 = price (pos 0);
      reg = kw (pos 0);
      preg = price (pos 0);
      breg = price (pos 0);
      mv = kw (pos 0);
      pmv = move_price (pos 0);
      bmv = move_price (pos 0);
    }

-- interval i, from 0
abbrev pub interval : Hour → ℕ → Interval
interval h i = get_or h.iv i blank

-- ---- checks 1 to 5, over the whole block

-- what they read of it
abbrev pub parts_of : Hour → Parts
parts_of h =
    record {
      hour = h.hour;
      ahead_in_range = ahead_in_range h.ahead;
      da = h.da;
      rt = h.rt;
      n = h.n;
      interval_in_range = λ i. interval_in_range (interval h i);
      seconds = λ i. (interval h i).s.0;
    }

abbrev pub form : Hour → Verdict
form h = form_of (parts_of h)

abbrev pub range : Hour → Expected → Verdict
range h = range_of (parts_of h)

abbrev pub order : Hour → Expected → Verdict
order h = order_of (parts_of h)

abbrev pub curves : Hour → Verdict
curves h = curves_of (parts_of h)

abbrev pub seconds_sum : Hour → Verdict
seconds_sum h = seconds_of (parts_of h)

-- ---- checks 10, 6 and 7, interval by interval, in this order in each

-- E, or POINT where an interval has none
abbrev pub or_point : Amount → (ℤ → Outcome) → Outcome
or_point (known E) outcome = outcome E
or_point none outcome = stops POINT

abbrev pub with_others : ℤ → Amount → Outcome
with_others others (known energy) = gives (energy +ℤ others)
with_others others none = stops REACH

-- a lagging interval contributes nothing and asks nothing
unfoldable pub outcome : Hour → Interval → Outcome
outcome h v =
    if lags v
    then gives (pos 0)
    else
    or_point (point_of h.rt v)
    (λ E.
    if exceeds_room h.ahead v
    then stops DERATE
    else with_others (other_than_energy h.ahead v) (energy_of h.da h.rt h.ahead v E))

-- an excluded hour's intervals contribute nothing and ask nothing
unfoldable pub outcome_at : Hour → Bool → ℕ → Outcome
outcome_at h is_excluded i = if is_excluded then gives (pos 0) else outcome h (interval h i)

-- ---- the hour: its first fault in its intervals, its contributions and their sum, the reply and the row

abbrev pub intervals : Hour → Bool → Verdict
intervals h is_excluded = first_stop (outcome_at h is_excluded) h.n

abbrev pub contribution : Hour → Bool → ℕ → ℤ
contribution h is_excluded i = amount (outcome_at h is_excluded i)

abbrev pub hour_sum : Hour → Bool → ℤ
hour_sum h is_excluded = sum_by (outcome_at h is_excluded) h.n

-- faults 1 to 5
abbrev pub block_fault : Hour → Expected → Verdict
block_fault h = fault_of (parts_of h)

abbrev pub reply : Hour → Bool → Expected → (room : ℕ) → Reply
reply h is_excluded expected = reply_by (block_fault h expected) (outcome_at h is_excluded) h.n

abbrev pub row_after : Hour → Bool → Expected → List ℤ → List ℤ
row_after h is_excluded expected = row_by (block_fault h expected) (outcome_at h is_excluded) h.n
