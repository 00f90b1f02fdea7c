-- What an interval asks of the walk: a stretch of one curve to price, and what to make of its cost.
use Rattle.std.specs.Prelude.{if◌then◌else◌, ◌≡◌, Bool, true, List, ℕ, ◌+◌, ◌<◌, ◌≤◌, length, get_or, ℤ, pos, ◌+ℤ◌, ◌-ℤ◌, ◌*ℤ◌, Err, Ok}
use Rattle.std.specs.Int.Signed.{lt_z}
use Rattle.exact.specs.Whole.{min_z, max_z, span, Within}
use Rattle.tariff.specs.declared.Check.{Check}
use Rattle.tariff.specs.declared.Check.TheVariants.{Derate, Point}
use Rattle.tariff.specs.declared.Curve.{Curve}
use Rattle.tariff.specs.declared.DayAhead.{DayAhead}
use Rattle.tariff.specs.declared.Hour.{Hour}
use Rattle.tariff.specs.declared.IclHour.{IclHour}
use Rattle.tariff.specs.declared.Interval.{Interval}
use Rattle.tariff.specs.Units.{kw, grains, grains_of}
use Rattle.tariff.specs.Curve.{Amount, known, none, change, quote, sum_up}
use Rattle.tariff.specs.Eligible.{lags}
use Rattle.tariff.specs.Derate.{exceeds_room, reduced}
use Rattle.tariff.specs.Point.{point_of}
use Rattle.tariff.specs.Contributions.{curve_in, lower_in, limit_in, other_than_energy}
use Rattle.tariff.specs.Sheet.{curve_in_range}
use Rattle.tariff.specs.Reply.{REACH, number_of, place_of, Found}
use Rattle.tariff.specs.Hour.{interval}
use Rattle.tariff.specs.Controllable.{icl_interval}
use Rattle.tariff.specs.Outcome.{Outcome, gives, stops}
use Rattle.tasks.specs.declared.Task.{Task}
use Rattle.tasks.specs.Task.{idle_task, icl_task_of}
use Rattle.intervals.specs.declared.steps.Run.{Run}

-- a generator counts nothing beside its energy inside the cap
abbrev pub ready_task : DayAhead → Interval → (E : ℤ) → Task
ready_task a v E =
    record {
      stop = Ok tt;
      lower = lower_in a v;
      from = kw (reduced a v 0);
      limit = kw (limit_in a v E);
      pen = v.pen;
      s = v.s;
      beside = grains (pos 0);
      others = grains (other_than_energy a v);
    }

-- an interval whose reduction exceeds the room is stopped at its place
unfoldable pub derated_task : DayAhead → Interval → (place : ℕ) → (E : ℤ) → Task
derated_task a v place E = if exceeds_room a v then idle_task (Err (Derate place)) else ready_task a v E

-- so is one without an operating point, before that
abbrev pub pointed_task : (place : ℕ) → Amount → (ℤ → Task) → Task
pointed_task place (known E) task = task E
pointed_task place none task = idle_task (Err (Point place))

-- a lagging interval asks nothing
unfoldable pub task_of : (rt : Curve) → DayAhead → Interval → (place : ℕ) → Task
task_of rt a v place = if lags v then idle_task (Ok tt) else pointed_task place (point_of rt v) (derated_task a v place)

-- task i, from 0
abbrev pub task_at : List Task → ℕ → Task
task_at tasks i = get_or tasks i (idle_task (Ok tt))

-- what interval i of an hour asks, from 0: of an excluded hour nothing
abbrev pub asked : Hour → Bool → ℕ → Task
asked h is_excluded i = if is_excluded then idle_task (Ok tt) else task_of h.rt h.ahead (interval h i) (i + 1)

-- and of an internal controllable line's
abbrev pub icl_asked : IclHour → Bool → ℕ → Task
icl_asked h is_excluded i = if is_excluded then idle_task (Ok tt) else icl_task_of h.dasi h.dasw (icl_interval h i)

-- the first n tasks
pub record TasksOf (task : ℕ → Task) (n : ℕ) (tasks : List Task) : Type 0 where
  pub long : length tasks ≡ 30
  pub each : (i : ℕ) → i < n → task_at tasks i ≡ task i

-- the stretch of a task, upward
abbrev pub low_of : Task → ℤ
low_of t = min_z t.from.0 t.limit.0

abbrev pub high_of : Task → ℤ
high_of t = max_z t.from.0 t.limit.0

-- the stretch as it is scanned, upward: from its lowest kilowatt on, and on at a step's price p to its end e, or to `high` where that
-- comes first
abbrev pub run_from : Task → Run
run_from t = record { at = kw (low_of t); cost = grains (pos 0) }

abbrev pub run_on : Run → (high e p s : ℤ) → Run
run_on run high e p s =
    if lt_z run.at.0 e
    then record { at = kw (min_z e high); cost = grains (run.cost.0 +ℤ grains_of (min_z e high -ℤ run.at.0) p s) }
    else run

-- the cost of the stretch in grains, upward, for the task's seconds
unfoldable pub cost_up : Curve → (low high s : ℤ) → Amount
cost_up c low high s = change (λ z. z *ℤ s) (sum_up (quote c) low (span low high))

-- the cost from D to the limit, with its sign
abbrev pub signed_cost : Task → ℤ → ℤ
signed_cost t cost = if lt_z t.limit.0 t.from.0 then pos 0 -ℤ cost else cost

-- (D - limit) × pen × s, the cost from D to the limit, and what is counted beside them; an upper branch takes only a loss
abbrev pub energy_part : Task → ℤ → ℤ
energy_part t cost = grains_of (t.from.0 -ℤ t.limit.0) t.pen.0 t.s.0 +ℤ signed_cost t cost +ℤ t.beside.0

unfoldable pub finished : Task → ℤ → ℤ
finished t cost = (if t.lower then energy_part t cost else min_z (energy_part t cost) (pos 0)) +ℤ t.others.0

abbrev pub of_cost : Task → Amount → Outcome
of_cost t (known cost) = gives (finished t cost)
of_cost t none = stops REACH

-- a task that a check stops is not priced
abbrev pub unless_stopped : Found → Outcome → Outcome
unless_stopped (Ok tt) outcome = outcome
unless_stopped (Err check) outcome = stops (number_of check)

abbrev pub of_task : (da rt : Curve) → Task → Outcome
of_task da rt t = unless_stopped t.stop (of_cost t (cost_up (curve_in t.lower da rt) (low_of t) (high_of t) t.s.0))

abbrev pub outcomes_of : (da rt : Curve) → List Task → ℕ → Outcome
outcomes_of da rt tasks i = of_task da rt (task_at tasks i)

-- what a task's figures keep within
pub record Fitting (t : Task) : Type 0 where
  pub from : Within 2000000 t.from.0
  pub limit : Within 2000000 t.limit.0
  pub pen : Within 1000000 t.pen.0
  pub s : Within 900 t.s.0
  pub beside : Within 4000000000000000 t.beside.0
  pub others : Within 40000000000000000 t.others.0

-- what the walk can take: the figures fit, a task is stopped at its own place, from 1, and the curves are in form and in range
pub record Walkable (tasks : List Task) (n : ℕ) (da rt : Curve) : Type 0 where
  pub few : n ≤ 30
  pub fits : (i : ℕ) → i < n → Fitting (task_at tasks i)
  pub placed : (i : ℕ) → i < n → (check : Check) → (task_at tasks i).stop ≡ Err check → place_of check ≡ i + 1
  pub steps : (lower : Bool) → (curve_in lower da rt).n ≤ 12
  pub in_range : (lower : Bool) → curve_in_range (curve_in lower da rt) ≡ true
