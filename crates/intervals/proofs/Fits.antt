-- What the intervals of an hour in form and in range ask, the walk can take.
use mathlib.Core.Path.{◌≡◌, refl, sym, ◌∙◌, ap, subst}
use mathlib.Core.Bool.{Bool, true, false, ◌&&◌}
use mathlib.Core.List.{List}
use Prim.Native.Nat.{ℕ, ◌+◌, ◌<◌, ◌≤◌}
use native.Mathlib.Omega.{arith}
use lib.IntN.{ℤ}
use lib.ListN.{set, replicate, length-set}
use Rattle.exact.proofs.Apart.{impossible}
use Rattle.std.specs.Prelude.{if◌then◌else◌, Err, Ok}
use Rattle.exact.proofs.Parts.{by_test}
use Rattle.exact.proofs.Range.{within_less, within_mul, within_lit, within_zero}
use Rattle.tariff.specs.declared.Check.{Check}
use Rattle.tariff.specs.declared.Check.TheVariants.{Derate, Point}
use Rattle.tariff.specs.declared.Curve.{Curve}
use Rattle.tariff.specs.declared.DayAhead.{DayAhead}
use Rattle.tariff.specs.declared.Kw.{Kw}
use Rattle.tariff.specs.declared.Hour.{Hour}
use Rattle.tariff.specs.declared.IclHour.{IclHour}
use Rattle.tariff.specs.declared.IclInterval.{IclInterval}
use Rattle.tariff.specs.declared.Expected.{Expected}
use Rattle.tariff.specs.declared.Interval.{Interval}
use Rattle.tariff.specs.Sheet.{ahead_in_range, curve_in_range, interval_in_range}
use Rattle.tariff.specs.Curve.{known}
use Rattle.tariff.specs.Derate.{exceeds_room}
use Rattle.tariff.specs.Point.{point_of}
use Rattle.tariff.specs.Contributions.{curve_in}
use Rattle.tariff.specs.Reply.{clear, place_of, Found}
use Rattle.tariff.specs.Checks.{Parts, form_of, range_of}
use Rattle.tariff.specs.Hour.{form, range, interval, parts_of, outcome_at}
use Rattle.tariff.specs.Controllable.{icl_ahead_in_range, icl_interval_in_range, icl_interval, icl_parts, icl_outcome_at}
use Rattle.tariff.proofs.Ranges.{interval_fits, eop_fits, icl_ahead_fits, icl_interval_fits, form_says, range_says}
use Rattle.tariff.proofs.Points.{point_within}
use Rattle.tariff.proofs.Limits.{limit_within, capped_within}
use Rattle.tariff.proofs.Others.{others_within}
use Rattle.tariff.proofs.Reduced.{reduced_within}
use Rattle.tasks.specs.declared.Task.{Task}
use Rattle.tasks.specs.Task.{idle_task, icl_task, icl_task_of}
use Rattle.intervals.specs.Task.{ready_task, task_of, asked, icl_asked, TasksOf, of_task, Fitting, Walkable}
use Rattle.intervals.proofs.Tasks.{task_cases, idle_outcome, task_outcome, icl_task_outcome}
use Rattle.intervals.proofs.Walks.{by_entry, repeated}

idle_fits : (stop : Found) → Fitting (idle_task stop)
idle_fits stop =
    record {
      from = within_zero 2000000;
      limit = within_zero 2000000;
      pen = within_zero 1000000;
      s = within_zero 900;
      beside = within_zero 4000000000000000;
      others = within_zero 40000000000000000;
    }

module _ (rt : Curve) (a : DayAhead) (v : Interval) (er : curve_in_range rt ≡ true) (ea : ahead_in_range a ≡ true) (ev : interval_in_range v ≡ true) where
  ready_fits : (E : ℤ) → point_of rt v ≡ known E → exceeds_room a v ≡ false → Fitting (ready_task a v E)
  ready_fits E p e =
      let g = interval_fits v ev in
      let close = reduced_within a v ea ev e in
      record {
        from = close 0 (omega arith);
        limit = limit_within 2000000 (close 0 (omega arith)) g.en (point_within rt v er (eop_fits v ev) E p) (capped_within g.en g.ae g.co);
        pen = g.pen;
        s = g.s;
        beside = within_zero 4000000000000000;
        others = others_within a v ea ev close;
      }

  task_fits : (place : ℕ) → Fitting (task_of rt a v place)
  task_fits place =
      task_cases Fitting rt a v place
      (λ _. idle_fits (Ok tt))
      (λ _ _. idle_fits (Err (Point place)))
      (λ _ _ _ _. idle_fits (Err (Derate place)))
      (λ _. ready_fits)

-- a task is stopped at its own place
task_placed : (rt : Curve) (a : DayAhead) (v : Interval) (place : ℕ) (check : Check) → (task_of rt a v place).stop ≡ Err check → place_of check ≡ place
task_placed rt a v place check =
    task_cases (λ t. t.stop ≡ Err check → place_of check ≡ place) rt a v place
    (λ _ e. impossible cc)
    (λ _ _ e. let same : Point place ≡ check = cc in ap place_of (sym same))
    (λ _ _ _ _ e. let same : Derate place ≡ check = cc in ap place_of (sym same))
    (λ _ _ _ _ e. impossible cc)

-- ---- the tasks of an hour, one after the other

pub tasks_begin : {task : ℕ → Task} {t : Task} → TasksOf task 0 (replicate 30 t)
tasks_begin = record { long = refl; each = λ i u. absurd (omega arith) }

pub tasks_next : {task : ℕ → Task} {i : ℕ} {tasks : List Task} → TasksOf task i tasks → i < 30 → {t : Task} → t ≡ task i → TasksOf task (i + 1) (set tasks i t)
tasks_next {task} {i} {tasks} o u {t} e =
    record {
      long = length-set tasks i t ∙ o.long;
      each =
          by_entry tasks i t (idle_task (Ok tt)) (let l = o.long in omega arith) (λ k x. k < i + 1 → x ≡ task k) (λ _. e)
          (λ k n v. o.each k (omega arith));
    }

-- nothing is asked of an excluded hour
pub tasks_idle : (n : ℕ) {t : Task} → t ≡ idle_task (Ok tt) → TasksOf (λ i. idle_task (Ok tt)) n (replicate 30 t)
tasks_idle n e =
    subst (λ (t : Task). TasksOf (λ i. idle_task (Ok tt)) n (replicate 30 t)) (sym e) (record { long = refl; each = λ i u. repeated 30 i (idle_task (Ok tt)) })

-- both curves keep a property, so the one that is taken does
either : (P : Curve → Type 0) (lower : Bool) {da rt : Curve} → P da → P rt → P (curve_in lower da rt)
either P true x y = x
either P false x y = y

-- the tasks of an hour of any kind whose block is in form and in range, where each fits and is stopped at its own place
module _ (p : Parts) (formed : form_of p ≡ clear) (expected : Expected) (ranged : range_of p expected ≡ clear) where
  walkable : {task : ℕ → Task} → ((i : ℕ) → i < p.n → Fitting (task i))
      → ((i : ℕ) (check : Check) → (task i).stop ≡ Err check → place_of check ≡ i + 1)
      → {tasks : List Task} → TasksOf task p.n tasks → Walkable tasks p.n p.da p.rt
  walkable fits placed t =
      let n = form_says p formed in
      let r = range_says p expected ranged in
      record {
        few = n.2;
        fits = λ i u. rw (t.each i u) (fits i u);
        placed = λ i u check e. placed i check (ap (λ (x : Task). x.stop) (sym (t.each i u)) ∙ e);
        steps = λ lower. either (λ c. c.n ≤ 12) lower n.0 n.1;
        in_range = λ lower. either (λ c. curve_in_range c ≡ true) lower r.2 r.3;
      }

-- ---- a generator's

module _ (h : Hour) (ok : (form h ≡ clear) × (expected : Expected) × (range h expected ≡ clear)) where
  pub in_range_lem : {i : ℕ} → i < h.n → (h.rt.n ≤ 12) × (ahead_in_range h.ahead ≡ true) × (interval_in_range (interval h i) ≡ true)
  in_range_lem {i} u = let r = range_says (parts_of h) ok.1 ok.2 in ((form_says (parts_of h) ok.0).1, r.1, r.4 i u)

  asked_fits : (is_excluded : Bool) (i : ℕ) → i < h.n → Fitting (asked h is_excluded i)
  asked_fits true i u = idle_fits (Ok tt)
  asked_fits false i u =
      task_fits h.rt h.ahead (interval h i) (range_says (parts_of h) ok.1 ok.2).3 (in_range_lem u).1 (in_range_lem u).2 (i + 1)

  asked_placed : (is_excluded : Bool) (i : ℕ) (check : Check) → (asked h is_excluded i).stop ≡ Err check → place_of check ≡ i + 1
  asked_placed true i check e = impossible cc
  asked_placed false i check e = task_placed h.rt h.ahead (interval h i) (i + 1) check e

  pub tasks_walkable : (is_excluded : Bool) {tasks : List Task} → TasksOf (asked h is_excluded) h.n tasks → Walkable tasks h.n h.da h.rt
  tasks_walkable is_excluded = walkable (parts_of h) ok.0 ok.1 ok.2 (asked_fits is_excluded) (asked_placed is_excluded)

-- what the walk makes of them is what the intervals come to
pub asked_outcome : (h : Hour) (is_excluded : Bool) (i : ℕ) → of_task h.da h.rt (asked h is_excluded i) ≡ outcome_at h is_excluded i
unfolding outcome_at
asked_outcome h true i = sym (idle_outcome h.da h.rt)
asked_outcome h false i = sym (task_outcome h (interval h i) (i + 1))

-- ---- an internal controllable line's

module _ (h : IclHour) (formed : form_of (icl_parts h) ≡ clear) (expected : Expected) (ranged : range_of (icl_parts h) expected ≡ clear) where
  -- its numbers are in their ranges, so that it asks what 25.3.5 reads
  ready : (i : ℕ) → i < h.n → icl_task_of h.dasi h.dasw (icl_interval h i) ≡ icl_task h.dasi h.dasw (icl_interval h i)
  unfolding icl_task_of
  ready i u = let r = range_says (icl_parts h) expected ranged in rw (r.1, r.4 i u)

  icl_fits : (i : ℕ) → i < h.n → Fitting (icl_task h.dasi h.dasw (icl_interval h i))
  icl_fits i u =
      let r = range_says (icl_parts h) expected ranged in
      let a = icl_ahead_fits h.dasi h.dasw r.1 in
      let f = icl_interval_fits (icl_interval h i) (r.4 i u) in
      record {
        from = a.0;
        limit = f.aei;
        pen = f.pin;
        s = f.s;
        beside = within_lit {A = 3600000000000000} tt (within_mul (within_mul (within_less f.aew a.1) f.pout) f.s);
        others = within_zero 40000000000000000;
      }

  icl_asked_fits : (is_excluded : Bool) (i : ℕ) → i < h.n → Fitting (icl_asked h is_excluded i)
  icl_asked_fits true i u = idle_fits (Ok tt)
  icl_asked_fits false i u = rw (ready i u) (icl_fits i u)

  -- no check stops one before it is priced
  icl_asked_free : (is_excluded : Bool) (i : ℕ) → (icl_asked h is_excluded i).stop ≡ Ok tt
  unfolding icl_task_of
  icl_asked_free true i = refl
  icl_asked_free false i = icl_free h.dasi h.dasw (icl_interval h i)
    where
      icl_free : (dasi dasw : Kw) (v : IclInterval) → (icl_task_of dasi dasw v).stop ≡ Ok tt
      icl_free dasi dasw v =
          by_test (icl_ahead_in_range dasi dasw && icl_interval_in_range v)
          (λ b. (if b then icl_task dasi dasw v else idle_task (Ok tt)).stop ≡ Ok tt)
          (λ e. refl)
          (λ e. refl)

  pub icl_tasks_walkable : (is_excluded : Bool) {tasks : List Task} → TasksOf (icl_asked h is_excluded) h.n tasks → Walkable tasks h.n h.da h.rt
  icl_tasks_walkable is_excluded =
      walkable (icl_parts h) formed expected ranged (icl_asked_fits is_excluded)
      (λ i check e. let free = icl_asked_free is_excluded i in impossible cc)

  pub icl_asked_outcome : (is_excluded : Bool) (i : ℕ) → i < h.n → of_task h.da h.rt (icl_asked h is_excluded i) ≡ icl_outcome_at h is_excluded i
  unfolding icl_outcome_at
  icl_asked_outcome true i u = sym (idle_outcome h.da h.rt)
  icl_asked_outcome false i u = ap (of_task h.da h.rt) (ready i u) ∙ sym (icl_task_outcome h (icl_interval h i))
