-- An interval's outcome, by the task that the walk takes: the one integral from D to the limit serves both branches.
use mathlib.Core.Path.{◌≡◌, refl, sym, ap, ◌∙◌}
use mathlib.Core.Bool.{Bool, true, false}
use mathlib.Core.List.{List}
use Prim.Native.Nat.{ℕ, ◌≤◌}
use lib.IntN.{ℤ, pos, neg_ℤ, ◌+ℤ◌, ◌-ℤ◌, ◌*ℤ◌, +ℤ_idl, +ℤ_idr}
use lib.Signed.{lt_z, le_z}
use Rattle.std.specs.Prelude.{if◌then◌else◌, Err, Ok}
use Rattle.exact.specs.Whole.{min_z, max_z, span, Within}
use Rattle.exact.proofs.Parts.{arithℤ, by_test}
use Rattle.exact.proofs.Ring.{expandℤ}
use Rattle.exact.proofs.Apart.{impossible}
use Rattle.exact.proofs.Order.{lt_flip, min_of, min_of', max_of, max_of'}
use Rattle.exact.proofs.Range.{within_add, within_less, within_mul, within_min, within_zero, within_lit}
use Rattle.tariff.specs.declared.Kw.{Kw}
use Rattle.tariff.specs.declared.Grains.{Grains}
use Rattle.tariff.specs.declared.Curve.{Curve}
use Rattle.tariff.specs.declared.DayAhead.{DayAhead}
use Rattle.tariff.specs.declared.Interval.{Interval}
use Rattle.tariff.specs.declared.Hour.{Hour}
use Rattle.tariff.specs.declared.IclHour.{IclHour}
use Rattle.tariff.specs.declared.IclInterval.{IclInterval}
use Rattle.tariff.specs.declared.Check.TheVariants.{Derate, Point}
use Rattle.tariff.specs.Units.{kw, price, seconds, grains, grains_of}
use Rattle.tariff.specs.Curve.{Amount, known, none, change, quote, sum_up, integral}
use Rattle.tariff.specs.Eligible.{lags}
use Rattle.tariff.specs.Derate.{exceeds_room, reduced}
use Rattle.tariff.specs.Point.{point_of}
use Rattle.tariff.specs.Contributions.{is_lower, limit_of, curve_in, lower_grains, upper_grains, energy_by, energy, capped_of, lower_in, limit_in, other_than_energy}
use Rattle.tariff.specs.Hour.{with_others, outcome}
use Rattle.tariff.specs.Controllable.{icl_is_lower, icl_margin, icl_lower_grains, icl_upper_grains, icl_energy}
use Rattle.tariff.specs.Outcome.{gives, or_reach}
use Rattle.tariff.proofs.Demands.{downward_is_the_negative}
use Rattle.tariff.proofs.Limits.{within_if}
use Rattle.tasks.specs.declared.Task.{Task}
use Rattle.tasks.specs.Task.{idle_task, icl_task}
use Rattle.derate.specs.Five.{kw_five, kw_at}
use Rattle.points.specs.declared.Standing.{Standing}
use Rattle.points.specs.declared.Standing.TheVariants.{Lags, Pointless, At}
use Rattle.points.specs.Standing.{standing_by, standing_of}
use Rattle.points.proofs.Stands.{standing_is}
use Rattle.intervals.specs.Task.{ready_task, derated_task, pointed_task, task_of, low_of, high_of, cost_up, signed_cost, energy_part, finished, of_cost, of_task, Fitting}

-- ---- the integral from D to the limit, from the cost of the stretch taken upward

change_twice : (f g : ℤ → ℤ) (x : Amount) → change f (change g x) ≡ change (λ z. f (g z)) x
change_twice f g (known x) = refl
change_twice f g none = refl

turned_is : (y s : ℤ) → neg_ℤ y *ℤ s ≡ pos 0 -ℤ y *ℤ s
turned_is y s = simp (expandℤ, +ℤ_idl)

turned : (s : ℤ) (x : Amount) → change (λ y. y *ℤ s) (change neg_ℤ x) ≡ change (λ z. pos 0 -ℤ z) (change (λ y. y *ℤ s) x)
turned s (known y) = ap known (turned_is y s)
turned s none = refl

signed : (c : Curve) (D L s : ℤ)
    → change (λ y. y *ℤ s) (integral c D L) ≡ change (λ z. if lt_z L D then pos 0 -ℤ z else z) (cost_up c (min_z D L) (max_z D L) s)
unfolding integral cost_up
signed c D L s =
    by_test (lt_z L D)
    (λ b. change (λ y. y *ℤ s) (integral c D L) ≡ change (λ z. if b then pos 0 -ℤ z else z) (cost_up c (min_z D L) (max_z D L) s))
    (λ e.
    let down : le_z D L ≡ false = omega arithℤ in
    rw (down, min_of' D L (lt_flip L D e), max_of' D L (lt_flip L D e)) (turned s (sum_up (quote c) L (span L D))))
    (λ e. let up : le_z D L ≡ true = omega arithℤ in rw (up, min_of D L e, max_of D L e, change_twice))

-- ---- a task's outcome, by that integral in grains

by_integral : Task → ℤ → ℤ
by_integral t z =
    let e = grains_of (t.from.0 -ℤ t.limit.0) t.pen.0 t.s.0 +ℤ z +ℤ t.beside.0 in (if t.lower then e else min_z e (pos 0)) +ℤ t.others.0

by_integral_lem : (t : Task) (c : Curve) (f : ℤ → ℤ) → ((y : ℤ) → f y +ℤ t.others.0 ≡ by_integral t (y *ℤ t.s.0))
    → with_others t.others.0 (change f (integral c t.from.0 t.limit.0)) ≡ of_cost t (cost_up c (low_of t) (high_of t) t.s.0)
unfolding by_integral finished
by_integral_lem t c f h = go (integral c t.from.0 t.limit.0) (cost_up c (low_of t) (high_of t) t.s.0) (signed c t.from.0 t.limit.0 t.s.0)
  where
    go : (x z : Amount) → change (λ y. y *ℤ t.s.0) x ≡ change (signed_cost t) z → with_others t.others.0 (change f x) ≡ of_cost t z
    go (known x) (known z) e = let same : x *ℤ t.s.0 ≡ signed_cost t z = cc in ap gives (h x ∙ ap (by_integral t) same)
    go (known x) none e = impossible cc
    go none (known z) e = impossible cc
    go none none e = refl

-- ---- a generator's, by the branch that is taken

module _ (D L pen s y : ℤ) where
  lower_is : lower_grains D L pen s (neg_ℤ y) ≡ grains_of (D -ℤ L) pen s +ℤ y *ℤ s +ℤ pos 0
  lower_is = simp (expandℤ, +ℤ_idl)

  upper_is : ((D -ℤ L) *ℤ pen +ℤ y) *ℤ s ≡ grains_of (D -ℤ L) pen s +ℤ y *ℤ s +ℤ pos 0
  upper_is = simp (expandℤ, +ℤ_idl)

module _ (da rt : Curve) (D L pen s others : ℤ) where
  task_by : Bool → Task
  task_by lower =
      record { stop = Ok tt; lower = lower; from = kw D; limit = kw L; pen = price pen; s = seconds s; beside = grains (pos 0); others = grains others }

  energy_task : (lower : Bool) → with_others others (energy lower da rt D L pen s) ≡ of_task da rt (task_by lower)
  unfolding energy_by by_integral task_by
  energy_task true =
      rw (downward_is_the_negative da L D, change_twice) (by_integral_lem (task_by true) da (λ z. lower_grains D L pen s (neg_ℤ z)) (λ y. rw (lower_is D L pen s y)))
  energy_task false = by_integral_lem (task_by false) rt (upper_grains D L pen s) (λ y. rw (upper_is D L pen s y))

-- ---- an internal controllable line's

or_reach_lem : (x : Amount) → or_reach x ≡ with_others (pos 0) x
or_reach_lem (known grains) = ap gives (sym (+ℤ_idr grains))
or_reach_lem none = refl

module _ (dasi dasw : Kw) (v : IclInterval) (y : ℤ) where
  icl_lower_is : icl_lower_grains dasi dasw v (neg_ℤ y)
      ≡ grains_of (dasi.0 -ℤ v.aei.0) v.pin.0 v.s.0 +ℤ y *ℤ v.s.0 +ℤ grains_of (v.aew.0 -ℤ dasw.0) v.pout.0 v.s.0
  icl_lower_is = simp expandℤ

  icl_upper_is : (icl_margin dasi dasw v +ℤ y) *ℤ v.s.0
      ≡ grains_of (dasi.0 -ℤ v.aei.0) v.pin.0 v.s.0 +ℤ y *ℤ v.s.0 +ℤ grains_of (v.aew.0 -ℤ dasw.0) v.pout.0 v.s.0
  icl_upper_is = simp expandℤ

module _ (h : IclHour) (v : IclInterval) where
  abbrev own : Task
  own = icl_task h.dasi h.dasw v

  abbrev below : ℤ → ℤ
  below = icl_lower_grains h.dasi h.dasw v

  abbrev above : ℤ → ℤ
  above = icl_upper_grains h.dasi h.dasw v

  branch_task : (lower : Bool) → icl_is_lower h.dasi v ≡ lower
      → with_others (pos 0) (energy_by lower h.da h.rt h.dasi.0 v.aei.0 below above)
      ≡ of_cost own (cost_up (curve_in lower h.da h.rt) (low_of own) (high_of own) v.s.0)
  unfolding energy_by by_integral
  branch_task true e =
      rw (downward_is_the_negative h.da v.aei.0 h.dasi.0, change_twice)
      (by_integral_lem own h.da (λ z. below (neg_ℤ z)) (λ y. rw (e, icl_lower_is h.dasi h.dasw v y)))
  branch_task false e = by_integral_lem own h.rt above (λ y. rw (e, icl_upper_is h.dasi h.dasw v y))

  pub icl_task_outcome : or_reach (icl_energy h v) ≡ of_task h.da h.rt own
  unfolding icl_energy
  icl_task_outcome = or_reach_lem (icl_energy h v) ∙ branch_task (icl_is_lower h.dasi v) refl

-- ---- a task by its cases

pub task_cases : (P : Task → Type 0) (rt : Curve) (a : DayAhead) (v : Interval) (place : ℕ)
    → (lags v ≡ true → P (idle_task (Ok tt)))
    → (lags v ≡ false → point_of rt v ≡ none → P (idle_task (Err (Point place))))
    → (lags v ≡ false → (E : ℤ) → point_of rt v ≡ known E → exceeds_room a v ≡ true → P (idle_task (Err (Derate place))))
    → (lags v ≡ false → (E : ℤ) → point_of rt v ≡ known E → exceeds_room a v ≡ false → P (ready_task a v E))
    → P (task_of rt a v place)
unfolding task_of derated_task
task_cases P rt a v place lagging pointless stopped ready =
    by_test (lags v)
    (λ b. P (if b then idle_task (Ok tt) else pointed_task place (point_of rt v) (derated_task a v place)))
    lagging
    (λ l. go l (point_of rt v) refl)
  where
    go : lags v ≡ false → (x : Amount) → point_of rt v ≡ x → P (pointed_task place x (derated_task a v place))
    go l none e = pointless l e
    go l (known E) e = by_test (exceeds_room a v) (λ b. P (if b then idle_task (Err (Derate place)) else ready_task a v E)) (stopped l E e) (ready l E e)

-- nothing is priced for a lagging interval
pub idle_outcome : (da rt : Curve) → gives (pos 0) ≡ of_task da rt (idle_task (Ok tt))
unfolding cost_up sum_up finished min_z max_z span
idle_outcome da rt = refl

pub task_outcome : (h : Hour) (v : Interval) (place : ℕ) → outcome h v ≡ of_task h.da h.rt (task_of h.rt h.ahead v place)
unfolding outcome task_by
task_outcome h v place =
    task_cases (λ t. outcome h v ≡ of_task h.da h.rt t) h.rt h.ahead v place
    (λ l. rw l (idle_outcome h.da h.rt))
    (λ l p. rw (l, p))
    (λ l E p e. rw (l, p, e))
    (λ l E p e. rw (l, p, e)
    (energy_task h.da h.rt (reduced h.ahead v 0) (limit_in h.ahead v E) v.pen.0 v.s.0 (other_than_energy h.ahead v) (lower_in h.ahead v)))

-- ---- the task that a standing asks for

module _ (rt : Curve) (a : DayAhead) (v : Interval) (place : ℕ) where
  abbrev pub asked_at : Standing → Task
  asked_at Lags = idle_task (Ok tt)
  asked_at Pointless = idle_task (Err (Point place))
  asked_at (At e) = derated_task a v place e.0

  pub standing_asks : rt.n ≤ 12 → asked_at (standing_of rt v) ≡ task_of rt a v place
  unfolding task_of
  standing_asks u =
      rw (standing_is rt v u)
      (by_test (lags v)
      (λ b. asked_at (if b then Lags else standing_by (point_of rt v)) ≡ (if b then idle_task (Ok tt) else pointed_task place (point_of rt v) (derated_task a v place)))
      (λ e. refl)
      (λ e. go (point_of rt v)))
    where
      go : (x : Amount) → asked_at (standing_by x) ≡ pointed_task place x (derated_task a v place)
      go (known E) = refl
      go none = refl

-- ---- an interval's task, by its figures

module _ (a : DayAhead) (v : Interval) (E : ℤ) (q : List Kw) (e : q ≡ kw_five (reduced a v)) where
  pub task_same : {lower : Bool} {limit counted : Kw} {others : Grains}
      → lower ≡ is_lower (kw_at q 0) v.en.0
      → counted.0 ≡ capped_of v
      → limit.0 ≡ limit_of (kw_at q 0) v.en.0 E counted.0
      → others.0 ≡ other_than_energy a v
      → record { stop = Ok tt; lower = lower; from = kw (kw_at q 0); limit = limit; pen = v.pen; s = v.s; beside = grains (pos 0); others = others } ≡ ready_task a v E
  task_same l c m o =
      λ i.
      record {
        stop = Ok tt;
        lower = (l ∙ (λ j. is_lower (kw_at (e j) 0) v.en.0)) i;
        from = kw (kw_at (e i) 0);
        limit = kw ((m ∙ (λ j. limit_of (kw_at (e j) 0) v.en.0 E (c j))) i);
        pen = v.pen;
        s = v.s;
        beside = grains (pos 0);
        others = grains (o i);
      }

-- ---- what the walk's figures keep within

module _ (t : Task) (cost : ℤ) (f : Fitting t) (w : Within 4000000000000000 cost) where
  pub sold_within : Within 3600000000000000 (grains_of (t.from.0 -ℤ t.limit.0) t.pen.0 t.s.0)
  sold_within = within_mul (within_mul (within_less f.from f.limit) f.pen) f.s

  pub signed_within : Within 4000000000000000 (signed_cost t cost)
  signed_within = within_if (lt_z t.limit.0 t.from.0) (within_less (within_zero 0) w) w

  pub energy_within : Within 11600000000000000 (energy_part t cost)
  energy_within = within_add (within_add sold_within signed_within) f.beside

  pub finished_within : Within 100000000000000000 (finished t cost)
  unfolding finished
  finished_within =
      within_lit {A = 51600000000000000} tt
      (within_add {A = 11600000000000000}
      (within_if t.lower energy_within (within_min energy_within (within_zero 11600000000000000)))
      f.others)
