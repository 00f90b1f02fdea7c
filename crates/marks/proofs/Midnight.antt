-- What request 5 changes in document 01's rule, and what of a neighbour it asks.
use mathlib.Core.Path.{◌≡◌, refl, sym, ◌∙◌, ap}
use mathlib.Core.Logic.{◌↔◌, ◌⊎◌, inl, inr, ⊎_elim}
use mathlib.Core.Bool.{Bool, true, ◌||◌}
use Prim.Native.Nat.{ℕ, ◌+◌, ◌<◌}
use native.Mathlib.Omega.{arith}
use Rattle.tariff.specs.declared.MarkedDay.{MarkedDay}
use Rattle.tariff.specs.Eligible.{reached, excluded, no_day}
use Rattle.marks.specs.Alone.{by_itself, excluded_alone}
use Rattle.marks.specs.Reached.{ReachedFromBefore, ReachedFromAfter}
use Rattle.marks.specs.Alike.{ReachAlike}
use Rattle.marks.proofs.Some.{agree, or_first, or_second, or_cases}
use Rattle.marks.proofs.Joined.{of_before, of_own, of_after, by_day, reached_by, reached_from}
use Rattle.marks.proofs.Reach.{reach_itself, reached_alike}
use Rattle.marks.proofs.Inside.{by_near, alone_parts, by_near-by, by_near-from}

-- ---- what comes over midnight, and that nothing else changes

module _ (before own after : MarkedDay) (h : ℕ) where
  -- a mark of the day itself reaches as it did
  inside_reaches : by_near own h ≡ true → reached before own after h ≡ true
  inside_reaches e =
      by_near-from own h e
      (λ g u d v w.
      reached_by before own after h (before.hours + g) (omega arith) (of_own before own after (before.hours + g) g refl u ∙ d) (omega arith) (omega arith))

  before_reaches : ReachedFromBefore before h → reached before own after h ≡ true
  before_reaches r =
      reached_by before own after h r.hour (omega arith) (of_before before own after r.hour r.of_the_day ∙ r.has_a_mark) (omega arith) (omega arith)

  after_reaches : h < own.hours → ReachedFromAfter own after h → reached before own after h ≡ true
  after_reaches u r =
      let k = before.hours + own.hours + r.hour in
      reached_by before own after h k (omega arith) (of_after before own after k r.hour refl ∙ r.has_a_mark) (omega arith) (omega arith)

  where_from : {P : Type 0} → reached before own after h ≡ true → (by_near own h ≡ true → P) → (ReachedFromBefore before h → P)
      → (ReachedFromAfter own after h → P) → P
  where_from e inside from_before_lem from_after_lem =
      reached_from before own after h e
      (λ k u d v w.
      by_day before own after k u
      (λ s. from_before_lem (record { hour = k; of_the_day = s; has_a_mark = sym (of_before before own after k s) ∙ d; at_most_two = omega arith }))
      (λ j f s. inside (by_near-by own h j s (sym (of_own before own after k j f s) ∙ d) (omega arith) (omega arith)))
      (λ j f s. from_after_lem (record { hour = j; of_the_day = s; has_a_mark = sym (of_after before own after k j f) ∙ d; at_most_two = omega arith })))

  abbrev ByAny : Type 0
  ByAny = (excluded_alone own h ≡ true) ⊎ ReachedFromBefore before h ⊎ ReachedFromAfter own after h

  out_of : excluded before own after h ≡ true → ByAny
  unfolding excluded
  out_of e =
      or_cases (by_itself own.marks h) (reached before own after h) e
      (λ d. inside (or_first (by_itself own.marks h) _ d))
      (λ d. where_from d (λ s. inside (or_second (by_itself own.marks h) _ s)) (λ r. inr (inl r)) (λ r. inr (inr r)))
    where
      inside : (by_itself own.marks h || by_near own h) ≡ true → ByAny
      inside d = inl (alone_parts own h ∙ d)

  into : h < own.hours → ByAny → excluded before own after h ≡ true
  unfolding excluded
  into u = grind (arith, ⊎_elim, or_cases, alone_parts, or_first, or_second, inside_reaches, before_reaches, after_reaches)

  -- An hour of the day is excluded exactly when document 01 excludes it, or a mark of a neighbour at most two hours away over midnight reaches it.
  pub exactly_when : h < own.hours
      → (excluded before own after h ≡ true) ↔ ((excluded_alone own h ≡ true) ⊎ ReachedFromBefore before h ⊎ ReachedFromAfter own after h)
  exactly_when u = (out_of, into u)

-- Where both neighbours are lacking, the rule is document 01's.
pub both_lacking : (own : MarkedDay) (h : ℕ) → excluded no_day own no_day h ≡ excluded_alone own h
unfolding excluded
both_lacking own h =
    ap (λ (t : Bool). by_itself own.marks h || t)
    (agree (reached no_day own no_day h) (by_near own h)
    (λ e. where_from no_day own no_day h e (λ d. d) (λ r. absurd (omega arith)) (λ r. absurd (omega arith)))
    (inside_reaches no_day own no_day h))
    ∙ sym (alone_parts own h)

-- ---- what of a neighbour is asked

-- Nothing but how many hours it has and which of them have a mark that reaches.
pub neighbours_by_what_reaches : (before before' own after after' : MarkedDay) (h : ℕ) → ReachAlike before before' → ReachAlike after after'
    → excluded before own after h ≡ excluded before' own after' h
unfolding excluded
neighbours_by_what_reaches before before' own after after' h b a = grind (arith, reached_alike, reach_itself)
