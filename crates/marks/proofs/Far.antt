-- A mark acts in its own hour and at most two before and after along the joined days, and x5 and x6 act with `rtc` alone.
use Rattle.std.proofs.lemmas.Grind.{common_steps}
use mathlib.Core.Path.{◌≡◌, refl, ◌∙◌, ap}
use mathlib.Core.Logic.{◌≢◌}
use mathlib.Core.Bool.{false, ◌||◌, false≢true}
use Prim.Native.Nat.{ℕ, ◌+◌, ◌<◌, ◌≤◌}
use native.Mathlib.Omega.{arith}
use lib.Dec.{eqb}
use Rattle.tariff.specs.declared.Marks.{Marks}
use Rattle.tariff.specs.declared.MarkedDay.{MarkedDay}
use Rattle.tariff.specs.Eligible.{near, reaches, joined, reached, excluded}
use Rattle.marks.specs.Days.{day_of}
use Rattle.marks.specs.Alone.{by_itself}
use Rattle.marks.specs.Alike.{AlikeBut, AlikeToX4, OwnHourAlike, JoinedAlikeBut}
use Rattle.marks.proofs.Some.{agree}
use Rattle.marks.proofs.Near.{near_is, near_above, near_below}
use Rattle.marks.proofs.Joined.{hours_of_all, of_before, of_own, of_after, by_day, reached_same}
use Rattle.marks.proofs.Reach.{reach_itself, reach_without_rtc, reached_alike}

own_hour : (h : ℕ) (m n : Marks) → OwnHourAlike h m n → by_itself m h ≡ by_itself n h
own_hour h m n at = λ i. eqb (at.cat i) 0 || at.x1 i || at.x2 i || at.x3 i

-- ---- an hour of the joined days that is more than two away

not_that : (g k c : ℕ) → near g c ≡ false → k ≤ c + 2 → c ≤ k + 2 → k ≢ g
not_that g k c far u v s = grind (arith, false≢true, near_is)

module _ (g h : ℕ) (before own after before' own' after' : MarkedDay) (alike : JoinedAlikeBut g before own after before' own' after')
    (far : near g (before.hours + h) ≡ false) where
  abbrev at : ℕ
  at = before.hours + h

  itself_same : by_itself own.marks h ≡ by_itself own'.marks h
  itself_same = own_hour h own.marks own'.marks (alike.own_hours h (not_that g at at far (omega arith) (omega arith)))

  far_reached : reached before own after h ≡ reached before' own' after' h
  far_reached =
      reached_same before own after before' own' after' alike.count_before alike.count_own alike.count_after h
      (λ k u v w. alike.reach k u (not_that g k at far v w))

  pub a_mark_moves_no_further_than_two : excluded before own after h ≡ excluded before' own' after' h
  unfolding excluded
  a_mark_moves_no_further_than_two = λ i. itself_same i || far_reached i

-- ---- the same of an hour of the day itself

near_behind : (l g h : ℕ) → near (l + g) (l + h) ≡ near g h
near_behind l g h = grind (arith, agree, near_above, near_below, near_is)

module _ (before after : MarkedDay) (hours : ℕ) (m n : Marks) (g : ℕ) (alike : AlikeBut g m n) where
  reach_same : (j : ℕ) → j ≢ g → reaches m j ≡ reaches n j
  reach_same j s = grind arith

  joined_same : (k : ℕ) → k < hours_of_all before (day_of hours m) after → k ≢ before.hours + g
      → joined before (day_of hours m) after k ≡ joined before (day_of hours n) after k
  joined_same k u s = grind (arith, common_steps, by_day, of_before, of_own, reach_same, of_after)

  but_own : JoinedAlikeBut (before.hours + g) before (day_of hours m) after before (day_of hours n) after
  but_own = record {
    count_before = refl;
    count_own = refl;
    count_after = refl;
    reach = joined_same;
    own_hours = λ h s. (alike.others h (λ t. s (ap (λ (i : ℕ). before.hours + i) t))).itself;
  }

  pub an_own_mark_moves_no_further_than_two : (h : ℕ) → near g h ≡ false → excluded before (day_of hours m) after h ≡ excluded before (day_of hours n) after h
  an_own_mark_moves_no_further_than_two h far =
      a_mark_moves_no_further_than_two (before.hours + g) h before (day_of hours m) after before (day_of hours n) after but_own
      (near_behind before.hours g h ∙ far)

-- ---- x5 and x6 of the day itself

pub without_rtc : (before after : MarkedDay) (hours : ℕ) (m n : Marks) (h : ℕ) → m.rtc ≡ false → n.rtc ≡ false → AlikeToX4 m n
    → excluded before (day_of hours m) after h ≡ excluded before (day_of hours n) after h
unfolding excluded
without_rtc before after hours m n h off off' alike = grind (arith, reach_without_rtc, reached_alike, reach_itself)
