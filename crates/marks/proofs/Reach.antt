-- Days of the same counts whose marks reach alike: when they do, and that they then reach the same hours.
use Rattle.std.proofs.lemmas.Grind.{common_steps}
use mathlib.Core.Path.{◌≡◌, refl, sym, ◌∙◌, ap}
use mathlib.Core.Bool.{false, ◌&&◌, ◌||◌, or-false}
use Prim.Native.Nat.{ℕ, ◌<◌}
use native.Mathlib.Omega.{arith}
use Rattle.tariff.specs.declared.Marks.{Marks}
use Rattle.tariff.specs.declared.MarkedDay.{MarkedDay}
use Rattle.tariff.specs.Eligible.{marked, reaches, joined, reached}
use Rattle.marks.specs.Days.{day_of}
use Rattle.marks.specs.Alike.{AlikeFromX4, ReachAlike}
use Rattle.marks.proofs.Joined.{hours_of_all, of_before, of_own, of_after, by_day, reached_same}

pub reach_itself : (d : MarkedDay) → ReachAlike d d
reach_itself d = record { count = refl; reach = λ h u. refl }

pub reach_from_x4 : (hours : ℕ) (m n : Marks) → AlikeFromX4 m n → ReachAlike (day_of hours m) (day_of hours n)
reach_from_x4 hours m n e = record {
  count = refl;
  reach = λ h u i. marked (e.x4 i) h || (e.rtc i && (marked (e.x5 i) h || marked (e.x6 i) h));
}

x4_alone : (m : Marks) (h : ℕ) → m.rtc ≡ false → reaches m h ≡ marked m.x4 h
x4_alone m h off = grind (arith, or-false)

pub reach_without_rtc : (hours : ℕ) (m n : Marks) → m.rtc ≡ false → n.rtc ≡ false → m.x4 ≡ n.x4 → ReachAlike (day_of hours m) (day_of hours n)
reach_without_rtc hours m n off off' e = record {
  count = refl;
  reach = λ h u. x4_alone m h off ∙ ap (λ (w : ℕ). marked w h) e ∙ sym (x4_alone n h off');
}

module _ (before own after before' own' after' : MarkedDay) (b : ReachAlike before before') (o : ReachAlike own own') (a : ReachAlike after after') where
  joined_alike : (k : ℕ) → k < hours_of_all before own after → joined before own after k ≡ joined before' own' after' k
  joined_alike k u = grind (arith, common_steps, by_day, of_before, of_own, of_after)

  pub reached_alike : (h : ℕ) → reached before own after h ≡ reached before' own' after' h
  reached_alike h = grind (arith, reached_same, joined_alike)
