-- Document 01's rule, which looks inside the day alone, as one mark of the day that reaches an hour.
use mathlib.Core.Path.{◌≡◌}
use mathlib.Core.Bool.{Bool, true, ◌&&◌, ◌||◌, or_assoc}
use Prim.Native.Nat.{ℕ, ◌+◌, ◌<◌, ◌≤◌}
use Rattle.tariff.specs.declared.Marks.{Marks}
use Rattle.tariff.specs.declared.MarkedDay.{MarkedDay}
use Rattle.tariff.specs.Eligible.{marked, reaches}
use Rattle.tariff.proofs.Tests.{and_left, and_right, and_both}
use Rattle.marks.specs.Alone.{by_itself, marked_near, excluded_alone}
use Rattle.marks.proofs.Some.{or_first, or_second, or_cases}
use Rattle.marks.proofs.Near.{near_by, near_from}

-- what excludes an hour by a mark of the day at most two hours away
abbrev pub by_near : MarkedDay → ℕ → Bool
by_near d h =
    marked_near d.hours d.marks.x4 h
    || (d.marks.rtc && (marked_near d.hours d.marks.x5 h || marked_near d.hours d.marks.x6 h))

pub alone_parts : (d : MarkedDay) (h : ℕ) → excluded_alone d h ≡ (by_itself d.marks h || by_near d h)
unfolding excluded_alone
alone_parts d h = or_assoc (by_itself d.marks h) _ _

module _ (d : MarkedDay) (h : ℕ) where
  abbrev m : Marks
  m = d.marks

  abbrev with_rtc_lem : ℕ → Bool
  with_rtc_lem g = marked m.x5 g || marked m.x6 g

  abbrev near₄ : Bool
  near₄ = marked_near d.hours m.x4 h

  abbrev near₅ : Bool
  near₅ = marked_near d.hours m.x5 h

  abbrev near₆ : Bool
  near₆ = marked_near d.hours m.x6 h

  pub by_near-by : (g : ℕ) → g < d.hours → reaches m g ≡ true → g ≤ h + 2 → h ≤ g + 2 → by_near d h ≡ true
  by_near-by g u e v w =
      or_cases (marked m.x4 g) (m.rtc && with_rtc_lem g) e
      (λ f. or_first near₄ _ (near_by (marked m.x4) d.hours h g u f v w))
      (λ f. or_second near₄ _ (and_both m.rtc (near₅ || near₆) (and_left _ _ f)
      (or_cases (marked m.x5 g) (marked m.x6 g) (and_right m.rtc (with_rtc_lem g) f)
      (λ f₅. or_first near₅ near₆ (near_by (marked m.x5) d.hours h g u f₅ v w))
      (λ f₆. or_second near₅ near₆ (near_by (marked m.x6) d.hours h g u f₆ v w)))))

  pub by_near-from : {P : Type 0} → by_near d h ≡ true → ((g : ℕ) → g < d.hours → reaches m g ≡ true → g ≤ h + 2 → h ≤ g + 2 → P) → P
  by_near-from e found =
      or_cases near₄ (m.rtc && (near₅ || near₆)) e
      (λ f. near_from (marked m.x4) d.hours h f (λ g u t. found g u (or_first (marked m.x4 g) _ t)))
      (λ f.
      let rtc = and_left m.rtc (near₅ || near₆) f in
      or_cases near₅ near₆ (and_right m.rtc (near₅ || near₆) f)
      (λ f₅. near_from (marked m.x5) d.hours h f₅ (λ g u t. found g u
      (or_second (marked m.x4 g) _ (and_both m.rtc (with_rtc_lem g) rtc (or_first (marked m.x5 g) (marked m.x6 g) t)))))
      (λ f₆. near_from (marked m.x6) d.hours h f₆ (λ g u t. found g u
      (or_second (marked m.x4 g) _ (and_both m.rtc (with_rtc_lem g) rtc (or_second (marked m.x5 g) (marked m.x6 g) t))))))
