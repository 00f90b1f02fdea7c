-- The joined days, hour by hour: which day an hour is of, and what reaches an hour of the middle one.
use Rattle.std.proofs.lemmas.Grind.{common_steps}
use mathlib.Core.Path.{◌≡◌, sym, ◌∙◌}
use mathlib.Core.Bool.{true}
use Prim.Native.Nat.{ℕ, ◌+◌, ◌-◌, ◌<◌, ◌≤◌}
use native.Mathlib.Decide.{dec_lt}
use native.Mathlib.Omega.{arith}
use borrow.Author.Tests.{lt-ltb, le-ltb}
use Rattle.tariff.specs.declared.MarkedDay.{MarkedDay}
use Rattle.tariff.specs.Eligible.{reaches, joined, reached}
use Rattle.marks.proofs.Some.{agree}
use Rattle.marks.proofs.Near.{near_by, near_from}

module _ (before own after : MarkedDay) where
  abbrev pub hours_of_all : ℕ
  hours_of_all = before.hours + own.hours + after.hours

  -- ---- the day of an hour

  pub of_before : (k : ℕ) → k < before.hours → joined before own after k ≡ reaches before.marks k
  of_before k u = rw (lt-ltb k before.hours u)

  pub of_own : (k j : ℕ) → k ≡ before.hours + j → j < own.hours → joined before own after k ≡ reaches own.marks j
  of_own k j e u = grind (arith, common_steps, le-ltb, lt-ltb)

  pub of_after : (k j : ℕ) → k ≡ before.hours + own.hours + j → joined before own after k ≡ reaches after.marks j
  of_after k j e = grind (arith, common_steps, le-ltb)

  pub by_day : {P : Type 0} (k : ℕ)
      → k < hours_of_all
      → (k < before.hours → P)
      → ((j : ℕ) → k ≡ before.hours + j → j < own.hours → P)
      → ((j : ℕ) → k ≡ before.hours + own.hours + j → j < after.hours → P)
      → P
  by_day {P} k u in-before in-own in_after = go (dec_lt k before.hours) (dec_lt k (before.hours + own.hours))
    where
      go : Dec (k < before.hours) → Dec (k < before.hours + own.hours) → P
      go (yes v) w = in-before v
      go (no v) (yes w) = in-own (k - before.hours) (omega arith) (omega arith)
      go (no v) (no w) = in_after (k - (before.hours + own.hours)) (omega arith) (omega arith)

  -- ---- what reaches hour h of the middle day

  module _ (h : ℕ) where
    pub reached_by : (k : ℕ) → k < hours_of_all → joined before own after k ≡ true → k ≤ before.hours + h + 2 → before.hours + h ≤ k + 2
        → reached before own after h ≡ true
    reached_by = near_by (joined before own after) hours_of_all (before.hours + h)

    pub reached_from : {P : Type 0} → reached before own after h ≡ true
        → ((k : ℕ) → k < hours_of_all → joined before own after k ≡ true → k ≤ before.hours + h + 2 → before.hours + h ≤ k + 2 → P)
        → P
    reached_from = near_from (joined before own after) hours_of_all (before.hours + h)

-- three days with the counts of three others, alike at each hour near the one that is asked about
module _ (before own after before' own' after' : MarkedDay) (b : before.hours ≡ before'.hours) (o : own.hours ≡ own'.hours)
    (a : after.hours ≡ after'.hours) where
  pub reached_same : (h : ℕ)
      → ((k : ℕ) → k < hours_of_all before own after → k ≤ before.hours + h + 2 → before.hours + h ≤ k + 2
      → joined before own after k ≡ joined before' own' after' k)
      → reached before own after h ≡ reached before' own' after' h
  reached_same h same =
      agree _ _
      (λ e. reached_from before own after h e
      (λ k u d v w. reached_by before' own' after' h k (omega arith) (sym (same k u v w) ∙ d) (omega arith) (omega arith)))
      (λ e. reached_from before' own' after' h e
      (λ k u d v w. reached_by before own after h k (omega arith) (same k (omega arith) (omega arith) (omega arith) ∙ d) (omega arith) (omega arith)))
