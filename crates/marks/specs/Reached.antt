-- An hour of a day that a mark of the day before or of the day after reaches, told by counting: at most two hours away along the joined days.
use Rattle.std.specs.Prelude.{◌≡◌, true, ℕ, ◌+◌, ◌<◌, ◌≤◌}
use Rattle.tariff.specs.declared.MarkedDay.{MarkedDay}
use Rattle.tariff.specs.Eligible.{reaches}

-- an hour of the day before, at most two before hour h
pub record ReachedFromBefore (before : MarkedDay) (h : ℕ) : Type 0 where
  pub hour : ℕ
  pub of_the_day : hour < before.hours
  pub has_a_mark : reaches before.marks hour ≡ true
  pub at_most_two : before.hours + h ≤ hour + 2

-- an hour of the day after, at most two after hour h
pub record ReachedFromAfter (own after : MarkedDay) (h : ℕ) : Type 0 where
  pub hour : ℕ
  pub of_the_day : hour < after.hours
  pub has_a_mark : reaches after.marks hour ≡ true
  pub at_most_two : own.hours + hour ≤ h + 2
