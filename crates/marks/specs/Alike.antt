-- Days whose marks are alike: in every hour but one, or in what reaches other hours.
use Rattle.std.specs.Prelude.{◌≡◌, ◌≢◌, ℕ, ◌+◌, ◌<◌, get_or}
use Rattle.tariff.specs.declared.Marks.{Marks}
use Rattle.tariff.specs.declared.MarkedDay.{MarkedDay}
use Rattle.tariff.specs.Eligible.{marked, reaches, joined}

-- hour h has the same category and the same x1 to x3, which exclude their own hour
pub record OwnHourAlike (h : ℕ) (m n : Marks) : Type 0 where
  pub cat : get_or m.cat h 0 ≡ get_or n.cat h 0
  pub x1 : marked m.x1 h ≡ marked n.x1 h
  pub x2 : marked m.x2 h ≡ marked n.x2 h
  pub x3 : marked m.x3 h ≡ marked n.x3 h

-- and the same x4 to x6
pub record AlikeAt (h : ℕ) (m n : Marks) : Type 0 where
  pub itself : OwnHourAlike h m n
  pub x4 : marked m.x4 h ≡ marked n.x4 h
  pub x5 : marked m.x5 h ≡ marked n.x5 h
  pub x6 : marked m.x6 h ≡ marked n.x6 h

pub record AlikeBut (g : ℕ) (m n : Marks) : Type 0 where
  pub rtc : m.rtc ≡ n.rtc
  pub others : (h : ℕ) → h ≢ g → AlikeAt h m n

-- the same categories and the same x1 to x4
pub record AlikeToX4 (m n : Marks) : Type 0 where
  pub cat : m.cat ≡ n.cat
  pub x1 : m.x1 ≡ n.x1
  pub x2 : m.x2 ≡ n.x2
  pub x3 : m.x3 ≡ n.x3
  pub x4 : m.x4 ≡ n.x4

-- the same `rtc` and the same x4 to x6
pub record AlikeFromX4 (m n : Marks) : Type 0 where
  pub rtc : m.rtc ≡ n.rtc
  pub x4 : m.x4 ≡ n.x4
  pub x5 : m.x5 ≡ n.x5
  pub x6 : m.x6 ≡ n.x6

-- as many hours, of which the same have a mark that reaches others
pub record ReachAlike (d e : MarkedDay) : Type 0 where
  pub count : d.hours ≡ e.hours
  pub reach : (h : ℕ) → h < d.hours → reaches d.marks h ≡ reaches e.marks h

-- three days and three others with the same counts, alike in every hour but hour g of the joined days, be it of the day before, of the day
-- itself or of the day after. Of the neighbours only what reaches matters
pub record JoinedAlikeBut (g : ℕ) (before own after before' own' after' : MarkedDay) : Type 0 where
  pub count_before : before.hours ≡ before'.hours
  pub count_own : own.hours ≡ own'.hours
  pub count_after : after.hours ≡ after'.hours
  pub reach : (k : ℕ) → k < before.hours + own.hours + after.hours → k ≢ g → joined before own after k ≡ joined before' own' after' k
  pub own_hours : (h : ℕ) → before.hours + h ≢ g → OwnHourAlike h own.marks own'.marks
