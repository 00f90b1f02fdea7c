-- The words of request 5's theorems: when a neighbour's header stands, and inputs whose neighbours say the same.
use Rattle.std.specs.Prelude.{◌≡◌, true, false, List, ◌⊎◌, ◌≢◌, ℕ}
use Rattle.tariff.specs.declared.MarkedDay.{MarkedDay}
use Rattle.tariff.specs.Reply.{clear, fault}
use Rattle.lines.specs.Pieces.{rest_after}
use Rattle.marks.specs.Alike.{AlikeFromX4}
use Rattle.header.specs.Header.{header_fault, unit_of}
use Rattle.ledger.specs.Headers.{is_lacking, day_said, neighbour_of}
use Rattle.ledger.specs.Day.{front_of}

-- a neighbour's header stands: it is lacking, or it is read and of the day's own unit
abbrev pub Stands : (neighbour own : List ℕ) → Type 0
Stands neighbour own = (is_lacking neighbour ≡ true) ⊎ ((header_fault neighbour ≡ clear) × (unit_of neighbour ≡ unit_of own))

-- or it is not lacking, and says another unit than the day's own
abbrev pub OtherUnit : (neighbour own : List ℕ) → Type 0
OtherUnit neighbour own = (is_lacking neighbour ≡ false) × (unit_of neighbour ≢ unit_of own)

-- a header of an input refuses it
abbrev pub Refuses : List ℕ → (header number place : ℕ) → Type 0
Refuses s header number place = ((front_of s).fault ≡ fault number place) × ((front_of s).header ≡ header)

-- two inputs that are read, with the same blocks
pub record SameBlocks (s t : List ℕ) : Type 0 where
  pub one_read : (front_of s).fault ≡ clear
  pub other_read_lem : (front_of t).fault ≡ clear
  pub hours : (front_of s).hours ≡ (front_of t).hours
  pub body : (front_of s).body ≡ (front_of t).body

-- and whose own headers say the same of their day, while their neighbours are alike in some way
pub record NeighboursAlike (Alike : (d e : MarkedDay) → Type 0) (s t : List ℕ) : Type 0 where
  pub blocks : SameBlocks s t
  pub own : day_said (rest_after 1 s) ≡ day_said (rest_after 1 t)
  pub before : Alike (neighbour_of s) (neighbour_of t)
  pub after : Alike (neighbour_of (rest_after 2 s)) (neighbour_of (rest_after 2 t))

-- two days that differ in their categories and in x1 to x3 at most
abbrev pub AlikeButCatToX3 : (d e : MarkedDay) → Type 0
AlikeButCatToX3 d e = (d.hours ≡ e.hours) × AlikeFromX4 d.marks e.marks

-- two days without `rtc` that differ in those and in x5 and x6 at most
abbrev pub AlikeInX4 : (d e : MarkedDay) → Type 0
AlikeInX4 d e = (d.hours ≡ e.hours) × (d.marks.rtc ≡ false) × (e.marks.rtc ≡ false) × (d.marks.x4 ≡ e.marks.x4)
