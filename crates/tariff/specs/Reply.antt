-- "What a call gives back": an hour is paid, with its sum in grains and its cents, or refused with number and place.
use Rattle.std.specs.Prelude.{Result, Bool, true, false, ℕ, zero, suc, ℤ, Err, Ok}
use Rattle.tariff.specs.declared.Grains.{Grains}
use Rattle.tariff.specs.declared.Answer.{Answer}
use Rattle.tariff.specs.declared.Answer.TheVariants.{Paid, Refused}
use Rattle.tariff.specs.declared.Check.{Check}
use Rattle.tariff.specs.declared.Check.TheVariants.{Form, Range, Order, Curve, Seconds, Derate, Reach, Room, Back, Point}

pub data Reply : Type 0 where
  paid : (sum cents : ℤ) → Reply
  refused : (number place : ℕ) → Reply

-- ---- the table, which document 02 continues: each check's number, and the number and place for each case of the code's enum

abbrev pub FORM : ℕ
FORM = 1

abbrev pub RANGE : ℕ
RANGE = 2

abbrev pub ORDER : ℕ
ORDER = 3

abbrev pub CURVE : ℕ
CURVE = 4

abbrev pub SECONDS : ℕ
SECONDS = 5

abbrev pub DERATE : ℕ
DERATE = 6

abbrev pub REACH : ℕ
REACH = 7

abbrev pub ROOM : ℕ
ROOM = 8

abbrev pub BACK : ℕ
BACK = 9

abbrev pub POINT : ℕ
POINT = 10

abbrev pub number_of : Check → ℕ
number_of (Form line) = FORM
number_of (Range line) = RANGE
number_of Order = ORDER
number_of (Curve line) = CURVE
number_of Seconds = SECONDS
number_of (Derate interval) = DERATE
number_of (Reach interval) = REACH
number_of Room = ROOM
number_of Back = BACK
number_of (Point interval) = POINT

abbrev pub place_of : Check → ℕ
place_of (Form line) = line
place_of (Range line) = line
place_of Order = 1
place_of (Curve line) = line
place_of Seconds = 0
place_of (Derate interval) = interval
place_of (Reach interval) = interval
place_of Room = 0
place_of Back = 2
place_of (Point interval) = interval

-- an answer in these words
abbrev pub told : Answer → Reply
told (Paid sum cents) = paid sum.0 cents.0
told (Refused check) = refused (number_of check) (place_of check)

-- what an import's block is worth: its part of the day's sum, or the check that refuses it
abbrev pub Worth : Type 0
Worth = Result Grains Check

-- what a check finds: nothing, or a fault at a place. An hour's places are lines and intervals
pub data Finding (Place : Type 0) : Type 0 where
  clear : Finding Place
  fault : (number : ℕ) → (place : Place) → Finding Place

abbrev pub Verdict : Type 0
Verdict = Finding ℕ

-- the code's word for it: nothing, or the check that refuses
abbrev pub Found : Type 0
Found = Result Unit Check

abbrev pub shown : Found → Verdict
shown (Ok tt) = clear
shown (Err check) = fault (number_of check) (place_of check)

-- a fault where a rule is broken
abbrev pub unless : {Place : Type 0} → Bool → ℕ → Place → Finding Place
unless true number place = clear
unless false number place = fault number place

-- checks in their order: the first fault stands
infixr 2 ◌then◌
abbrev pub ◌then◌ : {Place : Type 0} → Finding Place → Finding Place → Finding Place
clear then w = w
(fault number place) then w = fault number place

-- a verdict on some lines, where these have places of another kind
abbrev pub put_in : {Place : Type 0} → (ℕ → Place) → Verdict → Finding Place
put_in spot clear = clear
put_in spot (fault number place) = fault number (spot place)

abbrev pub otherwise : Verdict → Reply → Reply
otherwise clear reply = reply
otherwise (fault number place) reply = refused number place

-- the same check at 0, 1, .. below n: the first fault stands
unfoldable pub first_of : {Place : Type 0} → (ℕ → Finding Place) → ℕ → Finding Place
first_of check zero = clear
first_of check (suc n) = first_of check n then check n
