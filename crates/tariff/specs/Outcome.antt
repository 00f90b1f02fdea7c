-- An hour of any kind: what the checks of its block find, and what each of its intervals comes to. The reply and the lent row follow from
-- these and from the count of intervals alone.
use Rattle.std.specs.Prelude.{List, ◌++◌, ℕ, ◌+◌, leb, length, drop, ℤ, pos}
use Rattle.exact.specs.Whole.{up_to, sum_to}
use Rattle.tariff.specs.Units.{cents_of}
use Rattle.tariff.specs.Curve.{Amount, known, none}
use Rattle.tariff.specs.Reply.{Reply, paid, refused, REACH, ROOM, Verdict, clear, fault, unless, ◌then◌, otherwise, first_of}

-- an interval gives grains, or a check stops the hour there
pub data Outcome : Type 0 where
  gives : ℤ → Outcome
  stops : (number : ℕ) → Outcome

-- an amount that is known is given; where a price is missing the hour stops
abbrev pub or_reach : Amount → Outcome
or_reach (known grains) = gives grains
or_reach none = stops REACH

-- ---- the checks that go interval by interval: the first that is stopped refuses the hour, at its own number from 1

abbrev pub fault_at : ℕ → Outcome → Verdict
fault_at i (gives grains) = clear
fault_at i (stops number) = fault number (i + 1)

unfoldable pub first_stop : (ℕ → Outcome) → (n : ℕ) → Verdict
first_stop outcome n = first_of (λ i. fault_at i (outcome i)) n

-- ---- the sum of the contributions

-- a stopped interval has no contribution: its 0 is never paid, since its hour is refused
abbrev pub amount : Outcome → ℤ
amount (gives grains) = grains
amount (stops number) = pos 0

unfoldable pub sum_by : (ℕ → Outcome) → (n : ℕ) → ℤ
sum_by outcome n = sum_to (λ i. amount (outcome i)) n

-- ---- the reply to a call that lends a row of `room` entries, and the row

unfoldable pub reply_by : Verdict → (ℕ → Outcome) → (n room : ℕ) → Reply
reply_by block outcome n room =
    otherwise
    (block then first_stop outcome n then unless (leb n room) ROOM 0)
    (paid (sum_by outcome n) (cents_of (sum_by outcome n)))

-- paid: the first entries are the contributions, and later ones as before. Refused: no entry is changed
abbrev pub row_for : Reply → (ℕ → Outcome) → (n : ℕ) → List ℤ → List ℤ
row_for (paid sum cents) outcome n row = up_to (λ i. amount (outcome i)) n ++ drop n row
row_for (refused number place) outcome n row = row

unfoldable pub row_by : Verdict → (ℕ → Outcome) → (n : ℕ) → List ℤ → List ℤ
row_by block outcome n row = row_for (reply_by block outcome n (length row)) outcome n row
