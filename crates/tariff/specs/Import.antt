-- "Curtailed imports (25.6)": the ranges of an import's numbers, the checks of a block, what its intervals give, and the day.
use Rattle.std.specs.Prelude.{if◌then◌else◌, Bool, not, ◌&&◌, ℕ, ◌+◌, leb, get_or, ℤ, pos, ◌-ℤ◌, ◌*ℤ◌, Err, Ok}
use Rattle.std.specs.Int.Signed.{le_z}
use Rattle.exact.specs.Whole.{max_z, eq_z, sum_to}
use Rattle.tariff.specs.declared.Curtailed.{Curtailed}
use Rattle.tariff.specs.declared.ImportHour.{ImportHour}
use Rattle.tariff.specs.declared.ImportFault.{ImportFault}
use Rattle.tariff.specs.declared.ImportFault.TheVariants as found
use Rattle.tariff.specs.declared.ImportAnswer.{ImportAnswer}
use Rattle.tariff.specs.declared.ImportAnswer.TheVariants as answer
use Rattle.tariff.specs.Units.{kw, price, seconds, cents_of}
use Rattle.tariff.specs.Sheet.{is_mark, is_seconds, is_hour, is_capacity, is_price}
use Rattle.tariff.specs.Reply.{FORM, RANGE, ORDER, SECONDS, Finding, Verdict, clear, fault, unless, ◌then◌, put_in, first_of, number_of, place_of, Worth}

-- ---- ranges: power as capacities, all prices alike

unfoldable pub curtailed_in_range : Curtailed → Bool
curtailed_in_range v =
    is_seconds v.s.0
    && is_mark v.cut
    && (is_capacity v.prof.0 && is_capacity v.rten.0)
    && (is_price v.lbmp.0 && is_price v.bid.0 && is_price v.def.0)

-- ---- the checks of a block, in their order. Line 1 has the hour, 2 the first interval

-- what stands past a block's intervals: zeros
abbrev pub blank_curtailed : Curtailed
blank_curtailed = record { s = seconds (pos 0); cut = pos 0; prof = kw (pos 0); rten = kw (pos 0); lbmp = price (pos 0); bid = price (pos 0); def = price (pos 0) }

-- interval i, from 0
abbrev pub curtailed : ImportHour → ℕ → Curtailed
curtailed h i = get_or h.iv i blank_curtailed

-- line 32 would be one too many
unfoldable pub import_form : ImportHour → Verdict
import_form h = unless (leb h.n 30) FORM 32

unfoldable pub import_range : (hours : ℕ) → ImportHour → Verdict
import_range hours h =
    unless (is_hour hours h.hour && is_capacity h.den.0 && is_price h.dec.0) RANGE 1
    then first_of (λ i. unless (curtailed_in_range (curtailed h i)) RANGE (i + 2)) h.n

unfoldable pub import_order : ImportHour → ℕ → Verdict
import_order h k = unless (eq_z h.hour (pos k)) ORDER 1

unfoldable pub import_seconds : ImportHour → Verdict
import_seconds h = unless (eq_z (sum_to (λ i. (curtailed h i).s.0) h.n) (pos 3600)) SECONDS 0

-- the block at place k of a day of so many hours
abbrev pub import_fault : (hours : ℕ) → ImportHour → ℕ → Verdict
import_fault hours h k = import_form h then import_range hours h then import_order h k then import_seconds h

-- ---- an interval counts if the import is no CTS one, was cut, had a profile of at least its day-ahead schedule, and bid no more
-- than the default

unfoldable pub counts : (cts : ℤ) → ImportHour → Curtailed → Bool
counts cts h v = eq_z cts (pos 0) && eq_z v.cut (pos 1) && le_z h.den.0 v.prof.0 && le_z v.bid.0 v.def.0

unfoldable pub import_grains : (cts : ℤ) → ImportHour → Curtailed → ℤ
import_grains cts h v =
    if counts cts h v
    then (v.lbmp.0 -ℤ max_z h.dec.0 (pos 0)) *ℤ (h.den.0 -ℤ v.rten.0) *ℤ v.s.0
    else pos 0

unfoldable pub import_sum : (cts : ℤ) → ImportHour → ℤ
import_sum cts h = sum_to (λ i. import_grains cts h (curtailed h i)) h.n

-- ---- a block's part of the day: its sum, or 0 where that is below 0

unfoldable pub import_part : (cts : ℤ) → ImportHour → ℤ
import_part cts h = max_z (import_sum cts h) (pos 0)

-- ---- the day. A fault of it stands at a spot: outside the blocks, or in the block of an hour

pub data Spot : Type 0 where
  outside : (place : ℕ) → Spot
  in_hour : (hour place : ℕ) → Spot

-- the first two lines, each block, and whether bytes follow the last
unfoldable pub import_day_fault : (head : Verdict) → (block : ℕ → Verdict) → (hours : ℕ) → (surplus : Bool) → Finding Spot
import_day_fault head block hours surplus =
    put_in outside head then first_of (λ k. put_in (in_hour k) (block k)) hours then unless (not surplus) ORDER (outside 0)

-- ---- the reply: paid with the import's number, grains and cents, or refused with number and spot

pub data ImportReply : Type 0 where
  paid : (name grains cents : ℤ) → ImportReply
  refused : (number : ℕ) → (spot : Spot) → ImportReply

abbrev pub otherwise : Finding Spot → ImportReply → ImportReply
otherwise clear reply = reply
otherwise (fault number spot) reply = refused number spot

-- the parts of all hours become cents once
unfoldable pub import_reply_by : (name : ℤ) → Finding Spot → (part : ℕ → ℤ) → (hours : ℕ) → ImportReply
import_reply_by name day part hours = otherwise day (paid name (sum_to part hours) (cents_of (sum_to part hours)))

-- ---- what the code gives back, in these words

-- of a block its verdict, and its part where that is clear
abbrev pub worth_by : Verdict → (part : ℤ) → Verdict × ℤ
worth_by clear part = (clear, part)
worth_by (fault number place) part = (fault number place, pos 0)

abbrev pub worth_told : Worth → Verdict × ℤ
worth_told (Ok grains) = (clear, grains.0)
worth_told (Err check) = (fault (number_of check) (place_of check), pos 0)

abbrev pub import_fault_told : ImportFault → ImportReply
import_fault_told (found.Head check) = refused (number_of check) (outside (place_of check))
import_fault_told (found.Block hour check) = refused (number_of check) (in_hour hour (place_of check))
import_fault_told found.Surplus = refused ORDER (outside 0)

abbrev pub import_told : ImportAnswer → ImportReply
import_told (answer.Paid name grains cents) = paid name grains.0 cents.0
import_told (answer.Refused f) = import_fault_told f
