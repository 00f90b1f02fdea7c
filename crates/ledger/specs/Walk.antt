-- What the code hands on from a day's front to the walk over its blocks, and what the walk gives: an answer for each, by a word of
-- excluded hours, and their total. And what a refused front gives instead.
use Rattle.std.specs.Prelude.{◌≡◌, false, List, ℕ, ◌+◌, ◌<◌, ◌≤◌, ℤ, length, drop, replicate, Err, None}
use Rattle.exact.specs.Whole.{Within}
use Rattle.tariff.specs.declared.Answer.TheVariants.{Refused}
use Rattle.tariff.specs.declared.Check.{Check}
use Rattle.tariff.specs.Units.{cents_of}
use Rattle.tariff.specs.Sheet.{LONGEST_DAY}
use Rattle.tariff.specs.Reply.{Reply, paid, refused, FORM, Finding, clear, otherwise, shown}
use Rattle.tariff.specs.Eligible.{marked}
use Rattle.tariff.specs.Total.{Sum, total, ◌plus◌, told_total, told_all}
use Rattle.marks.specs.Word.{word}
use Rattle.lines.specs.Line.{filled}
use Rattle.header.specs.Header.{header_fault, unit_of, unit_line}
use Rattle.ledger.specs.declared.Day.{Day}
use Rattle.ledger.specs.declared.front.Front as code
use Rattle.ledger.specs.declared.heads.Head.{Head}
use Rattle.ledger.specs.declared.heads.Judged.{Judged}
use Rattle.ledger.specs.declared.hours.Settled.{Settled}
use Rattle.ledger.specs.declared.hours.Kind.{Kind}
use Rattle.ledger.specs.declared.hours.Kind.TheVariants.{Generator, Icl}
use Rattle.ledger.specs.Headers.{is_lacking, day_said, neighbour_of, neighbour_fault, HeaderLine, at_line, which_header}
use Rattle.ledger.specs.Day.{BlockAnswer, generator_answer, Front, day_reply, day_total}
use Rattle.ledger.specs.IclDay.{icl_answer}

-- ---- one of the three headers: whether it is lacking, its fault, what it says of its day, and where it is read its unit and the line of that

pub record OwnRead (s : List ℕ) (r : Head) : Type 0 where
  pub lacking : r.lacking ≡ false
  pub fault : shown r.found ≡ header_fault s
  pub day : r.day ≡ day_said s
  pub unit : header_fault s ≡ clear → r.unit ≡ unit_of s
  pub line : r.line ≡ unit_line s

pub record NeighbourRead (s : List ℕ) (r : Head) : Type 0 where
  pub lacking : r.lacking ≡ is_lacking s
  pub fault : shown r.found ≡ neighbour_fault s
  pub day : r.day ≡ neighbour_of s
  pub unit : is_lacking s ≡ false → header_fault s ≡ clear → r.unit ≡ unit_of s
  pub line : is_lacking s ≡ false → r.line ≡ unit_line s

-- which of them refuses
pub record JudgedAs (j : Finding HeaderLine) (r : Judged) : Type 0 where
  pub fault : shown r.found ≡ at_line j
  pub header : r.header ≡ which_header j

-- ---- the front of a day: its fault and which header has it, how many hours it has, a bit for each that is excluded, and the place of the first block

pub record FrontRead (s : List ℕ) (f : Front) (r : code.Front) : Type 0 where
  pub fault : shown r.found ≡ f.fault
  pub header : r.header ≡ f.header
  pub hours : r.hours ≡ f.hours
  pub some : 0 < f.hours
  pub few : f.hours ≤ LONGEST_DAY
  pub excluded : r.excluded ≡ word f.hours f.is_excluded
  pub inside : r.next ≤ length s
  pub body : drop r.next s ≡ f.body

-- a day that is read, where bit k of a word says whether hour k is excluded
abbrev pub word_front : BlockAnswer → (word : ℕ) → List ℕ → (hours : ℕ) → Front
word_front answer word body hours = record { fault = clear; header = 0; hours = hours; is_excluded = marked word; body = body; answer = answer }

-- whose blocks they are
abbrev pub answer_of : Kind → BlockAnswer
answer_of Generator = generator_answer
answer_of Icl = icl_answer

-- ---- one answer more

-- the cents of a paid hour are those of its sum
pub record Rounded (r : Reply) : Type 0 where
  pub cents : (sum cents : ℤ) → r ≡ paid sum cents → cents ≡ cents_of sum

-- a total of at most N cents, or none
pub record UpToCents (N : ℕ) (x : Sum) : Type 0 where
  pub most : (c : ℤ) → x ≡ total c → Within N c

-- a total with one answer more; a sum that 64 bits hold is less than 2,600,000,000,000 cents
pub record Added (x : Sum) (answer : Reply) (after : Sum) : Type 0 where
  pub told : after ≡ (x plus answer)
  pub most : (N : ℕ) → UpToCents N x → UpToCents (N + 2600000000000) after

-- ---- the blocks: an answer for each hour, and in the room that the longest day has behind them that of an absent block, or the front's
-- refusal

abbrev pub absent : Reply
absent = refused FORM 1

abbrev pub held_replies : Front → List Reply
held_replies f = filled f.hours LONGEST_DAY (day_reply f) (otherwise f.fault absent)

pub record SettledTo (f : Front) (r : Settled) : Type 0 where
  pub answers : told_all r.hours ≡ held_replies f
  pub sum : told_total r.total ≡ day_total f

-- ---- a refused front refuses every hour

abbrev pub refused_day : Check → (header count : ℕ) → Day
refused_day check header count =
    record { found = Err check; header = header; count = count; hours = replicate LONGEST_DAY (Refused check); total = None }

-- ---- the day of a front: its fault and which header has it, its hours, their answers and the total

pub record DayOf (f : Front) (r : Day) : Type 0 where
  pub found : shown r.found ≡ f.fault
  pub header : r.header ≡ f.header
  pub count : r.count ≡ f.hours
  pub hours : told_all r.hours ≡ held_replies f
  pub total : told_total r.total ≡ day_total f
