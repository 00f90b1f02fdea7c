-- What the code has read of an import's text, in the words of its definitions.
use Rattle.std.specs.Prelude.{◌≡◌, List, ℕ, ℤ, Option, None, Some, Result, Ok, Err}
use Rattle.text.specs.Text.{Next}
use Rattle.tariff.specs.declared.Check.{Check}
use Rattle.tariff.specs.declared.ImportHour.{ImportHour}
use Rattle.tariff.specs.Reply.{FORM, Verdict, clear, fault, put_in, number_of, place_of}
use Rattle.tariff.specs.Import.{in_hour, ImportReply, refused, otherwise, worth_by}
use Rattle.lines.specs.Line.{place_in}
use Rattle.imports.specs.declared.head.FirstLine.{FirstLine}
use Rattle.imports.specs.declared.head.Head.{Head}
use Rattle.imports.specs.Import.{head_line, head_place, name_in, cts_in, count_in, hours_in, head_fault, ImportBlock, broken, read, block_verdict, block_part}

-- ---- line 1: what it says and where it ends, or nothing where it is not as printed

abbrev pub line_by : Next → (name cts count : ℤ) → Option FirstLine
line_by (Some next) name cts count = Some (record { name = name; cts = cts; count = count; next = next })
line_by None name cts count = None

abbrev pub line_read : List ℕ → Option FirstLine
line_read s = line_by (head_line s) (name_in s) (cts_in s) (count_in s)

-- ---- the first two lines: the check that refuses them, or what they say and where they end

pub record HeadSaid (s : List ℕ) (r : Head) : Type 0 where
  pub sound : head_fault s ≡ clear
  pub name : r.name ≡ name_in s
  pub cts : r.cts ≡ cts_in s
  pub hours : r.hours ≡ hours_in s
  pub next : r.next ≡ place_in (head_place s)

abbrev pub HeadRead : List ℕ → Result Head Check → Type 0
HeadRead s (Err check) = head_fault s ≡ fault (number_of check) (place_of check)
HeadRead s (Ok head) = HeadSaid s head

-- ---- a block: its record, or its first line that is not as printed, from 1

abbrev pub import_read_of : ImportBlock → Result ImportHour ℕ
import_read_of (broken line) = Err line
import_read_of (read h) = Ok h

-- ---- what a block is worth as block k of a day of so many hours

abbrev pub block_worth : (cts : ℤ) → (hours : ℕ) → ImportBlock → (k : ℕ) → Verdict × ℤ
block_worth cts hours b k = worth_by (block_verdict hours b k) (block_part cts b)

-- ---- the refusal of block k, handed on with its hour. A part is no refusal: were one handed on, it would be FORM at line 0, which no block has

abbrev pub handed_on : Verdict → (k : ℕ) → ImportReply
handed_on v k = otherwise (put_in (in_hour k) v) (refused FORM (in_hour k 0))
