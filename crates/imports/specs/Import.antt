-- An import's text: `import=N cts=C`, which ` hours=H` may end, an empty line, and a block for each of the day's hours.
use Rattle.text.specs.Text.{Next}
use Rattle.std.specs.Prelude.{if◌then◌else◌, Bool, ◌&&◌, List, ℕ, ℤ, pos, drop, None, Some}
use Rattle.tariff.specs.declared.Curtailed.{Curtailed}
use Rattle.tariff.specs.declared.ImportHour.{ImportHour}
use Rattle.tariff.specs.Units.{kw, price}
use Rattle.tariff.specs.Reply.{FORM, RANGE, Verdict, fault, unless, ◌then◌}
use Rattle.tariff.specs.Import.{blank_curtailed, import_fault, import_part, import_day_fault, ImportReply, import_reply_by}
use Rattle.tariff.specs.Sheet.{USUAL_DAY, is_count, hours_by, is_mark, is_name}
use Rattle.records.specs.Records.{curtailed_of}
use Rattle.keys.specs.Keys.{IMPORT, IMPORT_HOUR, CURTAILED}
use Rattle.lines.specs.Line.{is_at, place_in, and_then, value_in, line_feed, line_at, filled}
use Rattle.lines.specs.Series.{series_in, Series, line_count, broken_line, series_at}
use Rattle.lines.specs.Pieces.{rest_after, is_some}

-- ---- the first two lines: name, mark and the count of the day's hours, and an empty line

-- whether line 1 has the third pair, which may be left out; and how many pairs it has
abbrev pub says_hours : List ℕ → Bool
says_hours s = is_at (line_at IMPORT 3 s 0)

abbrev pub pairs_in : List ℕ → ℕ
pairs_in s = if says_hours s then 3 else 2

-- behind line 1, and behind both; or nowhere, where a line is not as printed
abbrev pub head_line : List ℕ → Next
head_line s = line_at IMPORT (pairs_in s) s 0

unfoldable pub head_place : List ℕ → Next
head_place s = and_then (head_line s) (line_feed s)

abbrev pub name_in : List ℕ → ℤ
name_in s = value_in IMPORT s 0 0

abbrev pub cts_in : List ℕ → ℤ
cts_in s = value_in IMPORT s 0 1

-- the count that is said, or else the usual one; and the day's hours by it
unfoldable pub count_in : List ℕ → ℤ
count_in s = if says_hours s then value_in IMPORT s 0 2 else pos USUAL_DAY

unfoldable pub hours_in : List ℕ → ℕ
hours_in s = hours_by (count_in s)

abbrev pub head_in_range : List ℕ → Bool
head_in_range s = is_name (name_in s) && is_mark (cts_in s) && is_count (count_in s)

unfoldable pub head_fault : List ℕ → Verdict
head_fault s =
    unless (is_at (head_line s)) FORM 1
    then unless (is_at (head_place s)) FORM 2
    then unless (head_in_range s) RANGE 1

abbrev pub import_body : List ℕ → List ℕ
import_body s = drop (place_in (head_place s)) s

-- ---- the lines of a block: line 1, and interval lines

abbrev pub import_hour_line : List ℕ → ℕ → Next
import_hour_line = line_at IMPORT_HOUR 3

-- an interval line, and what it says
abbrev pub curtailed_line : List ℕ → ℕ → Next
curtailed_line = line_at CURTAILED 7

abbrev pub curtailed_said : List ℕ → ℕ → Curtailed
curtailed_said s at = curtailed_of (value_in CURTAILED s at)

-- where the first interval line stands at `at`: interval i; and how many there are, up to 30, from line 2 on
abbrev pub curtailed_at : List ℕ → (at i : ℕ) → Curtailed
curtailed_at = series_in curtailed_line curtailed_said blank_curtailed

abbrev pub curtailed_lines : List ℕ → (at : ℕ) → Series
curtailed_lines s at = series_at curtailed_line 2 30 s at 0

-- ---- a block

pub data ImportBlock : Type 0 where
  broken : ℕ → ImportBlock
  read : ImportHour → ImportBlock

-- the record of line 1's values and n intervals, the first of which stands at `at`
abbrev pub import_hour_with : (ℕ → ℤ) → List ℕ → (at n : ℕ) → ImportHour
import_hour_with v s at n = record { hour = v 0; den = kw (v 1); dec = price (v 2); n = n; iv = filled n 30 (curtailed_at s at) blank_curtailed }

abbrev pub with_curtailed : (ℕ → ℤ) → List ℕ → ℕ → Series → ImportBlock
with_curtailed v s at (broken_line line) = broken line
with_curtailed v s at (line_count n) = read (import_hour_with v s at n)

abbrev pub after_import_line1 : Next → List ℕ → ℕ → ImportBlock
after_import_line1 None s from = broken 1
after_import_line1 (Some at) s from = with_curtailed (value_in IMPORT_HOUR s from) s at (curtailed_lines s at)

-- the block that begins at a place: read up to its first empty line or the end of the text
unfoldable pub import_block_at : List ℕ → ℕ → ImportBlock
import_block_at s from = after_import_line1 (import_hour_line s from) s from

-- ---- the day

-- the verdict on a block at place k of a day of so many hours: FORM comes before every other check
abbrev pub block_verdict : (hours : ℕ) → ImportBlock → ℕ → Verdict
block_verdict hours (broken line) k = fault FORM line
block_verdict hours (read h) k = import_fault hours h k

-- its part: a block that is not read has none, and its 0 is never paid, since its day is refused
abbrev pub block_part : (cts : ℤ) → ImportBlock → ℤ
block_part cts (broken line) = pos 0
block_part cts (read h) = import_part cts h

-- the reply to a body under its first two lines. An hour without a block is an empty block; if none is refused, bytes behind the last are ORDER
unfoldable pub reply_under : (head : Verdict) → (name cts : ℤ) → (hours : ℕ) → (body : List ℕ) → ImportReply
reply_under head name cts hours body =
    let block : ℕ → ImportBlock = λ k. import_block_at (rest_after k body) 0 in
    let day = import_day_fault head (λ k. block_verdict hours (block k) k) hours (is_some (rest_after hours body)) in
    import_reply_by name day (λ k. block_part cts (block k)) hours

unfoldable pub import_reply : List ℕ → ImportReply
import_reply s = reply_under (head_fault s) (name_in s) (cts_in s) (hours_in s) (import_body s)
