-- "Programs": what each program prints of a text.
use Rattle.std.specs.Prelude.{false, List, [], ℕ, ℤ, None, Some}
use Rattle.exact.specs.Whole.{up_to}
use Rattle.tariff.specs.declared.Expected.TheVariants.{Any}
use Rattle.tariff.specs.Hour.{contribution}
use Rattle.blocks.specs.Block.{Block, broken, read, block_of}
use Rattle.sheet.specs.Settle.{reply_to, hour_said}
use Rattle.ledger.specs.Day.{Front, front_of, day_replies, day_total}
use Rattle.ledger.specs.IclDay.{icl_front_of}
use Rattle.imports.specs.Import.{import_reply}
use Rattle.answers.specs.Answers.{answer_text, ending_of, day_lines, import_line}

-- no text is longer, so that a page of this many bytes holds each of them whole
abbrev pub LONGEST : ℕ
LONGEST = 2048

abbrev pub contributions_of : Block → List ℤ
contributions_of (broken line) = []
contributions_of (read h) = up_to (contribution h false) h.n

-- `hour`: its block is taken as eligible and without check 3
unfoldable pub hour_text : List ℕ → List ℕ
hour_text s = let b = block_of s in answer_text (hour_said b) (contributions_of b) (reply_to b false Any 30)

-- what is printed of a front and of the blocks behind it. `ending` is what ends a refused header's line, by which header it is
unfoldable pub day_page : (ending : ℕ → List ℕ) → Front → List ℕ
day_page ending f = day_lines (ending f.header) f.fault (day_replies f) (day_total f)

-- `day`: it says which of its three headers is refused
abbrev pub header_end : ℕ → List ℕ
header_end header = ending_of (Some header)

abbrev pub day_text : List ℕ → List ℕ
day_text s = day_page header_end (front_of s)

-- `line`: the day of an internal controllable line has one header
abbrev pub plain_end : ℕ → List ℕ
plain_end header = ending_of None

abbrev pub line_text : List ℕ → List ℕ
line_text s = day_page plain_end (icl_front_of s)

unfoldable pub import_text : List ℕ → List ℕ
import_text s = import_line (import_reply s)
