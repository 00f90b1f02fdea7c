-- A day: what stands in front of its blocks, and a block for each of its hours. Each hour has an answer, and the day a total or none.
use Rattle.std.specs.Prelude.{Bool, List, ℕ, pos}
use Rattle.exact.specs.Whole.{up_to}
use Rattle.tariff.specs.declared.Expected.{Expected}
use Rattle.tariff.specs.declared.Expected.TheVariants.{Says}
use Rattle.tariff.specs.Reply.{Reply, Verdict, otherwise}
use Rattle.tariff.specs.Total.{Sum, total_of}
use Rattle.tariff.specs.Eligible.{excluded}
use Rattle.lines.specs.Pieces.{rest_after, is_some}
use Rattle.blocks.specs.Block.{block_of}
use Rattle.sheet.specs.Settle.{reply_to}
use Rattle.header.specs.Header.{hours_of}
use Rattle.ledger.specs.Headers.{day_said, neighbour_of, headers_fault, at_line, which_header}

-- ---- how a block is answered: by its text, whether its hour is excluded, and the hour that it has to say

abbrev pub BlockAnswer : Type 0
BlockAnswer = (block : List ℕ) → (is_excluded : Bool) → Expected → Reply

-- a generator's: no block has more intervals than the lent row has room for
abbrev pub generator_answer : BlockAnswer
generator_answer s is_excluded expected = reply_to (block_of s) is_excluded expected 30

-- ---- the front: a fault or none, which header has it, how many hours the day has, which of them are excluded, the text of the blocks, and how each is
-- answered

pub record Front : Type 0 where
  pub fault : Verdict
  pub header : ℕ
  pub hours : ℕ
  pub is_excluded : ℕ → Bool
  pub body : List ℕ
  pub answer : BlockAnswer

-- the front of what `day` reads: the text is cut at its empty lines, its first three pieces are the headers, each read up to its own empty line, and behind
-- them stand the blocks
abbrev pub front_of : List ℕ → Front
front_of s =
    let before = s in
    let own = rest_after 1 s in
    let after = rest_after 2 s in
    let judged = headers_fault before own after in
    record {
      fault = at_line judged;
      header = which_header judged;
      hours = hours_of own;
      is_excluded = excluded (neighbour_of before) (day_said own) (neighbour_of after);
      body = rest_after 3 s;
      answer = generator_answer;
    }

-- ---- the answers

-- the blocks are cut at their empty lines: a block is read up to its own, and an hour without a block is an empty block. Block k has to
-- say hour k
unfoldable pub hour_reply : Front → ℕ → Reply
hour_reply f k = f.answer (rest_after k f.body) (f.is_excluded k) (Says (pos k) f.hours)

-- a refused front refuses every hour, with its own number and place
unfoldable pub day_reply : Front → ℕ → Reply
day_reply f k = otherwise f.fault (hour_reply f k)

abbrev pub day_replies : Front → List Reply
day_replies f = up_to (day_reply f) f.hours

-- ---- the total: the sum of the paid cents, or none where an hour was refused or bytes follow the last block

abbrev pub surplus : Front → List ℕ
surplus f = rest_after f.hours f.body

abbrev pub day_total : Front → Sum
day_total f = total_of (day_reply f) f.hours (is_some (surplus f))
