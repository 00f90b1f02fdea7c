-- The answer to a block, and the row that it leaves; and what a block says of itself.
use Rattle.std.specs.Prelude.{Bool, List, ℕ, ℤ, pos}
use Rattle.tariff.specs.declared.Expected.{Expected}
use Rattle.tariff.specs.Reply.{Reply}
use Rattle.tariff.specs.Hour.{reply, row_after}
use Rattle.curves.specs.Answered.{framed_reply, framed_row}
use Rattle.blocks.specs.Block.{Block, broken, read}

abbrev pub reply_to : Block → Bool → Expected → ℕ → Reply
reply_to = framed_reply reply

abbrev pub row_to : Block → Bool → Expected → List ℤ → List ℤ
row_to = framed_row row_after

-- what a block says of itself: its hour, and how many intervals it has
abbrev pub hour_said : Block → ℤ
hour_said (broken line) = pos 0
hour_said (read h) = h.hour

abbrev pub count_said : Block → ℕ
count_said (broken line) = 0
count_said (read h) = h.n
