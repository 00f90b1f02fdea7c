-- The answer to a block of an internal controllable line, and the row that it leaves.
use Rattle.std.specs.Prelude.{Bool, List, ℕ, ℤ}
use Rattle.tariff.specs.declared.Expected.{Expected}
use Rattle.tariff.specs.Reply.{Reply}
use Rattle.tariff.specs.Controllable.{icl_reply, icl_row_after}
use Rattle.curves.specs.Answered.{framed_reply, framed_row}
use Rattle.iclblocks.specs.IclBlock.{IclBlock}

abbrev pub icl_reply_to : IclBlock → Bool → Expected → ℕ → Reply
icl_reply_to = framed_reply icl_reply

abbrev pub icl_row_to : IclBlock → Bool → Expected → List ℤ → List ℤ
icl_row_to = framed_row icl_row_after
