-- The day of an internal controllable line: its header stands in front of its blocks, an hour that is not marked is excluded, and each block is
-- answered by 25.3.5. Its answers and its total are those of any day.
use Rattle.std.specs.Prelude.{List, ℕ, drop}
use Rattle.header.specs.IclHeader.{icl_header_fault, icl_hours_of, icl_unmarked_under, icl_next_under}
use Rattle.iclblocks.specs.IclBlock.{icl_block_of}
use Rattle.iclsheet.specs.IclSettle.{icl_reply_to}
use Rattle.ledger.specs.Day.{BlockAnswer, Front}

-- no block has more intervals than the lent row has room for
abbrev pub icl_answer : BlockAnswer
icl_answer s is_excluded expected = icl_reply_to (icl_block_of s) is_excluded expected 30

abbrev pub icl_front_of : List ℕ → Front
icl_front_of s =
    let v = icl_header_fault s in
    record { fault = v; header = 0; hours = icl_hours_of s; is_excluded = icl_unmarked_under v s; body = drop (icl_next_under v s) s; answer = icl_answer }
