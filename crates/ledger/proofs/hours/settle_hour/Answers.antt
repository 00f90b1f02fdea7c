-- `hours::settle_hour` meets its contract: the block is lent from its place to the sheet's end, and the row has room for 30.
use Rattle.ledger.specs.Day.{generator_answer}
use Rattle.ledger.specs.IclDay.{icl_answer}
use Rattle.ledger.proofs.Walks.{lent_reply}
use Rattle.ledger.proofs.hours.settle_hour.Goals as goal

pub returns-in-Generator : goal.returns-in-Generator
returns-in-Generator c =
    let a = c.args in
    rw c.in-Generator.is
    (lent_reply generator_answer a.s.now a.at a.k a.excluded a.hours c.settle_block.result c.requires.1 c.settle_block.ensures.reply)

pub returns-in-Icl : goal.returns-in-Icl
returns-in-Icl c =
    let a = c.args in
    rw c.in-Icl.is
    (lent_reply icl_answer a.s.now a.at a.k a.excluded a.hours c.settle_icl_block.result c.requires.1 c.settle_icl_block.ensures.reply)
