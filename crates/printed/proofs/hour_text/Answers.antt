-- `hour_text` settles the block into a row of its own, and prints the answer of what the block says of itself.
use mathlib.Core.Path.{refl, ◌∙◌}
use borrow.Author.Rules.{rules}
use Rattle.exact.proofs.Calls.{handed}
use Rattle.printed.proofs.Texts.{hour_text_lem}
use Rattle.printed.proofs.hour_text.Goals as goal

pub returns : goal.returns
returns c =
    let settled = c.settle_block-answer.ensures in
    let said = c.said_by-said in
    let text = hour_text_lem c.args.block.now _ refl (handed said.result.hour (search rules) ∙ said.ensures.0) said.ensures.1 settled.row settled.reply in
    let put = c.answer_text.ensures in
    record { text = rw (← text) put.text; count = rw (← text) put.count; within = put.within }
