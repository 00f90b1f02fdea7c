-- `heads::number_of` reads the number of a line of one.
use native.Mathlib.Omega.{arith}
use borrow.Author.Rules.{rules}
use Rattle.exact.proofs.Held.{held_is}
use Rattle.lines.proofs.Lines.{is_line_lem, fields_read}
use Rattle.header.proofs.heads.number_of.Goals as goal

pub returns : goal.returns
returns c =
    let fields = fields_read c.args.key 1 _ _ _ (is_line_lem c.args.key 1 (let u = c.requires in omega arith) (omega arith)) c.fields_at.ensures in
    held_is _ _ (search rules) (fields.values 0 (omega arith))
