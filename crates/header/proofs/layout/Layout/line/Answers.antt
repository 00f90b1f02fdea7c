-- `Layout::line` gives the lines of a form: those of a day's sheet are its own in front of those that both forms have.
use mathlib.Core.Path.{sym, ◌∙◌}
use native.Mathlib.Omega.{arith}
use Rattle.header.proofs.Forms.{behind_one, behind_two}
use Rattle.header.proofs.layout.Layout.line.Goals as goal

pub returns-in_default : goal.returns-in_default
returns-in_default c = rw c.in-One.is (c.common_line.ensures ∙ sym (behind_one c.args.self.judged c.args.j (omega arith)))

pub returns-in_default-j : goal.returns-in_default-j
returns-in_default-j c = rw c.in-Two.is (c.common_line-in_default-j.ensures ∙ sym (behind_two c.args.self.judged c.args.j (omega arith)))
