-- `fields_at` reads the fields of a line, and none of what is no line.
use native.Mathlib.Omega.{arith}
use Rattle.lines.proofs.Lines.{blank_front, fields_in_front}
use Rattle.lines.proofs.fields_at.Goals as goal

pub each_at-next-requires-clause-blank : goal.each_at-next-requires-clause-blank
each_at-next-requires-clause-blank c = blank_front _ (omega arith)

pub returns : goal.returns
returns c = fields_in_front _ _ _ _ _ _ (omega arith) (omega arith) c.each_at-next.ensures.next c.each_at-next.ensures.values
