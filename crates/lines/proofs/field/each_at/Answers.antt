use mathlib.Core.Path.{◌∙◌}
use borrow.Author.Rules.{rules}
use mir.Facts.{to_z-of_z}
use mir.Syntax.{w64}
use Rattle.std.proofs.lemmas.List.{set-get_or}
use Rattle.lines.proofs.Lines.{fields_begin, fields_more, fields_wrong}
use Rattle.lines.proofs.field.each_at.Goals as goal

pub loop-n-init : goal.loop-n-init
loop-n-init c = fields_begin _ _ _ _ c.requires.blank

pub returns-in_err-v-clause-next : goal.returns-in_err-v-clause-next
returns-in_err-v-clause-next c =
    c.from_residual.ensures ∙ (fields_wrong _ _ _ _ _ _ _ c.loop-n.invariant c.loop-n-test.true c.in_err-v.ensures).0

pub returns-in_err-v-clause-values : goal.returns-in_err-v-clause-values
returns-in_err-v-clause-values c =
    rw set-get_or (fields_wrong _ _ _ _ _ _ _ c.loop-n.invariant c.loop-n-test.true c.in_err-v.ensures).1

pub loop-n-preserved : goal.loop-n-preserved
loop-n-preserved c =
    rw (to_z-of_z {w = w64} {z = c.in_ok-v.v} (record { sfits = search rules }))
    (fields_more _ _ _ _ _ _ _ c.loop-n.invariant _ _ c.loop-n-test.true c.in_ok-v.ensures)
