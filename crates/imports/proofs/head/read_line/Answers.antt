-- `head::read_line` meets its contract: line 1 with its third pair, or without it.
use mathlib.Core.Path.{refl, ◌∙◌}
use native.Mathlib.Omega.{arith}
use borrow.Author.Rules.{rules}
use Rattle.exact.proofs.Held.{held_is}
use Rattle.keys.specs.Keys.{IMPORT}
use Rattle.lines.proofs.Lines.{fields_read, line_is}
use Rattle.imports.proofs.Heads.{line_long, line_short}
use Rattle.imports.proofs.head.read_line.Goals as goal

pub returns-in-Some : goal.returns-in-Some
returns-in-Some c =
    let f = fields_read IMPORT 3 _ 0 _ refl c.fields_at-three.ensures in
    let v = f.values in
    rw (held_is _ _ (search rules) (v 0 (omega arith)), held_is _ _ (search rules) (v 1 (omega arith)), held_is _ _ (search rules) (v 2 (omega arith)))
    (line_long _ (line_is IMPORT 3 _ 0 _ _ f.next c.line_end.ensures ∙ c.in-Some.is))

pub returns-in_err-next : goal.returns-in_err-next
returns-in_err-next c =
    let f = fields_read IMPORT 3 _ 0 _ refl c.fields_at-three.ensures in
    let g = fields_read IMPORT 2 _ 0 _ refl c.fields_at-two.ensures in
    let none = line_is IMPORT 2 _ 0 _ _ g.next c.line_end-2.ensures ∙ c.in_err-next.was in
    let short = line_short _ (line_is IMPORT 3 _ 0 _ _ f.next c.line_end.ensures ∙ c.in_default.is) in
    rw c.from_residual.ensures (rw none at short)

pub returns : goal.returns
returns c =
    let f = fields_read IMPORT 3 _ 0 _ refl c.fields_at-three.ensures in
    let g = fields_read IMPORT 2 _ 0 _ refl c.fields_at-two.ensures in
    let some = line_is IMPORT 2 _ 0 _ _ g.next c.line_end-2.ensures ∙ c.in_ok-next.was in
    let short = line_short _ (line_is IMPORT 3 _ 0 _ _ f.next c.line_end.ensures ∙ c.in_default.is) in
    rw (held_is _ _ (search rules) (g.values 0 (omega arith)), held_is _ _ (search rules) (g.values 1 (omega arith))) (rw some at short)
