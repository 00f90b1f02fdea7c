-- `line_from` meets its contract: the line's head, a count of at most 12, its pairs, and its end.
use Rattle.std.specs.Prelude.{None, Some}
use mathlib.Core.Path.{◌≡◌, sym, ◌∙◌}
use mathlib.Core.List.{List}
use Prim.Native.Nat.{ℕ, ◌+◌, ◌≤◌}
use native.Mathlib.Omega.{arith}
use borrow.Author.Rules.{rules}
use Rattle.exact.proofs.Held.{held_is}
use Rattle.keys.specs.Keys.{KEYS}
use Rattle.lines.specs.declared.Fields.{Fields}
use Rattle.lines.specs.Line.{fields_at}
use Rattle.lines.proofs.Lines.{FieldsRead, is_line_lem, fields_read}
use Rattle.curves.proofs.CurveLines.{no_head, no_count, counted_line, no_pairs, pairs_end}
use Rattle.curves.proofs.line.line_from.Goals as goal
use Rattle.curves.proofs.line.line_from.Goals.{In_ok-n}

head : (first at : ℕ) (s : List ℕ) → first + 2 ≤ KEYS → (r : Fields) → r ≡ fields_at first 2 s at → FieldsRead first 2 s at r
head first at s q r e = fields_read first 2 s at r (is_line_lem first 2 q (omega arith)) e

pub returns-in_err-pairs : goal.returns-in_err-pairs
returns-in_err-pairs c =
    let h = head c.args.first c.args.at c.args.s.now c.requires _ c.fields_at-head.ensures in
    rw c.from_residual.ensures (no_head _ _ _ (sym h.next ∙ c.in_err-pairs.was))

pub returns-in_err-n : goal.returns-in_err-n
returns-in_err-n c =
    let h = head c.args.first c.args.at c.args.s.now c.requires _ c.fields_at-head.ensures in
    rw c.from_residual-in_err-n.ensures
    (no_count _ _ _ _ (sym h.next ∙ c.in_ok-pairs.was) (rw (held_is _ _ (search rules) (h.values 1 (omega arith))) at c.in_err-n.ensures))

pub returns-in_err-curve : goal.returns-in_err-curve
returns-in_err-curve c =
    let h = head c.args.first c.args.at c.args.s.now c.requires _ c.fields_at-head.ensures in
    rw c.from_residual-in_err-curve.ensures
    (no_pairs _ _ _ (rw (held_is _ _ (search rules) (h.values 0 (omega arith))) at c.in_err-curve.ensures)
    ∙ counted_line _ _ _ _ (sym h.next ∙ c.in_ok-pairs.was) _ (rw (held_is _ _ (search rules) (h.values 1 (omega arith))) at c.in_ok-n.ensures))

pub returns-in_err-line_end : goal.returns-in_err-line_end
returns-in_err-line_end c =
    let h = head c.args.first c.args.at c.args.s.now c.requires _ c.fields_at-head.ensures in
    rw c.from_residual-in_err-line_end.ensures
    (pairs_end _ _ _ (rw (held_is _ _ (search rules) (h.values 0 (omega arith))) at c.in_ok-curve.ensures) None c.in_err-line_end.ensures
    ∙ counted_line _ _ _ _ (sym h.next ∙ c.in_ok-pairs.was) _ (rw (held_is _ _ (search rules) (h.values 1 (omega arith))) at c.in_ok-n.ensures))

pub returns : goal.returns
returns c =
    let h = head c.args.first c.args.at c.args.s.now c.requires _ c.fields_at-head.ensures in
    pairs_end _ _ _ (rw (held_is _ _ (search rules) (h.values 0 (omega arith))) at c.in_ok-curve.ensures) (Some _) c.in_ok-line_end.ensures
    ∙ counted_line _ _ _ _ (sym h.next ∙ c.in_ok-pairs.was) _ (rw (held_is _ _ (search rules) (h.values 1 (omega arith))) at c.in_ok-n.ensures)
