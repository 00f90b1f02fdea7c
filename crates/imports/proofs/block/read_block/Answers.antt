-- `block::read_block` meets its contract, line by line.
use Rattle.text.specs.Text.{Next}
use Rattle.std.specs.Prelude.{Ok, Err}
use mathlib.Core.Path.{◌≡◌, refl, ◌∙◌}
use mathlib.Core.List.{List}
use Prim.Native.Nat.{ℕ}
use native.Mathlib.Omega.{arith}
use borrow.Author.Rules.{rules}
use Rattle.std.proofs.lemmas.Result.{err_from_is_err_and}
use Rattle.exact.proofs.Held.{held_is}
use Rattle.keys.specs.Keys.{IMPORT_HOUR}
use Rattle.lines.specs.declared.Fields.{Fields}
use Rattle.lines.specs.Line.{fields_at, and_then, line_feed}
use Rattle.lines.proofs.Exits.{exit}
use Rattle.lines.proofs.Lines.{FieldsRead, fields_read, line_is}
use Rattle.imports.specs.Import.{import_hour_line}
use Rattle.imports.proofs.Blocks.{block_line1, block_series}
use Rattle.imports.proofs.block.read_block.Goals as goal

-- what is known of line 1
fields1 : (s : List ℕ) (at : ℕ) (r : Fields) → r ≡ fields_at IMPORT_HOUR 3 s at → FieldsRead IMPORT_HOUR 3 s at r
fields1 s at r e = fields_read IMPORT_HOUR 3 _ at _ refl e

line1 : (s : List ℕ) (at : ℕ) (r : Fields) → r ≡ fields_at IMPORT_HOUR 3 s at → (end : Next) → end ≡ and_then r.next (line_feed s) → import_hour_line s at ≡ end
line1 s at r e end f = line_is IMPORT_HOUR 3 _ at _ _ (fields1 s at r e).next f

pub returns-in_err-line2 : goal.returns-in_err-line2
returns-in_err-line2 c =
    let e = c.in_err-line2.ensures in
    exit _ c.from_residual.ensures.1 e.value e.ok_part ∙ block_line1 _ _ (line1 _ _ _ c.fields_at-first.ensures _ c.line_end.ensures ∙ e.ok_part)

pub returns-in_err-n : goal.returns-in_err-n
returns-in_err-n c =
    let one = line1 _ _ _ c.fields_at-first.ensures _ c.line_end.ensures ∙ c.in_ok-line2.ensures.ok_part in
    let p = err_from_is_err_and c.from_residual-in_err-n.result c.from_residual-in_err-n.ensures.1 in
    rw (p.1, p.2) (block_series _ _ one (Err c.in_err-n.field-0.0) c.in_err-n.ensures)

pub returns : goal.returns
returns c =
    let v = (fields1 _ _ _ c.fields_at-first.ensures).values in
    let one = line1 _ _ _ c.fields_at-first.ensures _ c.line_end.ensures ∙ c.in_ok-line2.ensures.ok_part in
    rw (held_is _ _ (search rules) (v 0 (omega arith)), held_is _ _ (search rules) (v 1 (omega arith)), held_is _ _ (search rules) (v 2 (omega arith)))
    (block_series _ _ one (Ok _) c.in_ok-n.ensures)
