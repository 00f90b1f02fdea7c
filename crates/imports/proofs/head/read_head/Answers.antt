-- `head::read_head` meets its contract: the two lines, and then their ranges.
use mathlib.Core.Path.{refl, sym, ◌∙◌}
use borrow.Author.Rules.{rules}
use Rattle.exact.proofs.Held.{held_is}
use Rattle.lines.proofs.Exits.{exit}
use Rattle.imports.proofs.Heads.{no_line1, no_line2, out_of_range, head_said}
use Rattle.imports.proofs.head.read_head.Goals as goal

pub returns-in_err-line : goal.returns-in_err-line
returns-in_err-line c =
    let e = c.in_err-line.ensures in
    rw (exit _ c.from_residual.ensures.1 e.value e.ok_part) (no_line1 _ (sym e.ok_part ∙ c.read_line.ensures))

pub returns-in_err-next : goal.returns-in_err-next
returns-in_err-next c =
    let e = c.in_err-next.ensures in
    rw (exit _ c.from_residual-in_err-next.ensures.1 e.value e.ok_part)
    (no_line2 _ (sym c.in_ok-line.ensures.ok_part ∙ c.read_line.ensures) (sym c.line_end.ensures ∙ e.ok_part))

-- the values of line 1 are handed over by their bits
pub returns-then-not-in_range : goal.returns-then-not-in_range
returns-then-not-in_range c =
    let lies = rw (held_is c.in_ok-line.line.name _ (search rules) refl, held_is c.in_ok-line.line.cts _ (search rules) refl, held_is c.in_ok-line.line.count _ (search rules) refl) at c.if-not-in_range.ensures in
    out_of_range _ (sym c.in_ok-line.ensures.ok_part ∙ c.read_line.ensures) (sym c.line_end.ensures ∙ c.in_ok-next.ensures.ok_part) (sym lies)

pub returns : goal.returns
returns c =
    let lies = rw (held_is c.in_ok-line.line.name _ (search rules) refl, held_is c.in_ok-line.line.cts _ (search rules) refl, held_is c.in_ok-line.line.count _ (search rules) refl) at c.if-not-in_range.ensures in
    let hours = rw (held_is c.in_ok-line.line.count _ (search rules) refl) at c.hours_by.ensures in
    rw (held_is c.in_ok-line.line.name _ (search rules) refl, held_is c.in_ok-line.line.cts _ (search rules) refl)
    (head_said _ (sym c.in_ok-line.ensures.ok_part ∙ c.read_line.ensures) (sym c.line_end.ensures ∙ c.in_ok-next.ensures.ok_part) (sym lies) hours)
