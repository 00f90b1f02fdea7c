use mathlib.Core.Path.{sym, ◌∙◌, ap}
use Prim.Native.Nat.{◌+◌}
use native.Mathlib.Omega.{arith}
use Rattle.std.specs.Option.{ok_or}
use Rattle.std.proofs.lemmas.Result.{err_from_is_err_and}
use Rattle.tariff.specs.declared.Check.TheVariants.{Form}
use Rattle.text.specs.Text.{Next}
use Rattle.header.specs.Header.{layout_by}
use Rattle.header.specs.Places.{is_keyed, fault_of}
use Rattle.header.proofs.HeaderLines.{places_begin, places_next, line_broken, none_broken, all_placed, line_keyed}
use Rattle.header.proofs.Forms.{lines_few, lines_keyed}
use Rattle.header.proofs.heads.places_of.Goals as goal

pub loop-j-init : goal.loop-j-init
loop-j-init c = places_begin _ _ _ 12

pub line_at-requires : goal.line_at-requires
line_at-requires c =
    let l = c.args.layout in
    ap is_keyed c.line.ensures ∙ line_keyed (layout_by l.form l.judged) c.loop-j.j (lines_keyed l.form l.judged)

pub returns-in_err-at-clause-told : goal.returns-in_err-at-clause-told
returns-in_err-at-clause-told c =
    let l = c.args.layout in
    let none = c.in_err-at.ensures in
    let exit = err_from_is_err_and c.from_residual.result c.from_residual.ensures.1 in
    rw (exit.1, exit.2)
    (ap fault_of (none.value ∙ ap (λ (o : Next). ok_or o (Form (c.loop-j.j + 1))) none.ok_part)
    ∙ line_broken (layout_by l.form l.judged) _ _ 13 (lines_few l.form l.judged) _ _ c.loop-j.invariant c.line.ensures
    (omega (arith, c.loop-j-test.true, c.lines-j-end.ensures)) (sym c.line_at.ensures ∙ none.ok_part))

pub loop-j-preserved : goal.loop-j-preserved
loop-j-preserved c =
    let l = c.args.layout in
    places_next (layout_by l.form l.judged) _ _ 13 (lines_few l.form l.judged) _ _ c.loop-j.invariant c.line.ensures
    (omega (arith, c.loop-j-test.true, c.lines-j-end.ensures)) _ (sym c.line_at.ensures ∙ c.in_ok-at.ensures.ok_part)

pub returns-clause-told : goal.returns-clause-told
returns-clause-told c =
    let l = c.args.layout in
    none_broken (layout_by l.form l.judged) _ _ 13 (lines_few l.form l.judged) _ _ c.loop-j.invariant (omega (arith, c.loop-j-test.false, c.lines-j-end.ensures))

pub returns-clause-placed : goal.returns-clause-placed
returns-clause-placed c =
    let l = c.args.layout in
    all_placed (layout_by l.form l.judged) _ _ 13 (lines_few l.form l.judged) _ _ c.loop-j.invariant (omega (arith, c.loop-j-test.false, c.lines-j-end.ensures))
