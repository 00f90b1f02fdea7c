use mathlib.Core.Path.{◌≡◌, sym}
use Prim.Native.Nat.{◌+◌}
use native.Mathlib.Omega.{arith}
use Rattle.std.specs.Prelude.{Some}
use Rattle.std.proofs.lemmas.Result.{err_from_is_err_and}
use Rattle.records.proofs.Turns.{read_begin, read_end, read_all, read_over, read_break, read_next}
use Rattle.records.proofs.series.series_at.Goals as goal

pub loop-n-init : goal.loop-n-init
loop-n-init g c = read_begin _ _ _ _ _ _ _ _ (g.met.R.IntervalLine.default_is_blank _ c.default-iv.ensures)

pub returns-then-is_closed : goal.returns-then-is_closed
returns-then-is_closed g c = read_end c.loop-n.invariant (sym c.if-is_closed.ensures)

pub returns-in_err-i : goal.returns-in_err-i
returns-in_err-i g c =
    let none = c.in_err-i.ensures.ok_part in
    let given = rw (none, c.from-first.ensures) at c.in_err-i.ensures.value in
    let p = err_from_is_err_and c.from_residual.result c.from_residual.ensures.1 in
    let line : p.0 ≡ c.loop-n.n + c.args.line = cc in
    rw (p.1, line)
    (read_break c.loop-n.invariant (sym c.if-is_closed.ensures) g.met.R.IntervalLine.laws c.loop-n-test.true
    (rw (c.FIRST.ensures, c.FIELDS.ensures) at c.fields_at-fields.ensures) c.line_end.ensures none)

pub loop-n-preserved : goal.loop-n-preserved
loop-n-preserved g c =
    let some : c.line_end.result ≡ Some c.in_ok-i.i = grind arith in
    read_next c.loop-n.invariant (sym c.if-is_closed.ensures) g.met.R.IntervalLine.laws c.loop-n-test.true
    (rw (c.FIRST.ensures, c.FIELDS.ensures) at c.fields_at-fields.ensures) c.line_end.ensures some c.of.ensures

-- behind the thirtieth line
pub returns-then-is_closed-2 : goal.returns-then-is_closed-2
returns-then-is_closed-2 g c = read_all c.loop-n.invariant (sym c.if-is_closed-2.ensures) c.loop-n-test.false

pub returns-else-is_closed-2 : goal.returns-else-is_closed-2
returns-else-is_closed-2 g c = rw c.from-first.ensures (read_over c.loop-n.invariant (sym c.if-is_closed-2.ensures) c.loop-n-test.false)
