-- `derate_of` meets its contract: figures out of range have no room; within it each call's arrays are those of the derate.
use mathlib.Core.Path.{sym, ◌∙◌, ap}
use Rattle.derate.specs.declared.cuts.Cut.{Cut}
use Rattle.derate.specs.declared.five.Cuts.{Cuts}
use Rattle.derate.proofs.Derates.{derated_none, out, exceeded, shared}
use Rattle.derate.proofs.derate_of.Goals as goal

pub returns-in_default : goal.returns-in_default
returns-in_default c = derated_none c.args.a c.args.v c.in_default.is

pub returns-in_err-das : goal.returns-in_err-das
returns-in_err-das c = c.from_residual.ensures ∙ out c.args.a c.args.v c.in-Some.is (rw c.in_err-das.ensures)

pub returns-in_err-rts : goal.returns-in_err-rts
returns-in_err-rts c = c.from_residual-in_err-rts.ensures ∙ out c.args.a c.args.v c.in-Some.is (rw (c.in_ok-das.ensures.0, c.in_err-rts.ensures))

pub returns-then-not-is_power : goal.returns-then-not-is_power
returns-then-not-is_power c =
    out c.args.a c.args.v c.in-Some.is (rw (c.in_ok-das.ensures.0, c.in_ok-rts.ensures.0, ← c.is_power.ensures) c.if-not-is_power.true)

pub returns-in_err-red : goal.returns-in_err-red
returns-in_err-red c =
    c.from_residual-in_err-red.ensures
    ∙ exceeded c.args.a c.args.v c.in-Some.is c.in_ok-das.ensures.0 c.in_ok-rts.ensures.0 (sym c.is_power.ensures ∙ c.if-not-is_power.false)
    c.in_ok-das.ensures.1 c.in_ok-rts.ensures.1 c.potentials.ensures c.sum_five.ensures c.cut_from-redtot.ensures c.in_err-red.ensures

pub returns : goal.returns
returns c =
    shared c.args.a c.args.v c.in-Some.is c.in_ok-das.ensures.0 c.in_ok-rts.ensures.0 (sym c.is_power.ensures ∙ c.if-not-is_power.false)
    c.in_ok-das.ensures.1 c.in_ok-rts.ensures.1 (ap (λ (p : Cuts). p.kw) c.in_ok-red.ensures.0 ∙ c.potentials.ensures)
    c.sum_five.ensures (ap (λ (r : Cut). r.0) c.in_ok-red.ensures.1 ∙ c.cut_from-redtot.ensures) c.in_ok-red.red.has_room c.shares.ensures c.reduce.ensures
