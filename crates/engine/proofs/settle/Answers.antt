-- `settle` hands a refusal by any check but ROOM on; else what is paid out is the answer, and the row is left as it then is.
use mathlib.Core.Path.{sym, ap, ◌∙◌}
use native.Mathlib.Omega.{arith}
use Rattle.tariff.specs.Reply.{shown}
use Rattle.tariff.specs.Hour.{outcome_at, block_fault}
use Rattle.lent.proofs.Settled.{settles_refused, settles_paid}
use Rattle.engine.proofs.settle.Goals as goal

pub returns-in-Err : goal.returns-in-Err
returns-in-Err c =
    let s = c.args in
    let of = c.work_out-c.ensures in
    let e = sym of.found ∙ ap shown c.in-Err.is in
    let a = settles_refused (block_fault s.h s.expected) (outcome_at s.h s.excluded) s.h.n s.row.now _ _ e in
    record { reply = a.told; row = a.left }

pub returns : goal.returns
returns c =
    let w = c.work_out-c in
    let of = w.ensures in
    let s = c.args in
    let p = c.pay.ensures in
    let f = ap shown c.in_default.is in
    let few = of.few f in
    let long = of.long in
    let a =
    settles_paid (block_fault s.h s.expected) (outcome_at s.h s.excluded) s.h.n s.row.now
    (sym of.found ∙ f) few w.result.parts (omega arith) (of.written f) w.result.sum.0 (of.sum f) _ _ p.reply p.row
    in
    record { reply = a.told; row = a.left }
