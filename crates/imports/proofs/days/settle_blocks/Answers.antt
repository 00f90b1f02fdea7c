use mathlib.Core.Path.{◌≡◌, ◌∙◌}
use Prim.Native.Nat.{◌*◌, ◌≤◌}
use native.Mathlib.Omega.{arith}
use borrow.Author.Rules.{rules}
use Rattle.exact.proofs.Bits.{plain}
use Rattle.exact.proofs.Calls.{handed}
use Rattle.exact.proofs.Range.{within_more}
use Rattle.tariff.proofs.Wraps.{is_sum}
use Rattle.lines.proofs.Pieces.{piece_behind}
use Rattle.imports.proofs.Added.{none_added, here_within, one_added, one_refused, all_surplus, all_paid}
use Rattle.imports.proofs.days.settle_blocks.Goals as goal

pub loop-k-init : goal.loop-k-init
loop-k-init c = none_added _ _ _ _ c.requires.0

pub returns-in_default : goal.returns-in_default
returns-in_default c =
    let e = rw (handed c.args.head.cts (search rules)) at c.settle_block-answer.ensures in
    c.handed_on.ensures ∙ one_refused _ _ _ _ _ _ _ c.loop-k.invariant _ e _ _ c.loop-k-test.true c.in_default.is

pub loop-k-preserved : goal.loop-k-preserved
loop-k-preserved c =
    let L = c.loop-k in
    let e = rw (handed c.args.head.cts (search rules)) at c.settle_block-answer.ensures in
    let few : 108000000000000000 * L.k ≤ 4000000000000000000 = omega arith in
    let here = here_within _ _ _ _ _ _ _ L.invariant _ e _ c.in-Ok.is in
    let sum = is_sum tt (plain (within_more few L.invariant.within)) (plain here) c.add-sum.ensures in
    let next = piece_behind _ _ _ c.piece_after-i.ensures in
    rw sum.same (one_added _ _ _ _ _ _ _ L.invariant _ e _ c.in-Ok.is _ next.0 next.1)

-- after the last block
pub returns-then-i-s : goal.returns-then-i-s
returns-then-i-s c =
    let L = c.loop-k in
    let end : L.k ≡ c.args.head.hours = omega arith in
    all_surplus _ _ _ _ _ _ (rw end at L.invariant) _ c.if-i-s.true

pub returns : goal.returns
returns c =
    let L = c.loop-k in
    let end : L.k ≡ c.args.head.hours = omega arith in
    rw (handed c.args.head.name (search rules)) (all_paid _ _ _ _ _ _ (rw end at L.invariant) _ _ c.if-i-s.false c.cents_of.ensures)
