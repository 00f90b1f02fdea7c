use mathlib.Core.Path.{◌≡◌, sym, ◌∙◌}
use Rattle.std.proofs.Common.{⊎_elim}
use Prim.Native.Nat.{◌≤◌}
use native.Mathlib.Omega.{arith}
use native.Mathlib.Nat.{add-zero}
use lib.ListN.{length, drop}
use Rattle.std.proofs.lemmas.Slice.{between_to_end}
use Rattle.lines.proofs.Cut.{empty_here, passes, never_empty}
use Rattle.lines.proofs.empty_line.Goals as goal
use Rattle.lines.proofs.empty_line.Goals.{In_ok-b-items, else-feed-via-then-feed+else-begins, else-feed-via-else-feed}

rest : (c : In_ok-b-items) → drop c.args.at c.args.s.now ≡ c.in_ok-b-items.b-items.now
rest c = sym (c.in_ok-b-items.ensures.lookup.0.2 ∙ between_to_end c.args.s.now c.args.at (length c.args.s.now) (omega arith))

pub returns-in_err-b-items : goal.returns-in_err-b-items
returns-in_err-b-items c =
    let past : length c.args.s.now ≤ c.args.at = ⊎_elim (λ h. omega arith) (λ h. omega arith) c.in_err-b-items.ensures.lookup.0 in
    rw c.from_residual.ensures (sym (never_empty _ _ _ _ past))

pub loop-n-init : goal.loop-n-init
loop-n-init c = rw add-zero

pub returns-then-begins : goal.returns-then-begins
returns-then-begins c =
    rw (rest (goal.at.returns-then-begins c).In_ok-b-items)
    (sym (c.loop-n.invariant ∙ empty_here _ _ _ _ c.loop-n-test.true c.if-feed.true c.if-begins.true))

pub loop-n-preserved : goal.loop-n-preserved
loop-n-preserved c =
    c.loop-n.invariant
    ∙ passes _ _ _ _ _ (omega arith) c.loop-n-test.true
    (elim c.else-feed.branch [
      | else-feed-via-then-feed+else-begins w ↦ λ e. w.if-begins.false
      | else-feed-via-else-feed w ↦ λ e. absurd (w.if-feed.false e)
    ])

pub returns : goal.returns
returns c =
    rw (rest (goal.at.returns c).In_ok-b-items) (sym (c.loop-n.invariant ∙ never_empty _ _ _ _ c.loop-n-test.false))
