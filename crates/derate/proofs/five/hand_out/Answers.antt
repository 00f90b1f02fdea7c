use mathlib.Core.Path.{refl}
use Rattle.std.proofs.Common.{rules}
use native.Mathlib.Omega.{arith}
use Rattle.derate.proofs.Rounds.{handed_none, handed_waits, handed_more}
use Rattle.derate.proofs.five.hand_out.Goals as goal

pub loop-init : goal.loop-init
loop-init c = handed_none c.args.rounded.kw c.args.rem (search rules)

pub largest-next-requires : goal.largest-next-requires
largest-next-requires c = handed_waits c.loop.invariant (omega arith)

pub loop-preserved : goal.loop-preserved
loop-preserved c = handed_more c.loop.invariant _ c.largest-next.ensures.0 c.largest-next.ensures.1 refl
