use Rattle.std.proofs.Common.{rules}
use lib.IntN.{pos}
use Rattle.tariff.specs.Units.{price}
use Rattle.points.proofs.Taken.{step_on}
use Rattle.points.proofs.steps_taken.Goals as goal
use Rattle.points.proofs.steps_taken.Goals.{then-before, else-before}

pub loop-k-preserved : goal.loop-k-preserved
loop-k-preserved c =
    step_on c.args.pen.0 c.args.at.now (price (pos 0)) c.loop-k-test.true c.loop-k.invariant.0 c.loop-k.invariant.1 (search rules)
    (elim c.if-before.branch [ then-before w ↦ rw w.if-before.true w.taken-is | else-before w ↦ rw w.if-before.false w.taken-is ])
