use native.Mathlib.Omega.{arith}
use Rattle.intake.proofs.Stretches.{next_stretch}
use Rattle.intake.proofs.keep.Goals as goal

pub loop-b-preserved : goal.loop-b-preserved
loop-b-preserved c =
    let l = c.loop-b in
    let e = next_stretch l.store l.state _ _ _ (omega arith) c.stretch_of-m.ensures.count c.if-m-eq0.false _ c.split_at.ensures.front in
    (cc, cc)
