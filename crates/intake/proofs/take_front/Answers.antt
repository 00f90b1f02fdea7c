use Rattle.intake.proofs.Fronts.{a_part_more, taken}
use Rattle.intake.proofs.take_front.Goals as goal

pub returns-then-part-clause-taken : goal.returns-then-part-clause-taken
returns-then-part-clause-taken c =
    let l = c.loop in
    let p = c.read_part-part in
    taken _ _ _ (a_part_more l.store l.squeezed l.n l.invariant p.new.row p.result p.ensures.within.0 p.ensures.came) _ c.then-part.either
