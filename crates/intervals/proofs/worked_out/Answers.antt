-- `worked_out` finds the first fault of the walk, and where there is none has the contributions and their sum.
use mathlib.Core.Path.{refl}
use Rattle.tariff.proofs.Answers.{found_told}
use Rattle.intervals.proofs.Works.{refused_by_walk, worked_out_lem}
use Rattle.intervals.proofs.worked_out.Goals as goal

pub returns-in-Err : goal.returns-in-Err
returns-in-Err c =
    refused_by_walk refl c.refused_by.result _ c.refused_by.ensures (found_told c.walk-w.ensures.first c.in-Err.is)

pub sum_of-sum-requires : goal.sum_of-sum-requires
sum_of-sum-requires c = (c.requires.few, c.walk-w.ensures.bounded)

pub returns : goal.returns
returns c =
    worked_out_lem refl c.requires.few c.walk-w.result c.walk-w.ensures c.in_default.is c.sum_of-sum.result c.sum_of-sum.ensures

pub walk-w-requires : goal.walk-w-requires
walk-w-requires c = c.requires
