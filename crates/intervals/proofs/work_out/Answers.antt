-- `work_out` finds the first fault of every check of an hour but ROOM, and where there is none has the contributions and their sum.
use mathlib.Core.Path.{ap, ◌∙◌}
use Rattle.tariff.specs.Hour.{parts_of}
use Rattle.tariff.proofs.Answers.{found_told}
use Rattle.intervals.specs.Task.{of_task}
use Rattle.intervals.proofs.Fits.{tasks_walkable, asked_outcome}
use Rattle.intervals.proofs.Works.{no_fault_says, refused_by_block, contributions_alike}
use Rattle.intervals.proofs.work_out.Goals as goal

pub returns-in-Err : goal.returns-in-Err
returns-in-Err c =
    refused_by_block c.refused_by.result _ c.refused_by.ensures
    (found_told c.block_fault-fault.ensures c.in-Err.is)

-- where the block has no fault
pub tasks_of-tasks-requires : goal.tasks_of-tasks-requires
tasks_of-tasks-requires c =
    let a = c.args in
    let says = no_fault_says (parts_of a.h) a.expected (found_told c.block_fault-fault.ensures c.in_default.is) in
    (says.0, a.expected, says.1)

pub worked_out-requires : goal.worked_out-requires
worked_out-requires c =
    let a = c.args in
    let says = no_fault_says (parts_of a.h) a.expected (found_told c.block_fault-fault.ensures c.in_default.is) in
    tasks_walkable a.h (says.0, a.expected, says.1) a.excluded c.tasks_of-tasks.ensures

pub returns : goal.returns
returns c =
    let a = c.args in
    contributions_alike (found_told c.block_fault-fault.ensures c.in_default.is)
    (λ i u. ap (of_task a.h.da a.h.rt) (c.tasks_of-tasks.ensures.each i u) ∙ asked_outcome a.h a.excluded i)
    c.worked_out.result c.worked_out.ensures
