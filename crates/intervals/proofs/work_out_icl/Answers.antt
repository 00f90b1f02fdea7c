-- `work_out_icl` finds the first fault of checks 1 to 5 and 7, and where there is none has the contributions and their sum.
use mathlib.Core.Path.{ap, ◌∙◌}
use Rattle.tariff.specs.Controllable.{icl_parts}
use Rattle.tariff.proofs.Answers.{found_told}
use Rattle.intervals.specs.Task.{of_task}
use Rattle.intervals.proofs.Fits.{icl_tasks_walkable, icl_asked_outcome}
use Rattle.intervals.proofs.Works.{no_fault_says, refused_by_block, contributions_alike}
use Rattle.intervals.proofs.work_out_icl.Goals as goal

pub returns-in-Err : goal.returns-in-Err
returns-in-Err c =
    refused_by_block c.refused_by.result _ c.refused_by.ensures
    (found_told c.icl_fault-fault.ensures c.in-Err.is)

-- where the block has no fault
pub tasks_of-tasks-requires : goal.tasks_of-tasks-requires
tasks_of-tasks-requires c =
    (no_fault_says (icl_parts c.args.h) c.args.expected (found_told c.icl_fault-fault.ensures c.in_default.is)).2

pub worked_out-requires : goal.worked_out-requires
worked_out-requires c =
    let a = c.args in
    let says = no_fault_says (icl_parts a.h) a.expected (found_told c.icl_fault-fault.ensures c.in_default.is) in
    icl_tasks_walkable a.h says.0 a.expected says.1 a.excluded c.tasks_of-tasks.ensures

pub returns : goal.returns
returns c =
    let a = c.args in
    let says = no_fault_says (icl_parts a.h) a.expected (found_told c.icl_fault-fault.ensures c.in_default.is) in
    contributions_alike (found_told c.icl_fault-fault.ensures c.in_default.is)
    (λ i u. ap (of_task a.h.da a.h.rt) (c.tasks_of-tasks.ensures.each i u) ∙ icl_asked_outcome a.h says.0 a.expected says.1 a.excluded i u)
    c.worked_out.result c.worked_out.ensures
