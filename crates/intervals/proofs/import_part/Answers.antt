-- `import_part` refuses by the first fault of its block, and otherwise gives its sum, or 0 where that is below 0.
use Rattle.exact.proofs.Calls.{handed}
use Rattle.tariff.specs.Import.{import_part}
use Rattle.tariff.proofs.Answers.{found_told}
use Rattle.tariff.proofs.ImportRanges.{import_clear_says}
use Rattle.intervals.proofs.import_part.Goals as goal

-- where the block has no fault
pub curtailed_sum-sum-requires : goal.curtailed_sum-sum-requires
curtailed_sum-sum-requires c =
    let a = c.args in
    let p = import_clear_says a.hours a.h a.k (found_told c.import_fault.ensures c.in_ok-import_fault.was) in
    (p.0, a.hours, p.1)

pub returns : goal.returns
unfolding import_part
returns c =
    rw (
      found_told c.import_fault.ensures c.in_ok-import_fault.was,
      c.gain_or_zero.ensures,
      c.curtailed_sum-sum.ensures,
      handed c.args.cts c.ranges.cts.sfits,
    )
