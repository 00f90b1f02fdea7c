-- `import_fault` meets its contract: the checks are asked in their order, and the first fault stands.
use Rattle.tariff.proofs.ImportRanges.{import_range_says}
use Rattle.tariff.proofs.Answers.{found_told}
use Rattle.checks.proofs.import_fault.Goals as goal

pub seconds_fault-requires : goal.seconds_fault-requires
seconds_fault-requires c = (found_told c.form_fault.ensures c.in_ok-form_fault.was, λ i u. ((import_range_says _ _ (found_told c.range_fault.ensures c.in_ok-range_fault.was)).1 i u).s)
