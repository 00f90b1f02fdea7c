-- `faults::sum_fault` meets its contract: what is not 3600 is told.
use mathlib.Core.Path.{sym, ◌∙◌}
use Rattle.checks.proofs.faults.sum_fault.Goals as goal

pub returns-else-is_an_hour : goal.returns-else-is_an_hour
returns-else-is_an_hour c = rw (sym c.is_an_hour.ensures ∙ c.if-is_an_hour.false)
