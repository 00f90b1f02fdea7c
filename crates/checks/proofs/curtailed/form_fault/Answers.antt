-- `curtailed::form_fault` meets its contract: a line too many is told.
use borrow.Author.Tests.{le-leb, lt-leb}
use Rattle.tariff.specs.Import.{import_form}
use Rattle.checks.proofs.curtailed.form_fault.Goals as goal

pub returns-then-h-gt30 : goal.returns-then-h-gt30
unfolding import_form
returns-then-h-gt30 c = rw (lt-leb c.args.h.n 30 c.if-h-gt30.true)

pub returns-else-h-gt30 : goal.returns-else-h-gt30
unfolding import_form
returns-else-h-gt30 c = rw (le-leb c.args.h.n 30 c.if-h-gt30.false)
