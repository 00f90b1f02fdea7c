-- `heads::no_day` is a day of no hours.
use mathlib.Core.Path.{ap}
use Rattle.tariff.specs.declared.Marks.{Marks}
use Rattle.tariff.specs.declared.MarkedDay.{MarkedDay}
use Rattle.ledger.proofs.heads.no_day.Goals as goal

abbrev without : Marks → MarkedDay
without m = record { hours = 0; marks = m }

pub returns : goal.returns
returns c = ap without c.no_marks.ensures
