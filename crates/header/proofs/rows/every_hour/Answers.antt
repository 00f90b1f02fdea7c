-- `rows::every_hour` is a bit behind the day's last hour, less one.
use mathlib.Core.Path.{sym}
use Rattle.marks.proofs.Rows.{one_at, word_all}
use Rattle.header.proofs.rows.every_hour.Goals as goal

pub returns : goal.returns
returns c = rw (one_at c.args.hours c.requires) (sym (word_all c.args.hours))
