-- `words::excluded_in` joins what excludes an hour by itself and what reaches it.
use Rattle.marks.proofs.Excluded.{excluded_word}
use Rattle.marks.proofs.words.excluded_in.Goals as goal

pub returns : goal.returns
returns c = excluded_word c.args.before.of c.args.own.of c.args.after.of c.by_itself.ensures c.spread_days.ensures
