-- `Row::spread` marks the hours near a marked hour of the row.
use Rattle.marks.proofs.Spread.{spread_word}
use Rattle.marks.proofs.words.Row.spread.Goals as goal

pub returns : goal.returns
returns c = let r = c.args.self in spread_word r.word r.hours r.in_the_word _ _ c.cut-own.ensures c.whole.ensures
