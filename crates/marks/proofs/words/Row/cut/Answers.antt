-- `Row::cut` masks the word to the row.
use Rattle.marks.proofs.Rows.{cut_by}
use Rattle.marks.proofs.words.Row.cut.Goals as goal

pub returns : goal.returns
returns c = cut_by _ _ _ c.whole.ensures
