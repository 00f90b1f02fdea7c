-- `heads::row_word` makes the word of a row that is as printed.
use mathlib.Core.Path.{◌∙◌}
use Rattle.header.proofs.Said.{row_word_lem}
use Rattle.header.proofs.heads.row_word.Goals as goal

pub returns : goal.returns
returns c = c.word_of.ensures ∙ row_word_lem _ _ _ _ c.row_at.ensures _
