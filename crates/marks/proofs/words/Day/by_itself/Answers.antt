-- `Day::by_itself` joins the words of the hour's own marks.
use mathlib.Core.Path.{◌∙◌}
use Rattle.marks.proofs.Excluded.{itself_word}
use Rattle.marks.proofs.words.Day.by_itself.Goals as goal

pub returns : goal.returns
returns c = let d = c.args.self.of in c.cut.ensures ∙ itself_word d.marks d.hours _ c.no_category.ensures
