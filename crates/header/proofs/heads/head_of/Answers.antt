-- `heads::head_of` reads a header of a form: the count first, and then the lines that it gives the header.
use mathlib.Core.Path.{◌∙◌, ap}
use Rattle.exact.proofs.Calls.{handed}
use Rattle.tariff.specs.Sheet.{is_count, hours_by}
use Rattle.header.proofs.Forms.{head_read}
use Rattle.header.proofs.heads.head_of.Goals as goal

pub returns : goal.returns
returns c =
    let counted = handed _ c.count_of-count.type_inv ∙ c.count_of-count.ensures in
    head_read _ _ _ (c.is_count.ensures ∙ ap is_count counted) (c.hours_by.ensures ∙ ap hours_by counted) c.lines_of.ensures.told c.lines_of.ensures.placed
