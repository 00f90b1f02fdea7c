-- `heads::in_range` tests the number of a line or the digits of a row. A run and the closing line have no range.
use mathlib.Core.Path.{◌∙◌}
use Rattle.std.proofs.Common.{⊎_elim}
use borrow.Author.Rules.{rules}
use Rattle.exact.proofs.Calls.{handed}
use Rattle.header.specs.Layout.{line_in_range}
use Rattle.header.proofs.Said.{number_range, row_printed, row_range}
use Rattle.header.proofs.heads.in_range.Goals as goal

pub row_at-requires : goal.row_at-requires
row_at-requires c = row_printed _ _ _ c.in-Row.is c.requires.whole

pub returns-in-Number : goal.returns-in-Number
returns-in-Number c =
    let said = handed _ c.number_of.type_inv ∙ c.number_of.ensures in
    number_range _ _ _ c.in-Number.is (handed c.in-Number.least (search rules)) (handed c.in-Number.most (search rules)) said c.lies_in.ensures

pub returns-in-Row : goal.returns-in-Row
returns-in-Row c = row_range _ _ _ c.in-Row.is c.row_at.ensures c.all_admitted.ensures

pub returns-in-Run : goal.returns-in-Run
unfolding line_in_range
returns-in-Run c = ⊎_elim (λ h. rw h.1) (λ h. rw h) c.in-Run.is
