-- `fault_of` judges a sheet by what is read of its header.
use mathlib.Core.Path.{sym, ◌∙◌}
use Rattle.archive.specs.Told.{fault_by}
use Rattle.archive.proofs.ByHeader.{by_header}
use Rattle.archive.proofs.fault_of.Goals as goal

pub returns : goal.returns
returns c =
    let two = c.is_form2.ensures in
    let a = c.args in
    let header = c.read_header-header.ensures in
    c.fault_by.ensures ∙ (λ i. fault_by a.way (header.found i) (two i) (header.hours i)) ∙ sym (by_header a.way a.sheet.now)
