-- `fault_by` goes through the checks in their order.
use mathlib.Core.Path.{◌≡◌, ap, sym, ◌∙◌}
use mathlib.Core.Bool.{true, false}
use Rattle.tariff.specs.declared.Check.{Check}
use Rattle.tariff.specs.Reply.{shown, number_of, place_of}
use Rattle.archive.specs.Move.{goes}
use Rattle.archive.specs.Told.{is_form}
use Rattle.archive.proofs.ByHeader.{by_form, by_way, by_range, by_count, by_none}
use Rattle.archive.proofs.fault_by.Goals as goal
use Rattle.archive.proofs.fault_by.Goals.{Else-is_form, Else-not-goes_way}

pub returns-then-is_form : goal.returns-then-is_form
returns-then-is_form c =
    let a = c.args in
    by_form a.way (shown a.header) a.two a.hours (sym c.is_form.ensures ∙ c.if-is_form.true)

no_form : (c : Else-is_form) → is_form (shown c.args.header) ≡ false
no_form c = sym c.is_form.ensures ∙ c.if-is_form.false

pub returns-then-not-goes_way : goal.returns-then-not-goes_way
returns-then-not-goes_way c =
    let a = c.args in
    by_way a.way (shown a.header) a.two a.hours (no_form (goal.at.returns-then-not-goes_way c).Else-is_form) (sym c.goes_way.ensures ∙ c.if-not-goes_way.true)

this-way : (c : Else-not-goes_way) → goes c.args.way c.args.two ≡ true
this-way c = sym c.goes_way.ensures ∙ c.if-not-goes_way.false

pub returns-in-Err : goal.returns-in-Err
returns-in-Err c =
    let a = c.args in
    let check : Check = c.in-Err.field-0 in
    by_range a.way (shown a.header) a.two a.hours (no_form (goal.at.returns-in-Err c).Else-is_form) (this-way (goal.at.returns-in-Err c).Else-not-goes_way) (number_of check) (place_of check) (ap shown c.in-Err.is)

pub returns-then-not-fits_form : goal.returns-then-not-fits_form
returns-then-not-fits_form c =
    let a = c.args in
    by_count a.way (shown a.header) a.two a.hours (no_form (goal.at.returns-then-not-fits_form c).Else-is_form) (this-way (goal.at.returns-then-not-fits_form c).Else-not-goes_way) (ap shown c.in_default.is)
    (sym c.fits_form.ensures ∙ c.if-not-fits_form.true)

pub returns : goal.returns
returns c =
    let a = c.args in
    by_none a.way (shown a.header) a.two a.hours (no_form (goal.at.returns c).Else-is_form) (this-way (goal.at.returns c).Else-not-goes_way) (ap shown c.in_default.is)
    (sym c.fits_form.ensures ∙ c.if-not-fits_form.false)
