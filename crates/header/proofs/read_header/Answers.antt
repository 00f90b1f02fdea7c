-- `read_header` meets its contract: a header is judged in the form that its first line says, and has its marks where no check refuses it.
use mathlib.Core.Path.{◌≡◌, sym, ◌∙◌, ap}
use mathlib.Core.Bool.{true}
use native.Mathlib.Omega.{arith}
use Rattle.exact.proofs.Calls.{handed}
use Rattle.tariff.specs.Sheet.{is_count}
use Rattle.tariff.specs.Reply.{Verdict, clear}
use Rattle.keys.specs.Keys.{UNIT_LINE}
use Rattle.header.specs.declared.layout.Form.{Form}
use Rattle.header.specs.Layout.{number_on}
use Rattle.header.specs.Header.{layout_by, form_of, count_of, hours_in, hours_of, fault_in, header_fault, marks_by, marks_under, unit_under}
use Rattle.header.specs.Places.{Placed, fault_of}
use Rattle.header.proofs.Forms.{lines_some, clear_counted}
use Rattle.header.proofs.Said.{number_told}
use Rattle.header.proofs.read_header.Goals as goal
use Rattle.header.proofs.read_header.Goals.{In-Ok}

-- no check refuses what is read: it is the header of the form that the first line says, with rows that are judged
module _ (c : In-Ok) where
  form-is : c.form_of-form.result ≡ form_of c.args.s.now
  form-is = c.form_of-form.ensures

  hours-are : c.head_of-head.result.hours ≡ hours_of c.args.s.now
  hours-are = c.head_of-head.ensures.hours ∙ ap (λ (form : Form). hours_in form c.args.s.now) form-is

  clears : header_fault c.args.s.now ≡ clear
  clears = sym (ap fault_of (sym c.in-Ok.is) ∙ c.head_of-head.ensures.told ∙ ap (λ (form : Form). fault_in form c.args.s.now) form-is)

  judged : true ≡ is_count (count_of c.args.s.now)
  judged = sym (clear_counted (form_of c.args.s.now) c.args.s.now clears)

  placed : Placed (layout_by c.form_of-form.result true) c.head_of-head.result.hours c.args.s.now c.in-Ok.at
  placed = rw c.in-Ok.is at c.head_of-head.ensures.placed

pub returns-in-Ok-clause-marks : goal.returns-in-Ok-clause-marks
returns-in-Ok-clause-marks c =
    let h = (goal.at.returns-in-Ok-clause-marks c).In-Ok in
    let s = c.args.s.now in
    c.marks_of.ensures
    ∙ (λ i. marks_by (layout_by (form-is h i) (judged h i)) (hours-are h i) s)
    ∙ ap (λ (v : Verdict). marks_under v s) (sym (clears h))

pub returns-in-Ok-clause-unit : goal.returns-in-Ok-clause-unit
returns-in-Ok-clause-unit c =
    let h = (goal.at.returns-in-Ok-clause-unit c).In-Ok in
    let s = c.args.s.now in
    let form = c.form_of-form.result in
    handed _ c.number_of.type_inv
    ∙ c.number_of.ensures
    ∙ number_told (layout_by form true) _ s _ (placed h) UNIT_LINE c.unit_line-unit.ensures.0 (omega (arith, c.unit_line-unit.ensures.1, lines_some form))
    ∙ (λ i. number_on (layout_by (form-is h i) (judged h i)) (hours-are h i) UNIT_LINE s)
    ∙ ap (λ (v : Verdict). unit_under v s) (sym (clears h))
