-- `faults::curve_fault` meets its contract: the first of the two curves that breaks a rule is told.
use mathlib.Core.Path.{sym, ◌∙◌}
use Rattle.tariff.specs.Checks.{curves_in}
use Rattle.checks.proofs.faults.curve_fault.Goals as goal

pub curve_keeps-requires : goal.curve_keeps-requires
curve_keeps-requires c = c.requires.0

pub returns-then-not-curve_keeps : goal.returns-then-not-curve_keeps
unfolding curves_in
returns-then-not-curve_keeps c = rw (sym c.curve_keeps.ensures ∙ c.if-not-curve_keeps.true)

pub curve_keeps-requires-2 : goal.curve_keeps-requires-2
curve_keeps-requires-2 c = c.requires.1

pub returns-then-not-curve_keeps-2 : goal.returns-then-not-curve_keeps-2
unfolding curves_in
returns-then-not-curve_keeps-2 c =
    rw (sym c.curve_keeps.ensures ∙ c.if-not-curve_keeps.false, sym c.curve_keeps-2.ensures ∙ c.if-not-curve_keeps-2.true)

pub returns : goal.returns
unfolding curves_in
returns c =
    rw (sym c.curve_keeps.ensures ∙ c.if-not-curve_keeps.false, sym c.curve_keeps-2.ensures ∙ c.if-not-curve_keeps-2.false)
