-- `curve_in_range` tests the start, and then each step.
use mathlib.Core.Path.{sym, ◌∙◌}
use native.Mathlib.Omega.{arith}
use Rattle.tariff.specs.Sheet.{curve_in_range}
use Rattle.ranges.proofs.Steps.{steps_are}
use Rattle.ranges.proofs.curve_in_range.Goals as goal

pub returns-then-is_power : goal.returns-then-is_power
unfolding curve_in_range
returns-then-is_power c = rw (sym c.if-is_power.ensures) (c.steps_in_range.ensures ∙ steps_are c.args.c (omega arith) (omega arith) c.args.c.n)
