-- `faults::curve_keeps` meets its contract. The loop's invariant: `begin` is where step j begins, and each step passed keeps the rules.
use mathlib.Core.Path.{◌≡◌}
use mathlib.Core.Bool.{true}
use Prim.Native.Nat.{◌-◌, ◌≤◌}
use Rattle.tariff.specs.Sheet.{begin_of, all_to, step_keeps}
use Rattle.checks.proofs.faults.curve_keeps.Given as goal

abbrev pub invariant-loop-j : goal.invariant-loop-j
invariant-loop-j l = (l.j ≤ l.n)
    × (l.begin.0 ≡ begin_of (record { start = l.initial.begin; n = l.n; to = l.to; at = l.at }) l.j)
    × (all_to (step_keeps (record { start = l.initial.begin; n = l.n; to = l.to; at = l.at })) l.j ≡ true)

abbrev pub decreases-loop-j : goal.decreases-loop-j
decreases-loop-j l = l.n - l.j
