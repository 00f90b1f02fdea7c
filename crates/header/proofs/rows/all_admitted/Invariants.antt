-- `rows::all_admitted` tests each hour's digit. The loop's invariant: each passed is admitted.
use mathlib.Core.Path.{◌≡◌}
use mathlib.Core.Bool.{true}
use Prim.Native.Nat.{◌-◌}
use lib.ListN.{get_or}
use Rattle.tariff.specs.Sheet.{all_to}
use Rattle.tariff.specs.Eligible.{marked}
use Rattle.header.proofs.rows.all_admitted.Given as goal

abbrev pub invariant-loop-b : goal.invariant-loop-b
invariant-loop-b l = all_to (λ h. marked l.admitted (get_or l.row h 0 - 48)) l.b-index ≡ true
