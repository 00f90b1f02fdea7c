-- `rows::digits_at` reads a digit for each hour. The loop's invariant: one stands at each hour passed, behind which is the next place.
use mathlib.Core.Path.{◌≡◌}
use mathlib.Core.Bool.{true}
use Prim.Native.Nat.{◌+◌}
use Rattle.tariff.specs.Sheet.{all_to}
use Rattle.header.proofs.Digits.{is_digit}
use Rattle.header.proofs.rows.digits_at.Given as goal

abbrev pub invariant-loop : goal.invariant-loop
invariant-loop l = (l.next ≡ l.at + l.counter) × (all_to (is_digit l.s l.at) l.counter ≡ true)
