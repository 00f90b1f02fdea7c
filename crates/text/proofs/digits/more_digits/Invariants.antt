-- `digits::more_digits` reads up to six digits more. The loop's invariant: the whole is what v says so far and then the rest from the next
-- place, and v has as many digits as are read.
use mathlib.Core.Path.{◌≡◌}
use Prim.Native.Nat.{◌<◌, ◌+◌, ◌-◌, ◌^◌}
use Rattle.text.specs.Number.{more_digits}
use Rattle.text.proofs.digits.more_digits.Given as goal

abbrev pub invariant-loop : goal.invariant-loop
invariant-loop l = (more_digits 6 l.first l.s l.at ≡ more_digits (6 - l.counter) l.v l.s l.next) × (l.v < 10 ^ (l.counter + 1))
