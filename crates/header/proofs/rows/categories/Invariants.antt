-- `rows::categories` reads a row's digits. The loop's invariant: those of the hours passed stand in the array, and zeros behind them.
use mathlib.Core.Path.{◌≡◌}
use Prim.Native.Nat.{◌-◌}
use lib.ListN.{get_or}
use Rattle.tariff.specs.Sheet.{LONGEST_DAY}
use Rattle.lines.specs.Line.{filled}
use Rattle.header.proofs.rows.categories.Given as goal

abbrev pub invariant-loop-h : goal.invariant-loop-h
invariant-loop-h l = l.cat ≡ filled l.h LONGEST_DAY (λ h. get_or l.row h 0 - 48) 0
