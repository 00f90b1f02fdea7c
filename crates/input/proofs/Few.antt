-- No text says a day of more than 25 hours, and in front of its blocks stand three pieces at most.
use mathlib.Core.List.{List}
use Prim.Native.Nat.{ℕ, ◌≤◌}
use native.Mathlib.Omega.{arith}
use Rattle.tariff.specs.Sheet.{LONGEST_DAY}
use Rattle.tariff.proofs.Counts.{hours_few}
use Rattle.header.specs.Header.{count_of}
use Rattle.header.specs.IclHeader.{icl_count_of}
use Rattle.lines.specs.Pieces.{rest_after}
use Rattle.imports.proofs.ImportDemands.{no_day_is_longer}
use Rattle.input.specs.declared.Kind.{Kind}
use Rattle.input.specs.declared.Kind.TheVariants.{Day, Line, Import}
use Rattle.input.specs.Said.{front_pieces, hours_said}

pub said_few : (kind : Kind) (s : List ℕ) → hours_said kind s ≤ LONGEST_DAY
said_few Day s = hours_few (count_of (rest_after 1 s))
said_few Line s = hours_few (icl_count_of s)
said_few Import s = no_day_is_longer s

pub front_few : (kind : Kind) → front_pieces kind ≤ 3
front_few Day = omega arith
front_few Line = omega arith
front_few Import = omega arith
