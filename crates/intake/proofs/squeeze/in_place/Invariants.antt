-- `in_place` goes over each byte once. The loop's invariant: what is squeezed stands at the front, and with what is squeezed of the bytes that
-- are still to come it is the whole.
use mathlib.Core.Path.{◌≡◌}
use mathlib.Core.List.{◌++◌}
use Prim.Native.Nat.{◌≤◌}
use lib.ListN.{take, drop}
use Rattle.intake.specs.Squeeze.{squeezed_by, squeeze_after}
use Rattle.intake.proofs.squeeze.in_place.Given as goal

abbrev pub invariant-loop-at : goal.invariant-loop-at
invariant-loop-at l = record {
  behind : l.left ≤ l.at;
  text : squeezed_by l.initial.state l.initial.part ≡ take l.left l.part ++ squeezed_by l.state (drop l.at l.part);
  state : squeeze_after l.initial.state l.initial.part ≡ squeeze_after l.state (drop l.at l.part);
}
