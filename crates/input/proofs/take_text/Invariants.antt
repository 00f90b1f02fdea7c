-- `take_text` stops reading after a bounded number of turns. The loop's invariant: the store and the state are what some text leaves, and what
-- is kept lies in the store.
use mathlib.Core.Path.{◌≡◌}
use Prim.Native.Nat.{◌≤◌}
use lib.ListN.{length}
use Rattle.intake.specs.Intake.{PIECES}
use Rattle.intake.proofs.Arrived.{SoFar}
use Rattle.input.specs.Said.{heads_of}
use Rattle.input.proofs.take_text.Given as goal

abbrev pub invariant-loop-turns : goal.invariant-loop-turns
invariant-loop-turns l = (length l.store ≡ length l.initial.store)
    × (l.taken.kept.n ≤ length l.store)
    × SoFar l.initial.store PIECES (heads_of l.kind) l.store l.taken

abbrev pub decreases-loop-turns : goal.decreases-loop-turns
decreases-loop-turns l = l.turns
