-- A generator's block has the laws of a block of any kind.
use mathlib.Core.Path.{refl}
use native.Mathlib.Omega.{arith}
use Rattle.curves.proofs.FrameShared.{Bounded}
use Rattle.records.specs.Laws.{interval_laws}
use Rattle.blocks.specs.Block.{generator}
use Rattle.blocks.specs.Laws.{hour_laws}

pub bounded : Bounded generator
bounded = record {
  ahead_key_lem = refl;
  ahead_some = omega arith;
  ahead_few = omega arith;
  ahead_same = hour_laws.reads;
  interval_key = refl;
  interval_some = omega arith;
  interval_few = omega arith;
  interval_same = interval_laws.reads;
}
