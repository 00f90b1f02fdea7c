-- An internal controllable line's block has the laws of a block of any kind.
use mathlib.Core.Path.{refl}
use native.Mathlib.Omega.{arith}
use Rattle.curves.proofs.FrameShared.{Bounded}
use Rattle.records.specs.Laws.{icl_interval_laws}
use Rattle.iclblocks.specs.IclBlock.{controllable_line}
use Rattle.iclblocks.specs.Laws.{icl_hour_laws}

pub bounded : Bounded controllable_line
bounded = record {
  ahead_key_lem = refl;
  ahead_some = omega arith;
  ahead_few = omega arith;
  ahead_same = icl_hour_laws.reads;
  interval_key = refl;
  interval_some = omega arith;
  interval_few = omega arith;
  interval_same = icl_interval_laws.reads;
}
