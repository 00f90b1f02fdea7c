-- What is asked of line 1 of an internal controllable line's block and of the record: its keys are in the table, and the record reads no more
-- values than line 1 has.
use Rattle.std.specs.Prelude.{refl}
use Rattle.std.proofs.Common.{ap}
use Rattle.keys.specs.Keys.{ICL_HOUR}
use Rattle.lines.proofs.Lines.{first_same}
use Rattle.records.specs.Laws.{LineLaws}
use Rattle.iclblocks.specs.IclBlock.{controllable_line}

pub icl_hour_laws : LineLaws ICL_HOUR 3 controllable_line.hour_of
icl_hour_laws = record { is_a_line = refl; reads = λ f g h. ap controllable_line.hour_of (first_same 3 f g h) }
