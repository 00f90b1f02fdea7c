-- What is asked of line 1 of a generator's block and of the record: its keys are in the table, and the record reads no more values than line 1 has.
use Rattle.std.specs.Prelude.{refl}
use Rattle.std.proofs.Common.{ap}
use Rattle.keys.specs.Keys.{AHEAD}
use Rattle.lines.proofs.Lines.{first_same}
use Rattle.records.specs.Laws.{LineLaws}
use Rattle.blocks.specs.Block.{generator}

pub hour_laws : LineLaws AHEAD 10 generator.hour_of
hour_laws = record { is_a_line = refl; reads = λ f g h. ap generator.hour_of (first_same 10 f g h) }
