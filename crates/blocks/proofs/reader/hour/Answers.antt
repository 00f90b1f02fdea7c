-- `reader::hour` reads a block of the kind that a generator's is.
use Rattle.blocks.specs.Block.{block_at}
use Rattle.blocks.proofs.reader.hour.Goals as goal

pub returns : goal.returns
unfolding block_at
returns c = c.block_at.ensures
