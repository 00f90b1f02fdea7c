-- `read_hour` reads the block that begins at the first byte.
use Rattle.blocks.specs.Block.{block_of}
use Rattle.blocks.proofs.read_hour.Goals as goal

pub returns : goal.returns
unfolding block_of
returns c = c.hour_at.ensures
