-- `read_icl` reads the block that begins at the first byte.
use Rattle.iclblocks.specs.IclBlock.{icl_block_at, icl_block_of}
use Rattle.iclblocks.proofs.read_icl.Goals as goal

pub returns : goal.returns
unfolding icl_block_of icl_block_at
returns c = c.block_at.ensures
