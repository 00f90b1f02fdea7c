-- What stands behind the empty line of an internal controllable line's block is not read, and the end of the text closes it as the empty line
-- does.
use mathlib.Core.Path.{◌≡◌}
use mathlib.Core.List.{List, [], ◌∷◌, ◌++◌}
use Prim.Native.Nat.{ℕ}
use lib.ListN.{take}
use Rattle.lines.specs.Pieces.{PIECE, first_piece}
use Rattle.curves.specs.Closed.{Closed}
use Rattle.curves.proofs.FrameEnds.{decided, piece_decides, closed_or_ended, not_read}
use Rattle.iclblocks.specs.IclBlock.{controllable_line, icl_block_at, icl_block_of}
use Rattle.iclblocks.proofs.IclBlocks.{bounded}

-- a block is decided by its first 10,640 bytes, however long its lines are
pub icl_decided : (s : List ℕ) → icl_block_of (take PIECE s) ≡ icl_block_of s
unfolding icl_block_of icl_block_at
icl_decided = decided controllable_line bounded

-- and by the first piece of its text
pub icl_piece_decides : (s : List ℕ) → icl_block_of (first_piece s) ≡ icl_block_of s
unfolding icl_block_of icl_block_at
icl_piece_decides = piece_decides controllable_line bounded

-- ---- the empty line, and the end of the text
pub icl_closed_or_ended : (front behind : List ℕ) → icl_block_of (front ++ (10 ∷ 10 ∷ behind)) ≡ icl_block_of (front ++ (10 ∷ []))
unfolding icl_block_of icl_block_at
icl_closed_or_ended = closed_or_ended controllable_line bounded

pub icl_not_read : (s behind : List ℕ) → Closed s → icl_block_of (s ++ behind) ≡ icl_block_of s
unfolding icl_block_of icl_block_at
icl_not_read = not_read controllable_line bounded
