-- What stands behind a block's empty line is not read, and the end of the text closes a block as the empty line does.
use mathlib.Core.Path.{◌≡◌}
use mathlib.Core.List.{List, [], ◌∷◌, ◌++◌}
use Prim.Native.Nat.{ℕ}
use lib.ListN.{take}
use Rattle.lines.specs.Pieces.{PIECE, first_piece}
use Rattle.curves.specs.Closed.{Closed}
use Rattle.curves.proofs.FrameEnds as ends
use Rattle.blocks.specs.Block.{generator, block_at, block_of}
use Rattle.blocks.proofs.Values.{bounded}

-- a block is decided by its first 10,640 bytes, however long its lines are
pub decided : (s : List ℕ) → block_of (take PIECE s) ≡ block_of s
unfolding block_of block_at
decided = ends.decided generator bounded

-- and by the first piece of its text
pub piece_decides : (s : List ℕ) → block_of (first_piece s) ≡ block_of s
unfolding block_of block_at
piece_decides = ends.piece_decides generator bounded

-- ---- the empty line, and the end of the text
pub closed_or_ended : (front behind : List ℕ) → block_of (front ++ (10 ∷ 10 ∷ behind)) ≡ block_of (front ++ (10 ∷ []))
unfolding block_of block_at
closed_or_ended = ends.closed_or_ended generator bounded

pub not_read : (s behind : List ℕ) → Closed s → block_of (s ++ behind) ≡ block_of s
unfolding block_of block_at
not_read = ends.not_read generator bounded
