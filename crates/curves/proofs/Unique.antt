-- No two different replies satisfy the contract of a public function.
use denote.RattleType.{RattleType}
use Rattle.exact.proofs.Unique.{one, OneReply}
use Rattle.curves.proofs.curve_at.Reads as curve_at
use Rattle.curves.proofs.block.block_at.Reads as block_at

pub one_curve_at : OneReply curve_at.Post
one_curve_at κ a r s u v p q = one r s p q

pub one_block_at : (K I H : RattleType) (LK : _) (LI : _) (LH : _) (C : _) (kind : _) (d : _) (line : _) (e : _) (clone : _) (f : _) (default : _) (g : _)
    → OneReply (block_at.Post K I H LK LI LH C kind d line e clone f default g)
one_block_at K I H LK LI LH C kind d line e clone f default g κ a r s u v p q = one r s p q
