-- No two different replies satisfy the contract of a public function.
use Rattle.exact.proofs.Unique.{one, OneReply}
use Rattle.iclblocks.proofs.read_icl.Reads as read_icl
use Rattle.iclblocks.proofs.ControllableLineBlockKind.hour_of.Reads as hour_of_lem

pub one_read_icl : OneReply read_icl.Post
one_read_icl κ a r s u v p q = one r s p q

pub one_hour_of : OneReply hour_of_lem.Post
one_hour_of κ a r s u v p q = one r s p q
