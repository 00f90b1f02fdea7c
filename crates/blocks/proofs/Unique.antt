-- No two different replies satisfy the contract of a public function.
use Rattle.exact.proofs.Unique.{one, OneReply}
use Rattle.blocks.proofs.read_hour.Reads as read_hour
use Rattle.blocks.proofs.block.GeneratorBlockKind.hour_of.Reads as hour_of_lem

pub one_read_hour : OneReply read_hour.Post
one_read_hour κ a r s u v p q = one r s p q

pub one_hour_of : OneReply hour_of_lem.Post
one_hour_of κ a r s u v p q = one r s p q
