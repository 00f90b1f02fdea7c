-- No two different replies satisfy the contract of a public function.
use Rattle.exact.proofs.Unique.{one, OneReply}
use Rattle.points.proofs.standing_of.Reads as standing_of

pub one_standing_of : OneReply standing_of.Post
one_standing_of κ a r s u v p q = one r s p q
