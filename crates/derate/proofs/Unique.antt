-- No two different replies satisfy the contract of the public function.
use Rattle.exact.proofs.Unique.{one, OneReply}
use Rattle.derate.proofs.derate_of.Reads as derate_of

pub one_derate_of : OneReply derate_of.Post
one_derate_of κ a r s u v p q = one r s p q
