-- No two different replies satisfy the contract of a public function.
use Rattle.exact.proofs.Unique.{one, OneReply}
use Rattle.keys.proofs.key_number.Reads as key_number
use Rattle.keys.proofs.may_miss.Reads as may_miss

pub one_key_number : OneReply key_number.Post
one_key_number κ a r s u v p q = one r s p q

pub one_may_miss : OneReply may_miss.Post
one_may_miss κ a r s u v p q = one r s p q
