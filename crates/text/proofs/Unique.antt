-- No two different replies satisfy the contract of a public function.
use Rattle.exact.proofs.Unique.{one, OneReply}
use Rattle.text.proofs.byte_at.Reads as byte_at
use Rattle.text.proofs.digit_at.Reads as digit_at
use Rattle.text.proofs.number_at.Reads as number_at
use Rattle.text.proofs.key_at.Reads as key_at

pub one_byte_at : OneReply byte_at.Post
one_byte_at κ a r s u v p q = one r s p q

pub one_digit_at : OneReply digit_at.Post
one_digit_at κ a r s u v p q = one r s p q

pub one_number_at : OneReply number_at.Post
one_number_at κ a r s u v p q = one r s p q

pub one_key_at : OneReply key_at.Post
one_key_at κ a r s u v p q = one r s p q
