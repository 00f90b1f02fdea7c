-- No two different replies satisfy the contract of a public function.
use Rattle.exact.proofs.Unique.{one, OneReply}
use Rattle.marks.proofs.excluded_hours.Reads as excluded_hours
use Rattle.marks.proofs.is_marked.Reads as is_marked
use Rattle.marks.proofs.no_marks.Reads as no_marks

pub one_excluded_hours : OneReply excluded_hours.Post
one_excluded_hours κ a r s u v p q = one r s p q

pub one_no_marks : OneReply no_marks.Post
one_no_marks κ a r s u v p q = one r s p q

pub one_is_marked : OneReply is_marked.Post
one_is_marked κ a r s u v p q = one r s p q
