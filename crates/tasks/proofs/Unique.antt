-- No two different replies satisfy the contract of a public function.
use Rattle.exact.proofs.Unique.{one, OneReply}
use Rattle.tasks.proofs.idle.Reads as idle
use Rattle.tasks.proofs.icl_task.Reads as icl_task

pub one_idle : OneReply idle.Post
one_idle κ a r s u v p q = one r s p q

pub one_icl_task : OneReply icl_task.Post
one_icl_task κ a r s u v p q = one r s p q
