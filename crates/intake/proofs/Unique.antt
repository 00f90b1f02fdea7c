-- No two different replies satisfy the contract of a public function that reads no input, and no two different last states of its store.
use Rattle.exact.proofs.Unique.{one, OneReply, OneState}
use Rattle.intake.proofs.at_first.Reads as at_first
use Rattle.intake.proofs.begin.Reads as begin
use Rattle.intake.proofs.goes_past.Reads as goes_past_lem
use Rattle.intake.proofs.keep.Reads as keep

pub one_at_first : OneReply at_first.Post
one_at_first κ a r s u v p q = one r s p q

pub one_begin : OneReply begin.Post
one_begin κ a r s u v p q = one r s p q

pub one_goes_past : OneReply goes_past_lem.Post
one_goes_past κ a r s u v p q = one r s p q

pub one_keep : OneReply keep.Post
one_keep κ a r s u v p q = one r s p.0 q.0

-- the store is the first parameter
pub one_store : OneState (λ κ e. e.0.now) keep.Post
one_store κ a r s u v p q = one _ _ p.1 q.1
