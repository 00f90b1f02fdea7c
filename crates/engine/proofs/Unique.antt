-- No two different replies satisfy the contract of a public function, and no two different last states of the lent row.
use Rattle.exact.proofs.Unique.{one, OneReply, OneState}
use Rattle.tariff.proofs.Demands.{one_reply}
use Rattle.engine.proofs.settle.Reads as settle
use Rattle.engine.proofs.settle_icl.Reads as settle_icl

pub one_settle : OneReply settle.Post
one_settle κ a r s u v p q = one_reply r s _ p.0 q.0

-- the row is the fourth parameter
pub one_row : OneState (λ κ e. e.1.1.1.0.now) settle.Post
one_row κ a r s u v p q = one _ _ p.1 q.1

pub one_settle_icl : OneReply settle_icl.Post
one_settle_icl κ a r s u v p q = one_reply r s _ p.0 q.0

pub one_icl_row : OneState (λ κ e. e.1.1.1.0.now) settle_icl.Post
one_icl_row κ a r s u v p q = one _ _ p.1 q.1
