-- No two different replies satisfy the contract of the public function, and no two different last states of the lent row.
use Rattle.exact.proofs.Unique.{one, OneReply, OneState}
use Rattle.tariff.proofs.Demands.{one_reply}
use Rattle.iclsheet.proofs.settle_icl_block.Reads as settle_icl_block

pub one_settle_icl_block : OneReply settle_icl_block.Post
one_settle_icl_block κ a r s u v p q = one_reply r s _ p.0 q.0

-- the row is the fourth parameter
pub one_icl_block_row : OneState (λ κ e. e.1.1.1.0.now) settle_icl_block.Post
one_icl_block_row κ a r s u v p q = one _ _ p.1 q.1
