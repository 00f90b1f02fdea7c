-- No two different replies satisfy the contract of an export, and no two different last states of what is lent.
use Rattle.exact.proofs.Unique.{one, OneReply, OneState}
use Rattle.culvertjig_c.proofs.culvertjig_block.Reads as culvertjig_block
use Rattle.culvertjig_c.proofs.culvertjig_line_block.Reads as culvertjig_line_block

pub one_culvertjig_block : OneReply culvertjig_block.Post
one_culvertjig_block κ a r s u v p q = one r s p.0 q.0

-- the row is the fifth parameter, and the three numbers follow it
pub one_row : OneState (λ κ e. e.1.1.1.1.0.now) culvertjig_block.Post
one_row κ a r s u v p q = one _ _ p.1.1.1.1 q.1.1.1.1

pub one_place : OneState (λ κ e. e.1.1.1.1.1.0.now) culvertjig_block.Post
one_place κ a r s u v p q = one _ _ p.1.0 q.1.0

pub one_grains : OneState (λ κ e. e.1.1.1.1.1.1.0.now) culvertjig_block.Post
one_grains κ a r s u v p q = one _ _ p.1.1.0 q.1.1.0

pub one_cents : OneState (λ κ e. e.1.1.1.1.1.1.1.0.now) culvertjig_block.Post
one_cents κ a r s u v p q = one _ _ p.1.1.1.0 q.1.1.1.0

-- the same of a line's block

pub one_culvertjig_line_block : OneReply culvertjig_line_block.Post
one_culvertjig_line_block κ a r s u v p q = one r s p.0 q.0

pub one_line_row : OneState (λ κ e. e.1.1.1.1.0.now) culvertjig_line_block.Post
one_line_row κ a r s u v p q = one _ _ p.1.1.1.1 q.1.1.1.1

pub one_line_place : OneState (λ κ e. e.1.1.1.1.1.0.now) culvertjig_line_block.Post
one_line_place κ a r s u v p q = one _ _ p.1.0 q.1.0

pub one_line_grains : OneState (λ κ e. e.1.1.1.1.1.1.0.now) culvertjig_line_block.Post
one_line_grains κ a r s u v p q = one _ _ p.1.1.0 q.1.1.0

pub one_line_cents : OneState (λ κ e. e.1.1.1.1.1.1.1.0.now) culvertjig_line_block.Post
one_line_cents κ a r s u v p q = one _ _ p.1.1.1.0 q.1.1.1.0
