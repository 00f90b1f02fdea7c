-- No two different replies satisfy the contract of a public function, and no two different last states of the lent row.
use mathlib.Core.Path.{ap₂}
use Prim.Native.Nat.{ℕ}
use lib.IntN.{ℤ}
use Rattle.exact.proofs.Unique.{one, OneReply, OneState}
use Rattle.tariff.proofs.Demands.{one_reply}
use Rattle.sheet.specs.declared.Said.{Said}
use Rattle.sheet.proofs.settle_block.Reads as settle_block
use Rattle.sheet.proofs.said_by.Reads as said_by

pub one_settle_block : OneReply settle_block.Post
one_settle_block κ a r s u v p q = one_reply r s _ p.0 q.0

-- the row is the fourth parameter
pub one_row : OneState (λ κ e. e.1.1.1.0.now) settle_block.Post
one_row κ a r s u v p q = one _ _ p.1 q.1

abbrev said : ℤ → ℕ → Said
said hour n = record { hour = hour; n = n }

pub one_said_by : OneReply said_by.Post
one_said_by κ a r s u v p q = ap₂ said (one r.hour s.hour p.0 q.0) (one r.n s.n p.1 q.1)
