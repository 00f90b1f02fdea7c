-- No two different replies satisfy the contract of the public function, and no two different last states of the lent page, its third parameter.
use Rattle.exact.proofs.Unique.{one, OneReply, OneState}
use Rattle.tariff.proofs.Demands.{one_finding}
use Rattle.archive.proofs.move_sheet.Reads as move_sheet

pub one_move_sheet : OneReply move_sheet.Post
one_move_sheet κ a r s u v p q =
    let found = one_finding r.found s.found _ p.0 q.0 in
    let n = one r.n s.n p.1.0.place q.1.0.place in
    λ i. record { found = found i; n = n i }

pub one_move_sheet_page : OneState (λ κ e. e.1.1.0.now) move_sheet.Post
one_move_sheet_page κ a r s u v p q = one _ _ p.1.0.bytes q.1.0.bytes
