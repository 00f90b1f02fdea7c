-- No two different replies satisfy the contract of a public function.
use Rattle.exact.proofs.Unique.{one, OneReply}
use Rattle.tariff.proofs.Demands.{one_finding}
use Rattle.header.proofs.read_header.Reads as read_header
use Rattle.header.proofs.read_icl_header.Reads as read_icl_header
use Rattle.header.proofs.is_form2.Reads as is_form2

pub one_read_header : OneReply read_header.Post
one_read_header κ a r s u v p q =
    let found = one_finding r.found s.found _ p.0 q.0 in
    let marks = one r.marks s.marks p.1.0 q.1.0 in
    let hours = one r.hours s.hours p.1.1.0 q.1.1.0 in
    let unit = one r.unit s.unit p.1.1.1.0 q.1.1.1.0 in
    let line = one r.line s.line p.1.1.1.1 q.1.1.1.1 in
    λ i. record { found = found i; marks = marks i; hours = hours i; unit = unit i; line = line i }

pub one_read_icl_header : OneReply read_icl_header.Post
one_read_icl_header κ a r s u v p q =
    let found = one_finding r.found s.found _ p.0 q.0 in
    let unmarked = one r.unmarked s.unmarked p.1.0 q.1.0 in
    let hours = one r.hours s.hours p.1.1.0 q.1.1.0 in
    let next = one r.next s.next p.1.1.1 q.1.1.1 in
    λ i. record { found = found i; unmarked = unmarked i; hours = hours i; next = next i }

pub one_is_form2 : OneReply is_form2.Post
one_is_form2 κ a r s u v p q = one r s p q
