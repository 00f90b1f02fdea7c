-- No two different replies satisfy the contract of a public function.
use Rattle.exact.proofs.Unique.{OneReply}
use Rattle.tariff.proofs.Demands.{one_finding}
use Rattle.checks.proofs.block_fault.Reads as block_fault
use Rattle.checks.proofs.icl_fault.Reads as icl_fault
use Rattle.checks.proofs.import_fault.Reads as import_fault

pub one_block_fault : OneReply block_fault.Post
one_block_fault κ a r s u v p q = one_finding r s _ p q

pub one_icl_fault : OneReply icl_fault.Post
one_icl_fault κ a r s u v p q = one_finding r s _ p q

pub one_import_fault : OneReply import_fault.Post
one_import_fault κ a r s u v p q = one_finding r s _ p q
