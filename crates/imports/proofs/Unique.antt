-- No two different replies satisfy the contract of a public function.
use Rattle.exact.proofs.Unique.{one, OneReply}
use Rattle.tariff.proofs.Answers.{one_import_reply}
use Rattle.imports.proofs.hours_of.Reads as hours_of
use Rattle.imports.proofs.settle_import.Reads as settle_import

pub one_hours_of : OneReply hours_of.Post
one_hours_of κ a r s u v p q = one r s p q

pub one_settle_import : OneReply settle_import.Post
one_settle_import κ a r s u v p q = one_import_reply r s _ p q
