-- No two different replies satisfy the contract of a public function.
use Rattle.exact.proofs.Unique.{one, OneReply}
use Rattle.lines.proofs.fields_at.Reads as fields_at
use Rattle.lines.proofs.line_end.Reads as line_end
use Rattle.lines.proofs.is_closed.Reads as is_closed
use Rattle.lines.proofs.is_whole.Reads as is_whole
use Rattle.lines.proofs.empty_line.Reads as empty_line_lem
use Rattle.lines.proofs.piece_after.Reads as piece_after

pub one_fields_at : OneReply fields_at.Post
one_fields_at κ a r s u v p q = one r s p q

pub one_line_end : OneReply line_end.Post
one_line_end κ a r s u v p q = one r s p q

pub one_is_closed : OneReply is_closed.Post
one_is_closed κ a r s u v p q = one r s p q

pub one_is_whole : OneReply is_whole.Post
one_is_whole κ a r s u v p q = one r s p q

pub one_empty_line : OneReply empty_line_lem.Post
one_empty_line κ a r s u v p q = one r s p q

pub one_piece_after : OneReply piece_after.Post
one_piece_after κ a r s u v p q = one r s p q
