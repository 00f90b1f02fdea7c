-- No two different replies satisfy the contract of a public function, and no two different last states of the lent page.
use Rattle.exact.proofs.Unique.{one, OneReply, OneState}
use Rattle.printed.proofs.answer_text.Reads as answer_text
use Rattle.printed.proofs.hour_text.Reads as hour_text_lem
use Rattle.printed.proofs.day_text.Reads as day_text
use Rattle.printed.proofs.line_text.Reads as line_text_lem
use Rattle.printed.proofs.import_text.Reads as import_text

pub one_answer_text : OneReply answer_text.Post
one_answer_text κ a r s u v p q = one r s p.1.0 q.1.0

-- the page is the fifth parameter
pub one_answer_row : OneState (λ κ e. e.1.1.1.1.0.now) answer_text.Post
one_answer_row κ a r s u v p q = one _ _ p.0 q.0

pub one_hour_text : OneReply hour_text_lem.Post
one_hour_text κ a r s u v p q = one r s p.1.0 q.1.0

-- the page is the second parameter, here and below
pub one_hour_row : OneState (λ κ e. e.1.0.now) hour_text_lem.Post
one_hour_row κ a r s u v p q = one _ _ p.0 q.0

pub one_day_text : OneReply day_text.Post
one_day_text κ a r s u v p q = one r s p.1.0 q.1.0

pub one_day_row : OneState (λ κ e. e.1.0.now) day_text.Post
one_day_row κ a r s u v p q = one _ _ p.0 q.0

pub one_line_text : OneReply line_text_lem.Post
one_line_text κ a r s u v p q = one r s p.1.0 q.1.0

pub one_line_row : OneState (λ κ e. e.1.0.now) line_text_lem.Post
one_line_row κ a r s u v p q = one _ _ p.0 q.0

pub one_import_text : OneReply import_text.Post
one_import_text κ a r s u v p q = one r s p.1.0 q.1.0

pub one_import_row : OneState (λ κ e. e.1.0.now) import_text.Post
one_import_row κ a r s u v p q = one _ _ p.0 q.0
