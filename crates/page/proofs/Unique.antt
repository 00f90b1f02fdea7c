-- No two different replies satisfy the contract of a public function, and no two different last states of the lent page, its first
-- parameter: neither its place nor its bytes.
use mathlib.Core.Path.{ap}
use Rattle.exact.proofs.Unique.{one, OneReply, OneState}
use Rattle.page.specs.declared.Page.{Page}
use Rattle.page.proofs.Page.new.Reads as new
use Rattle.page.proofs.Page.put.Reads as put
use Rattle.page.proofs.Page.put_count.Reads as put_count
use Rattle.page.proofs.Page.put_signed.Reads as put_signed

pub one_new : OneReply new.Post
one_new κ a r s u v p q = one r s p q

pub one_put : OneState (λ κ e. e.0.now.at) put.Post
one_put κ a r s u v p q = ap (λ (w : Page). w.at) (one _ _ p q)

pub one_put_row : OneState (λ κ e. e.0.now.bytes.now) put.Post
one_put_row κ a r s u v p q = ap (λ (w : Page). w.bytes.now) (one _ _ p q)

pub one_put_count : OneState (λ κ e. e.0.now.at) put_count.Post
one_put_count κ a r s u v p q = ap (λ (w : Page). w.at) (one _ _ p q)

pub one_put_count_row : OneState (λ κ e. e.0.now.bytes.now) put_count.Post
one_put_count_row κ a r s u v p q = ap (λ (w : Page). w.bytes.now) (one _ _ p q)

pub one_put_signed : OneState (λ κ e. e.0.now.at) put_signed.Post
one_put_signed κ a r s u v p q = ap (λ (w : Page). w.at) (one _ _ p q)

pub one_put_signed_row : OneState (λ κ e. e.0.now.bytes.now) put_signed.Post
one_put_signed_row κ a r s u v p q = ap (λ (w : Page). w.bytes.now) (one _ _ p q)
