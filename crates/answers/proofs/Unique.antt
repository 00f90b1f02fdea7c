-- No two different last states of the lent page, the first parameter, satisfy the contract of a public function: neither its place nor its
-- bytes.
use mathlib.Core.Path.{ap}
use Rattle.exact.proofs.Unique.{one, OneState}
use Rattle.page.specs.declared.Page.{Page}
use Rattle.answers.proofs.put_answer.Reads as put_answer
use Rattle.answers.proofs.put_day.Reads as put_day
use Rattle.answers.proofs.put_import.Reads as put_import
use Rattle.answers.proofs.put_found.Reads as put_found

pub one_put_answer : OneState (λ κ e. e.0.now.at) put_answer.Post
one_put_answer κ a r s u v p q = ap (λ (w : Page). w.at) (one _ _ p q)

pub one_put_answer_row : OneState (λ κ e. e.0.now.bytes.now) put_answer.Post
one_put_answer_row κ a r s u v p q = ap (λ (w : Page). w.bytes.now) (one _ _ p q)

pub one_put_day : OneState (λ κ e. e.0.now.at) put_day.Post
one_put_day κ a r s u v p q = ap (λ (w : Page). w.at) (one _ _ p q)

pub one_put_day_row : OneState (λ κ e. e.0.now.bytes.now) put_day.Post
one_put_day_row κ a r s u v p q = ap (λ (w : Page). w.bytes.now) (one _ _ p q)

pub one_put_import : OneState (λ κ e. e.0.now.at) put_import.Post
one_put_import κ a r s u v p q = ap (λ (w : Page). w.at) (one _ _ p q)

pub one_put_import_row : OneState (λ κ e. e.0.now.bytes.now) put_import.Post
one_put_import_row κ a r s u v p q = ap (λ (w : Page). w.bytes.now) (one _ _ p q)

pub one_put_found : OneState (λ κ e. e.0.now.at) put_found.Post
one_put_found κ a r s u v p q = ap (λ (w : Page). w.at) (one _ _ p q)

pub one_put_found_row : OneState (λ κ e. e.0.now.bytes.now) put_found.Post
one_put_found_row κ a r s u v p q = ap (λ (w : Page). w.bytes.now) (one _ _ p q)
