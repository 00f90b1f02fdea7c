-- What a function returns at the `?` behind an `ok_or`.
use Rattle.std.specs.Prelude.{Option, None, Result, Err}
use Rattle.std.specs.Option.{ok_or}
use Rattle.std.specs.Result.{IsErrAnd}
use Rattle.std.proofs.lemmas.Result.{err_from_is_err_and}
use mathlib.Core.Path.{◌≡◌}

-- where nothing is found, the error that is named
pub exit : {A B E : Type 0} {found : Option A} {named given : E} (r : Result B E) → IsErrAnd r (λ x. x ≡ given) → Err given ≡ ok_or found named
    → found ≡ None → r ≡ Err named
exit {A} {B} {E} {found} {named} {given} r e f none =
    let p = err_from_is_err_and r e in
    let given_is = rw none at f in
    let same : p.0 ≡ named = cc in
    rw (p.1, same)
