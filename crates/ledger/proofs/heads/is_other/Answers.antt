-- `heads::is_other` compares the units as numbers of 64 bits.
use mathlib.Core.Path.{ap}
use mathlib.Core.Bool.{Bool, not, ◌&&◌}
use borrow.Author.Rules.{rules}
use Rattle.exact.proofs.Bits.{eq_is}
use Rattle.ledger.proofs.heads.is_other.Goals as goal

pub returns : goal.returns
returns c =
    let a = c.args in
    ap (λ (same : Bool). not a.neighbour.lacking && not same)
    (eq_is a.neighbour.unit a.own.unit (search rules) (search rules))
