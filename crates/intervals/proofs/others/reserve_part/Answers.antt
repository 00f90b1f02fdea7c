-- `others::reserve_part` gives what a reserve contributes, and its product fits.
use mathlib.Core.Path.{sym, ◌∙◌}
use Rattle.exact.proofs.Range.{within_less, within_lit}
use Rattle.tariff.specs.Contributions.{reserve}
use Rattle.intervals.proofs.others.reserve_part.Goals as goal

pub product-requires : goal.product-requires
product-requires c =
    let p = c.requires in
    (rw c.kw_minus-gap.ensures (within_less p.0 p.1), rw c.price_minus.ensures (within_less p.2 p.3), p.4)

pub product-requires-else-below : goal.product-requires-else-below
product-requires-else-below c =
    let p = c.requires in
    (rw c.kw_minus-gap.ensures (within_less p.0 p.1), within_lit tt p.2, p.4)

pub returns-then-below : goal.returns-then-below
unfolding reserve
returns-then-below c =
    rw (sym c.below.ensures ∙ c.if-below.true, c.product.ensures, c.price_minus.ensures, c.kw_minus-gap.ensures)

pub returns-else-below : goal.returns-else-below
unfolding reserve
returns-else-below c =
    rw (sym c.below.ensures ∙ c.if-below.false, c.product-else-below.ensures, c.kw_minus-gap.ensures)
