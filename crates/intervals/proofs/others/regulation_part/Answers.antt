-- `others::regulation_part` gives what regulation contributes, and its product fits.
use mathlib.Core.Path.{sym, ◌∙◌}
use Rattle.exact.proofs.Range.{within_less, within_max, within_zero}
use Rattle.tariff.specs.Contributions.{regulation}
use Rattle.intervals.proofs.others.regulation_part.Goals as goal

pub product-requires : goal.product-requires
product-requires c =
    let p = c.requires in
    (rw c.kw_minus-gap.ensures (within_less p.0 p.1), rw c.price_minus.ensures (within_less p.2 p.3), p.5)

pub product-requires-else-below : goal.product-requires-else-below
product-requires-else-below c =
    let p = c.requires in (
      rw c.kw_minus-gap.ensures (within_less p.0 p.1),
      rw (c.price_or_zero.ensures, c.price_minus-else-below.ensures) (within_max (within_less p.2 p.4) (within_zero 2000000)),
      p.5,
    )

pub returns-then-below : goal.returns-then-below
unfolding regulation
returns-then-below c =
    rw (sym c.below.ensures ∙ c.if-below.true, c.product.ensures, c.price_minus.ensures, c.kw_minus-gap.ensures)

pub returns-else-below : goal.returns-else-below
unfolding regulation
returns-else-below c =
    rw (
      sym c.below.ensures ∙ c.if-below.false,
      c.product-else-below.ensures,
      c.price_or_zero.ensures,
      c.price_minus-else-below.ensures,
      c.kw_minus-gap.ensures,
    )
