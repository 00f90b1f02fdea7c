-- `walk::cost_plus` adds the kilowatts from `x` up to `e` at one price; nothing on the way is too large.
use Rattle.exact.proofs.Range.{within_lit, within_less, within_mul}
use Rattle.intervals.proofs.walk.cost_plus.Goals as goal

pub product-requires : goal.product-requires
product-requires c =
    let w = c.requires in
    (rw c.kw_minus.ensures (within_less w.2 w.1), within_lit tt w.3, w.4)

pub grains_plus-requires : goal.grains_plus-requires
grains_plus-requires c =
    let w = c.requires in
    (within_lit tt w.0, rw (c.product.ensures, c.kw_minus.ensures) (within_lit tt (within_mul (within_mul (within_less w.2 w.1) w.3) w.4)))

pub returns : goal.returns
returns c = rw (c.grains_plus.ensures, c.product.ensures, c.kw_minus.ensures)
