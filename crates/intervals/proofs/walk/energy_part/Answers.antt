-- `walk::energy_part` gives what an upper branch caps; no sum on the way is too large.
use Rattle.exact.proofs.Range.{within_add, within_less, within_lit}
use Rattle.intervals.proofs.Tasks.{sold_within, signed_within}
use Rattle.intervals.proofs.walk.energy_part.Goals as goal

pub product-sold-requires : goal.product-sold-requires
product-sold-requires c =
    let f = c.requires.0 in
    (rw c.kw_minus.ensures (within_less f.from f.limit), within_lit tt f.pen, f.s)

pub grains_plus-energy-requires : goal.grains_plus-energy-requires
grains_plus-energy-requires c = (
  rw (c.product-sold.ensures, c.kw_minus.ensures) (within_lit tt (sold_within c.args.t c.args.cost.0 c.requires.0 c.requires.1)),
  rw c.signed_cost.ensures (within_lit tt (signed_within c.args.t c.args.cost.0 c.requires.0 c.requires.1)),
)

pub grains_plus-requires : goal.grains_plus-requires
grains_plus-requires c = (
  rw (c.grains_plus-energy.ensures, c.signed_cost.ensures, c.product-sold.ensures, c.kw_minus.ensures)
      (within_lit tt
      (within_add (sold_within c.args.t c.args.cost.0 c.requires.0 c.requires.1) (signed_within c.args.t c.args.cost.0 c.requires.0 c.requires.1))),
  within_lit tt c.requires.0.beside,
)

pub returns : goal.returns
returns c =
    rw (c.grains_plus.ensures, c.grains_plus-energy.ensures, c.signed_cost.ensures, c.product-sold.ensures, c.kw_minus.ensures)
