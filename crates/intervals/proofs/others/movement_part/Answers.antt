-- `others::movement_part` gives what regulation movement takes, and its product fits.
use Rattle.exact.proofs.Range.{within_less, within_max, within_zero}
use Rattle.tariff.specs.Contributions.{movement}
use Rattle.intervals.proofs.others.movement_part.Goals as goal

pub moved-requires : goal.moved-requires
moved-requires c =
    let p = c.requires in (
      p.0,
      rw (c.move_or_zero.ensures, c.move_minus.ensures) (within_max (within_less p.1 p.2) (within_zero 2000000)),
    )

pub returns : goal.returns
unfolding movement
returns c = rw (c.moved.ensures, c.move_or_zero.ensures, c.move_minus.ensures)
