-- `settle_day` meets its contract: what stands behind the front that is read is settled.
use mathlib.Core.Path.{refl}
use Rattle.ledger.specs.Day.{front_of}
use Rattle.ledger.proofs.settle_day.Goals as goal

pub settle_behind-requires : goal.settle_behind-requires
settle_behind-requires c = let front = c.read_front.ensures in (front.inside, rw front.hours front.few)

pub returns : goal.returns
returns c =
    let s = c.args.text.now in
    let d = c.settle_behind.ensures (front_of s) refl c.read_front.ensures in
    record { found = d.found; header = d.header; count = d.count; hours = d.hours; total = d.total }
