-- `front::read_icl_front` meets its contract: the front of an internal controllable line's day is what its header says.
use mathlib.Core.Path.{refl}
use Rattle.ledger.proofs.IclFront.{icl_front_read}
use Rattle.ledger.proofs.front.read_icl_front.Goals as goal

pub returns : goal.returns
returns c =
    let h = c.read_icl_header-header.ensures in
    icl_front_read c.args.text.now _ h.found refl h.unmarked h.hours h.next
