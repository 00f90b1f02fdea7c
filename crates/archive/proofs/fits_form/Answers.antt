-- `fits_form` compares the count, where the sheet goes down.
use mathlib.Core.Path.{sym, ap}
use Rattle.archive.specs.declared.Way.{Way}
use Rattle.archive.specs.Move.{fits}
use Rattle.archive.proofs.fits_form.Goals as goal

pub returns-in-Down : goal.returns-in-Down
returns-in-Down c = ap (λ (w : Way). fits w c.args.hours) (sym c.in-Down.is)
