-- `heads::places_of` reads the lines one after the other. The loop's invariant: the places of j lines and of what stands behind them are told.
use Rattle.header.specs.Header.{layout_by}
use Rattle.header.proofs.HeaderLines.{PlacedTo}
use Rattle.header.proofs.heads.places_of.Given as goal

abbrev pub invariant-loop-j : goal.invariant-loop-j
invariant-loop-j l = PlacedTo (layout_by l.layout.form l.layout.judged) l.layout.hours l.s 13 l.at l.j
