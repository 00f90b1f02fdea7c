-- `line::pairs_at` meets its contract. After j pairs the place is the one after them, and the first j of both arrays are filled.
use Rattle.std.specs.Prelude.{Some}
use mathlib.Core.Path.{◌≡◌}
use lib.IntN.{pos}
use Rattle.tariff.specs.Units.{kw, price}
use Rattle.lines.specs.Line.{filled}
use Rattle.curves.specs.CurveLine.{after_pairs, end_of_pair, price_of_pair}
use Rattle.curves.proofs.line.pairs_at.Given as goal

abbrev pub invariant-loop-j : goal.invariant-loop-j
invariant-loop-j l = record {
  place : after_pairs l.j l.s l.at ≡ Some l.i;
  ends : l.to ≡ filled l.j 12 (end_of_pair l.s l.at) (kw (pos 0));
  paid : l.prices ≡ filled l.j 12 (price_of_pair l.s l.at) (price (pos 0));
}
