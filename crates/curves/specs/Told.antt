-- What the code has read of a curve line: the words of contracts inside the crate.
use Rattle.std.specs.Prelude.{if◌then◌else◌, List, ℕ, ℤ, pos, Option, None, Some}
use Rattle.exact.specs.Whole.{over}
use Rattle.tariff.specs.declared.Curve.{Curve}
use Rattle.tariff.specs.declared.Kw.{Kw}
use Rattle.tariff.specs.Units.{kw, price}
use Rattle.tariff.specs.Sheet.{lies_in}
use Rattle.lines.specs.Line.{filled}
use Rattle.curves.specs.CurveLine.{end_of_pair, price_of_pair}

-- its count, where it is 0 to 12
abbrev pub count_of : ℤ → Option ℕ
count_of n = if lies_in (pos 0) (pos 12) n then Some (over n) else None

-- the curve of n pairs, the first of which stands at `at`
abbrev pub curve_of : Kw → (n : ℕ) → List ℕ → (at : ℕ) → Curve
curve_of start n s at =
    record {
      start = start;
      n = n;
      to = filled n 12 (end_of_pair s at) (kw (pos 0));
      at = filled n 12 (price_of_pair s at) (price (pos 0));
    }
