-- A curve line: start, n, and n pairs. Another n than 0 to 12 is not as printed.
use Rattle.text.specs.Text.{Next}
use Rattle.std.specs.Prelude.{if◌then◌else◌, Bool, List, ℕ, ℤ, pos, Option, None, Some}
use Rattle.exact.specs.Whole.{over}
use Rattle.tariff.specs.declared.Kw.{Kw}
use Rattle.tariff.specs.declared.Price.{Price}
use Rattle.tariff.specs.declared.Curve.{Curve}
use Rattle.tariff.specs.Units.{kw, price}
use Rattle.tariff.specs.Sheet.{lies_in}
use Rattle.keys.specs.Keys.{PAIR, DA, RT}
use Rattle.lines.specs.Line.{and_then, after_fields, value_in, line_feed, filled}
use Rattle.lines.specs.Series.{series_place, series_in}

-- ---- the pairs, one after the other from a place on

-- the place after a pair, and after m of them
abbrev pub after_pair : List ℕ → ℕ → Next
after_pair = after_fields PAIR 2

abbrev pub after_pairs : (m : ℕ) → List ℕ → ℕ → Next
after_pairs m s at = series_place after_pair s at m

-- the end and the price of a pair, and of pair j
abbrev pub end_said : List ℕ → ℕ → Kw
end_said s at = kw (value_in PAIR s at 0)

abbrev pub price_said : List ℕ → ℕ → Price
price_said s at = price (value_in PAIR s at 1)

abbrev pub end_of_pair : List ℕ → (at j : ℕ) → Kw
end_of_pair = series_in after_pair end_said (kw (pos 0))

abbrev pub price_of_pair : List ℕ → (at j : ℕ) → Price
price_of_pair = series_in after_pair price_said (price (pos 0))

-- ---- the line at a place, from key `first` on, and the curve that it says

abbrev pub pairs_at : ℤ → List ℕ → ℕ → Next
pairs_at n s at = if lies_in (pos 0) (pos 12) n then and_then (after_pairs (over n) s at) (line_feed s) else None

unfoldable pub curve_line : (first : ℕ) → List ℕ → ℕ → Next
curve_line first s at = and_then (after_fields first 2 s at) (pairs_at (value_in first s at 1) s)

abbrev pub curve_from : ℤ → ℤ → List ℕ → Next → Curve
curve_from start n s (Some at) =
    record {
      start = kw start;
      n = over n;
      to = filled (over n) 12 (end_of_pair s at) (kw (pos 0));
      at = filled (over n) 12 (price_of_pair s at) (price (pos 0));
    }
curve_from start n s None = record { start = kw start; n = 0; to = filled 0 12 (λ j. kw (pos 0)) (kw (pos 0)); at = filled 0 12 (λ j. price (pos 0)) (price (pos 0)) }

unfoldable pub curve_said : (first : ℕ) → List ℕ → ℕ → Curve
curve_said first s at = curve_from (value_in first s at 0) (value_in first s at 1) s (after_fields first 2 s at)

-- ---- what the code gives back: the curve and the place behind its line, or nothing where the line is not as printed

abbrev pub curve_read : Next → Curve → Option (Curve × ℕ)
curve_read (Some next) c = Some (c, next)
curve_read None c = None

abbrev pub line_read_at : (first : ℕ) → List ℕ → ℕ → Option (Curve × ℕ)
line_read_at first s at = curve_read (curve_line first s at) (curve_said first s at)

-- the first key of the real-time curve's line, or of the day-ahead curve's
abbrev pub curve_key : (live : Bool) → ℕ
curve_key live = if live then RT else DA

abbrev pub curve_read_at : (live : Bool) → List ℕ → ℕ → Option (Curve × ℕ)
curve_read_at live = line_read_at (curve_key live)
