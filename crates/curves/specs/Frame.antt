-- The frame of an hour block, whatever the hour is of: line 1, the two curve lines, and up to 30 interval lines. FORM is at the first line that
-- is not as printed.
use Rattle.text.specs.Text.{Next}
use Rattle.std.specs.Prelude.{List, ℕ, ℤ, None, Some, Result, Ok, Err}
use Rattle.tariff.specs.declared.Curve.{Curve}
use Rattle.keys.specs.Keys.{DA, RT}
use Rattle.lines.specs.Line.{value_in, line_at, filled}
use Rattle.lines.specs.Series.{series_in, Series, line_count, broken_line, series_at}
use Rattle.curves.specs.CurveLine.{curve_line, curve_said}

-- a kind of block: of line 1 the first key and how many fields it has, of an interval line the same, and the records that their numbers make
pub record Kind (Interval Hour : Type 0) : Type 0 where
  pub ahead : ℕ
  pub ahead_fields : ℕ
  pub interval : ℕ
  pub interval_fields : ℕ
  pub interval_of : (ℕ → ℤ) → Interval
  -- what stands past the last interval
  pub blank : Interval
  pub hour_of : (ahead : ℕ → ℤ) → (da rt : Curve) → (n : ℕ) → List Interval → Hour

abbrev pub kind_of : {I H : Type 0} → (ahead ahead_fields interval interval_fields : ℕ) → ((ℕ → ℤ) → I) → I
    → ((ℕ → ℤ) → Curve → Curve → ℕ → List I → H) → Kind I H
kind_of ahead ahead_fields interval interval_fields interval_of blank hour_of =
    record {
      ahead = ahead;
      ahead_fields = ahead_fields;
      interval = interval;
      interval_fields = interval_fields;
      interval_of = interval_of;
      blank = blank;
      hour_of = hour_of;
    }

-- ---- its lines

abbrev pub first_line : {I H : Type 0} → Kind I H → List ℕ → ℕ → Next
first_line k = line_at k.ahead k.ahead_fields

-- an interval line, and what it says
abbrev pub interval_line : {I H : Type 0} → Kind I H → List ℕ → ℕ → Next
interval_line k = line_at k.interval k.interval_fields

abbrev pub interval_said : {I H : Type 0} → Kind I H → List ℕ → ℕ → I
interval_said k s at = k.interval_of (value_in k.interval s at)

-- where the first interval line stands at `at`: interval i; and how many there are, up to 30, from line 4 on
abbrev pub interval_at : {I H : Type 0} → Kind I H → List ℕ → (at i : ℕ) → I
interval_at k = series_in (interval_line k) (interval_said k) k.blank

abbrev pub interval_lines : {I H : Type 0} → Kind I H → List ℕ → (at : ℕ) → Series
interval_lines k s at = series_at (interval_line k) 4 30 s at 0

-- ---- the block

-- the first line that is not as printed, or the record
pub data Framed (Hour : Type 0) : Type 0 where
  broken : ℕ → Framed Hour
  read : Hour → Framed Hour

-- the record of line 1's values, two curves and n intervals, the first of which stands at `at`
abbrev pub hour_with : {I H : Type 0} → Kind I H → (ℕ → ℤ) → Curve → Curve → List ℕ → (at n : ℕ) → H
hour_with k v da rt s at n = k.hour_of v da rt n (filled n 30 (interval_at k s at) k.blank)

abbrev pub with_series : {I H : Type 0} → Kind I H → (ℕ → ℤ) → Curve → Curve → List ℕ → ℕ → Series → Framed H
with_series k v da rt s at (broken_line line) = broken line
with_series k v da rt s at (line_count n) = read (hour_with k v da rt s at n)

abbrev pub after_line3 : {I H : Type 0} → Kind I H → Next → (ℕ → ℤ) → Curve → Curve → List ℕ → Framed H
after_line3 k None v da rt s = broken 3
after_line3 k (Some at) v da rt s = with_series k v da rt s at (interval_lines k s at)

abbrev pub after_line2 : {I H : Type 0} → Kind I H → Next → (ℕ → ℤ) → Curve → List ℕ → Framed H
after_line2 k None v da s = broken 2
after_line2 k (Some at) v da s = after_line3 k (curve_line RT s at) v da (curve_said RT s at) s

abbrev pub after_line1 : {I H : Type 0} → Kind I H → Next → List ℕ → ℕ → Framed H
after_line1 k None s from = broken 1
after_line1 k (Some at) s from = after_line2 k (curve_line DA s at) (value_in k.ahead s from) (curve_said DA s at) s

-- the block that begins at a place: read up to its first empty line or the end of the text
unfoldable pub framed_at : {I H : Type 0} → Kind I H → List ℕ → ℕ → Framed H
framed_at k s from = after_line1 k (first_line k s from) s from

-- what the code gives back
abbrev pub framed_read : {H : Type 0} → Framed H → Result H ℕ
framed_read (broken line) = Err line
framed_read (read h) = Ok h
