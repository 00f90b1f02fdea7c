-- An hour block: line 1, the two curve lines, and up to 30 interval lines. FORM is at the first line that is not as printed.
use Rattle.text.specs.Text.{Next}
use Rattle.std.specs.Prelude.{List, ℕ, ℤ, Result}
use Rattle.tariff.specs.declared.Curve.{Curve}
use Rattle.tariff.specs.declared.Interval.{Interval}
use Rattle.tariff.specs.declared.Hour.{Hour}
use Rattle.tariff.specs.Hour.{blank}
use Rattle.keys.specs.Keys.{AHEAD, INTERVAL}
use Rattle.lines.specs.Series.{Series}
use Rattle.curves.specs.Frame as frame
use Rattle.curves.specs.Frame.{Kind, Framed, framed_at, framed_read}
pub use Rattle.curves.specs.Frame.{broken, read}
use Rattle.records.specs.Records.{ahead_of, interval_of}

-- ---- a generator's block: ten fields in line 1, twenty in an interval line

abbrev pub generator : Kind Interval Hour
generator =
    record {
      ahead = AHEAD;
      ahead_fields = 10;
      interval = INTERVAL;
      interval_fields = 20;
      interval_of = interval_of;
      blank = blank;
      hour_of = λ v da rt n iv. record { hour = v 0; ahead = ahead_of v; da = da; rt = rt; n = n; iv = iv };
    }

abbrev pub Block : Type 0
Block = Framed Hour

-- the block that begins at a place: read up to its first empty line or the end of the text
unfoldable pub block_at : List ℕ → ℕ → Block
unfolding framed_at
block_at = framed_at generator

-- a block that is lent
unfoldable pub block_of : List ℕ → Block
block_of s = block_at s 0

-- ---- its lines, and what they make, one after the other

abbrev pub ahead_line : List ℕ → ℕ → Next
ahead_line = frame.first_line generator

abbrev pub interval_line : List ℕ → ℕ → Next
interval_line = frame.interval_line generator

abbrev pub interval_said : List ℕ → ℕ → Interval
interval_said = frame.interval_said generator

abbrev pub interval_at : List ℕ → (at i : ℕ) → Interval
interval_at = frame.interval_at generator

abbrev pub interval_lines : List ℕ → (at : ℕ) → Series
interval_lines = frame.interval_lines generator

abbrev pub hour_with : (ℕ → ℤ) → Curve → Curve → List ℕ → (at n : ℕ) → Hour
hour_with = frame.hour_with generator

abbrev pub with_series : (ℕ → ℤ) → Curve → Curve → List ℕ → ℕ → Series → Block
with_series = frame.with_series generator

abbrev pub after_line3 : Next → (ℕ → ℤ) → Curve → Curve → List ℕ → Block
after_line3 = frame.after_line3 generator

abbrev pub after_line2 : Next → (ℕ → ℤ) → Curve → List ℕ → Block
after_line2 = frame.after_line2 generator

abbrev pub after_line1 : Next → List ℕ → ℕ → Block
after_line1 = frame.after_line1 generator

-- ---- what the code gives back: the record, or the first line that is not as printed

abbrev pub hour_read_of : Block → Result Hour ℕ
hour_read_of = framed_read
