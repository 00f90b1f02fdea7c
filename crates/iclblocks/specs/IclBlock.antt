-- An hour block of an internal controllable line: its schedules in line 1, the two curve lines of a generator's block, and up to 30 interval
-- lines. FORM is at the first line that is not as printed.
use Rattle.text.specs.Text.{Next}
use Rattle.std.specs.Prelude.{List, ℕ, Result}
use Rattle.tariff.specs.declared.IclInterval.{IclInterval}
use Rattle.tariff.specs.declared.IclHour.{IclHour}
use Rattle.tariff.specs.Units.{kw}
use Rattle.tariff.specs.Controllable.{blank_icl}
use Rattle.keys.specs.Keys.{ICL_HOUR, ICL_INTERVAL}
use Rattle.curves.specs.Frame.{Kind, first_line, interval_line, interval_said, Framed, framed_at, framed_read}
pub use Rattle.curves.specs.Frame.{broken, read}
use Rattle.records.specs.Records.{icl_interval_of}

-- ---- three fields in line 1, six in an interval line

abbrev pub controllable_line : Kind IclInterval IclHour
controllable_line =
    record {
      ahead = ICL_HOUR;
      ahead_fields = 3;
      interval = ICL_INTERVAL;
      interval_fields = 6;
      interval_of = icl_interval_of;
      blank = blank_icl;
      hour_of = λ v da rt n iv. record { hour = v 0; dasi = kw (v 1); dasw = kw (v 2); da = da; rt = rt; n = n; iv = iv };
    }

abbrev pub IclBlock : Type 0
IclBlock = Framed IclHour

-- the block that begins at a place: read up to its first empty line or the end of the text
unfoldable pub icl_block_at : List ℕ → ℕ → IclBlock
unfolding framed_at
icl_block_at = framed_at controllable_line

-- a block that is lent
unfoldable pub icl_block_of : List ℕ → IclBlock
icl_block_of s = icl_block_at s 0

-- ---- line 1, and an interval line with what it says

abbrev pub icl_hour_line : List ℕ → ℕ → Next
icl_hour_line = first_line controllable_line

abbrev pub icl_interval_line : List ℕ → ℕ → Next
icl_interval_line = interval_line controllable_line

abbrev pub icl_interval_said : List ℕ → ℕ → IclInterval
icl_interval_said = interval_said controllable_line

-- ---- what the code gives back: the record, or the first line that is not as printed

abbrev pub icl_read_of : IclBlock → Result IclHour ℕ
icl_read_of = framed_read
