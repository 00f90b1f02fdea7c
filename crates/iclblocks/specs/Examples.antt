-- Texts of an internal controllable line's block and what they are read as, and lines that are not as printed.
use Rattle.std.specs.Prelude.{◌≡◌, refl, List, [], ◌∷◌, ◌++◌, ℕ, zero, suc, replicate, pos, neg_ℤ}
use Rattle.exact.specs.Whole.{up_to}
use Rattle.tariff.specs.declared.IclHour.{IclHour}
use Rattle.tariff.specs.Units.{kw, price, seconds}
use Rattle.tariff.specs.Controllable.{blank_icl}
use Rattle.text.specs.Text.{bytes, key_at}
use Rattle.text.specs.Number.{digit_at, more_digits, natural_at, number_at}
use Rattle.lines.specs.Line.{value_at, field_at, after_fields, value_in, line_at, closes}
use Rattle.lines.specs.Series.{series_place, series_in, line_count, series_at}
use Rattle.curves.specs.CurveLine.{curve_line, curve_said}
use Rattle.iclblocks.specs.IclBlock.{IclBlock, broken, read, icl_block_at, icl_block_of, icl_interval_line}
use Rattle.iclblocks.specs.IclApart.{IclCurvesApart}

-- what a proof by computation opens
reading : List ℕ → IclBlock
unfolding icl_block_of icl_block_at series_at series_in series_place curve_said curve_line closes line_at value_in after_fields field_at value_at key_at number_at natural_at more_digits digit_at up_to
reading s = icl_block_of s

abbrev line1 : List ℕ
line1 = bytes "hour=7 dasi=100000 dasw=105000\n"

abbrev line2 : List ℕ
line2 = bytes "da=0 n=2 to=60000 at=2000 to=100000 at=3500\n"

abbrev line3 : List ℕ
line3 = bytes "rt=0 n=1 to=120000 at=2500\n"

abbrev short : List ℕ
short = bytes "s=9 en=0 aei=0 aew=0 pin=0 pout=0\n"

abbrev series : List ℕ
series =
    bytes "s=1800 en=80000 aei=80000 aew=84000 pin=5000 pout=-1500\n"
    ++ bytes "s=1800 en=110000 aei=110000 aew=115500 pin=3000 pout=2000\n"

abbrev pub icl_text : List ℕ
icl_text = line1 ++ (line2 ++ line3) ++ series

abbrev pub icl_read : IclHour
icl_read =
    record {
      hour = pos 7;
      dasi = kw (pos 100000);
      dasw = kw (pos 105000);
      da = record { start = kw (pos 0); n = 2; to = kw (pos 60000) ∷ kw (pos 100000) ∷ replicate 10 (kw (pos 0)); at = price (pos 2000) ∷ price (pos 3500) ∷ replicate 10 (price (pos 0)) };
      rt = record { start = kw (pos 0); n = 1; to = kw (pos 120000) ∷ replicate 11 (kw (pos 0)); at = price (pos 2500) ∷ replicate 11 (price (pos 0)) };
      n = 2;
      iv =
          record { s = seconds (pos 1800); en = kw (pos 80000); aei = kw (pos 80000); aew = kw (pos 84000); pin = price (pos 5000); pout = price (neg_ℤ (pos 1500)) }
          ∷ record { s = seconds (pos 1800); en = kw (pos 110000); aei = kw (pos 110000); aew = kw (pos 115500); pin = price (pos 3000); pout = price (pos 2000) }
          ∷ replicate 28 blank_icl;
    }

pub icl_reads : icl_block_of icl_text ≡ read icl_read
unfolding reading
icl_reads = refl

-- what stands behind an empty line is not read
closed_reads : icl_block_of (icl_text ++ bytes "\nhour=8 and more") ≡ icl_block_of icl_text
unfolding reading
closed_reads = refl

-- ---- FORM: the first line that is not as printed

empty : icl_block_of [] ≡ broken 1
unfolding reading
empty = refl

one_line : icl_block_of line1 ≡ broken 2
unfolding reading
one_line = refl

two_lines : icl_block_of (line1 ++ line2) ≡ broken 3
unfolding reading
two_lines = refl

-- an hour may have no interval line: SECONDS refuses it
three_lines : icl_block_of (line1 ++ line2 ++ line3) ≡ read (record { hour = icl_read.hour; dasi = icl_read.dasi; dasw = icl_read.dasw; da = icl_read.da; rt = icl_read.rt; n = 0; iv = replicate 30 blank_icl })
unfolding reading
three_lines = refl

-- a generator's line 1, and its interval line
generator_line : icl_block_of (bytes "hour=7 en=100000 reg=0 r1=0 r2=0 r3=0 breg=0 b1=0 b2=0 b3=0\n" ++ line2 ++ line3) ≡ broken 1
unfolding reading
generator_line = refl

generator_interval : icl_block_of (line1 ++ line2 ++ line3 ++ bytes "s=1800 en=80000 ae=80000") ≡ broken 4
unfolding reading
generator_interval = refl

other_key : icl_block_of (bytes "hour=7 dasw=100000 dasi=105000\n" ++ line2 ++ line3) ≡ broken 1
unfolding reading
other_key = refl

key_missing : icl_block_of (line1 ++ line2 ++ line3 ++ bytes "s=9 en=0 aei=0 pin=0 pout=0\n") ≡ broken 4
unfolding reading
key_missing = refl

key_too_many : icl_block_of (line1 ++ line2 ++ line3 ++ short ++ bytes "s=9 en=0 aei=0 aew=0 pin=0 pout=0 eop=0\n") ≡ broken 5
unfolding reading
key_too_many = refl

no_number : icl_block_of (line1 ++ line2 ++ line3 ++ bytes "s=9 en=0 aei=- aew=0 pin=0 pout=0\n") ≡ broken 4
unfolding reading
no_number = refl

-- no line feed behind line 1, a curve line, and an interval line
first_line_open : icl_block_of (bytes "hour=7 dasi=100000 dasw=105000") ≡ broken 1
unfolding reading
first_line_open = refl

curve_line_open : icl_block_of (line1 ++ bytes "da=0 n=0") ≡ broken 2
unfolding reading
curve_line_open = refl

last_line_open : icl_block_of (line1 ++ line2 ++ line3 ++ short ++ bytes "s=9 en=0 aei=0 aew=0 pin=0 pout=0") ≡ broken 5
unfolding reading
last_line_open = refl

-- the curves change places
curves_swapped : icl_block_of (line1 ++ line3 ++ line2) ≡ broken 2
unfolding reading
curves_swapped = refl

thirteen_pairs :
    icl_block_of
    (line1
    ++ line2
    ++ bytes "rt=0 n=13 to=1 at=0 to=2 at=0 to=3 at=0 to=4 at=0 to=5 at=0 to=6 at=0 to=7 at=0 to=8 at=0 to=9 at=0 to=10 at=0 to=11 at=0 to=12 at=0 to=13 at=0\n")
    ≡ broken 3
unfolding reading
thirteen_pairs = refl

-- after 29 interval lines one more is the last; of 31 the last is line 34, whatever it holds
thirty_lines : series_at icl_interval_line 4 1 short 0 29 ≡ line_count 30
unfolding reading
thirty_lines = refl

abbrev shorts : ℕ → List ℕ
shorts zero = []
shorts (suc n) = short ++ shorts n

line_too_many : icl_block_of (line1 ++ line2 ++ line3 ++ shorts 30 ++ bytes "?") ≡ broken 34
unfolding reading
line_too_many = refl

-- ---- curve lines: the text, and the same with a step more of real-time curve

abbrev more : List ℕ
more = line2 ++ bytes "rt=0 n=2 to=120000 at=2500 to=130000 at=5000\n"

step_added : IclCurvesApart icl_text (line1 ++ more ++ series)
unfolding reading
step_added =
    record {
      first = line1;
      curves = line2 ++ line3;
      others = more;
      rest = series;
      one = record { parts = refl; line1 = refl; lines23 = refl };
      other = record { parts = refl; line1 = refl; lines23 = refl };
    }
