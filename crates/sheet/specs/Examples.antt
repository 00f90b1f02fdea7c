-- Texts and what they are read as: the listing of document 01, and lines that are not as printed.
use Rattle.std.specs.Prelude.{◌≡◌, refl, List, [], ◌∷◌, ◌++◌, ℕ, replicate, pos, None, Some}
use Rattle.exact.specs.Whole.{up_to}
use Rattle.tariff.specs.declared.Interval.{Interval}
use Rattle.tariff.specs.declared.Hour.{Hour}
use Rattle.tariff.specs.Units.{kw, price, move_price, seconds}
use Rattle.tariff.specs.Hour.{blank}
use Rattle.text.specs.Text.{bytes, key_at}
use Rattle.text.specs.Number.{digit_at, more_digits, natural_at, number_at}
use Rattle.lines.specs.Line.{value_at, field_at, after_fields, value_in, line_at, closes}
use Rattle.lines.specs.Series.{series_place, series_in, line_count, broken_line, series_at}
use Rattle.blocks.specs.Block.{Block, interval_line, interval_at, block_at, block_of, broken, read}
use Rattle.curves.specs.CurveLine.{curve_line, curve_said}
use Rattle.sheet.specs.Apart.{CurvesApart}
use Rattle.text.specs.Decimal.{natural}
use Rattle.lines.specs.Print.{fields, line}
use Rattle.sheet.specs.Print.{pairs_text, curve_text, intervals_text, text_of}

-- what a proof by computation opens
reading : List ℕ → Block
unfolding block_of block_at series_at series_in series_place curve_said curve_line closes line_at value_in after_fields field_at value_at key_at number_at natural_at more_digits digit_at up_to
reading s = block_of s

abbrev line1 : List ℕ
line1 = bytes "hour=14 en=100000 reg=0 r1=0 r2=0 r3=0 breg=0 b1=0 b2=0 b3=0\n"

-- line 1 behind its hour
abbrev rest1 : List ℕ
rest1 = bytes " en=0 reg=0 r1=0 r2=0 r3=0 breg=0 b1=0 b2=0 b3=0\n"

abbrev line2 : List ℕ
line2 = bytes "da=0 n=2 to=60000 at=2000 to=100000 at=3500\n"

abbrev line3 : List ℕ
line3 = bytes "rt=0 n=2 to=60000 at=2000 to=120000 at=4000\n"

-- an interval line of the listing: its numbers from `en` to `eop`, and its `lim`
abbrev interval : List ℕ → List ℕ → List ℕ
interval energy limit = bytes "s=900 en=" ++ energy ++ bytes " pen=5000 lim=" ++ limit ++ bytes " uol=- r1=0 r2=0 r3=0 p1=0 p2=0 p3=0 reg=0 preg=0 breg=0 mv=0 pmv=0 bmv=0\n"

abbrev short : List ℕ
short = bytes "s=9 en=0 ae=0 co=0 eop=0 pen=0 lim=0 uol=0 r1=0 r2=0 r3=0 p1=0 p2=0 p3=0 reg=0 preg=0 breg=0 mv=0 pmv=0 bmv=0\n"

abbrev series : List ℕ
series =
    interval (bytes "80000 ae=80000 co=0 eop=90000") (bytes "70000")
    ++ interval (bytes "50000 ae=70000 co=3000 eop=90000") (bytes "45000")
    ++ interval (bytes "110000 ae=110000 co=0 eop=120000") (bytes "100000")
    ++ interval (bytes "100000 ae=95000 co=0 eop=100000") (bytes "95000")

abbrev pub listing_text : List ℕ
listing_text = line1 ++ (line2 ++ line3) ++ series

-- its record: an interval by en, ae, co, eop and lim
abbrev row : ℕ → ℕ → ℕ → ℕ → ℕ → Interval
row en ae co eop lim =
    record {
      s = seconds (pos 900);
      en = kw (pos en);
      ae = kw (pos ae);
      co = kw (pos co);
      eop = Some (kw (pos eop));
      pen = price (pos 5000);
      lim = kw (pos lim);
      uol = None;
      r1 = kw (pos 0);
      r2 = kw (pos 0);
      r3 = kw (pos 0);
      p1 = price (pos 0);
      p2 = price (pos 0);
      p3 = price (pos 0);
      reg = kw (pos 0);
      preg = price (pos 0);
      breg = price (pos 0);
      mv = kw (pos 0);
      pmv = move_price (pos 0);
      bmv = move_price (pos 0);
    }

abbrev pub listed : Hour
listed =
    record {
      hour = pos 14;
      ahead = record { en = kw (pos 100000); reg = kw (pos 0); r1 = kw (pos 0); r2 = kw (pos 0); r3 = kw (pos 0); breg = price (pos 0); b1 = price (pos 0); b2 = price (pos 0); b3 = price (pos 0) };
      da = record { start = kw (pos 0); n = 2; to = kw (pos 60000) ∷ kw (pos 100000) ∷ replicate 10 (kw (pos 0)); at = price (pos 2000) ∷ price (pos 3500) ∷ replicate 10 (price (pos 0)) };
      rt = record { start = kw (pos 0); n = 2; to = kw (pos 60000) ∷ kw (pos 120000) ∷ replicate 10 (kw (pos 0)); at = price (pos 2000) ∷ price (pos 4000) ∷ replicate 10 (price (pos 0)) };
      n = 4;
      iv = row 80000 80000 0 90000 70000 ∷ row 50000 70000 3000 90000 45000 ∷ row 110000 110000 0 120000 100000 ∷ row 100000 95000 0 100000 95000 ∷ replicate 26 blank;
    }

pub listing_reads : block_of listing_text ≡ read listed
unfolding reading
listing_reads = refl

listing_printed : text_of listed ≡ listing_text
unfolding text_of intervals_text curve_text pairs_text line fields natural
listing_printed = refl

-- what stands behind an empty line is not read
closed_reads : block_of (listing_text ++ bytes "\nhour=15 and more") ≡ block_of listing_text
unfolding reading
closed_reads = refl

-- ---- FORM: the first line that is not as printed

empty : block_of [] ≡ broken 1
unfolding reading
empty = refl

one_line : block_of line1 ≡ broken 2
unfolding reading
one_line = refl

two_lines : block_of (line1 ++ line2) ≡ broken 3
unfolding reading
two_lines = refl

leading_zero : block_of (bytes "hour=07" ++ rest1) ≡ broken 1
unfolding reading
leading_zero = refl

minus_zero : block_of (bytes "hour=-0" ++ rest1) ≡ broken 1
unfolding reading
minus_zero = refl

eighth_digit : block_of (bytes "hour=10000000" ++ rest1) ≡ broken 1
unfolding reading
eighth_digit = refl

doubled_space : block_of (bytes "hour=7 " ++ rest1) ≡ broken 1
unfolding reading
doubled_space = refl

-- seven digits and a minus are as printed, though in no range
seven_digits : block_of (bytes "hour=-9999999" ++ rest1) ≡ broken 2
unfolding reading
seven_digits = refl

carriage_return : block_of (line1 ++ bytes "da=0 n=1 to=60000 at=2000\r\n" ++ line3) ≡ broken 2
unfolding reading
carriage_return = refl

pair_missing : block_of (line1 ++ bytes "da=0 n=2 to=60000 at=2000\n" ++ line3) ≡ broken 2
unfolding reading
pair_missing = refl

pair_too_many : block_of (line1 ++ bytes "da=0 n=1 to=60000 at=2000 to=100000 at=3500\n" ++ line3) ≡ broken 2
unfolding reading
pair_too_many = refl

thirteen_pairs :
    block_of
    (line1
    ++ bytes "da=0 n=13 to=1 at=0 to=2 at=0 to=3 at=0 to=4 at=0 to=5 at=0 to=6 at=0 to=7 at=0 to=8 at=0 to=9 at=0 to=10 at=0 to=11 at=0 to=12 at=0 to=13 at=0\n"
    ++ line3)
    ≡ broken 2
unfolding reading
thirteen_pairs = refl

twelve_pairs :
    block_of
    (line1
    ++ bytes "da=0 n=12 to=1 at=0 to=2 at=0 to=3 at=0 to=4 at=0 to=5 at=0 to=6 at=0 to=7 at=0 to=8 at=0 to=9 at=0 to=10 at=0 to=11 at=0 to=12 at=0\n")
    ≡ broken 3
unfolding reading
twelve_pairs = refl

last_line_open : block_of (line1 ++ line2 ++ line3 ++ short ++ bytes "s=900") ≡ broken 5
unfolding reading
last_line_open = refl

-- only `eop` and `uol` may be missing
minus_alone : block_of (line1 ++ line2 ++ line3 ++ interval (bytes "80000 ae=80000 co=- eop=90000") (bytes "70000")) ≡ broken 4
unfolding reading
minus_alone = refl

-- after 29 interval lines one more is the last: the next is line 34, whatever it holds
thirty_lines : series_at interval_line 4 1 short 0 29 ≡ line_count 30
unfolding reading
thirty_lines = refl

line_too_many : series_at interval_line 4 1 (short ++ bytes "?") 0 29 ≡ broken_line 34
unfolding reading
line_too_many = refl

-- ---- `eop`: missing, given, and a minus that belongs to no number

no_point : (interval_at (interval (bytes "80000 ae=80000 co=0 eop=-") (bytes "70000")) 0 0).eop ≡ None
unfolding reading
no_point = refl

point_of_nothing : (interval_at short 0 0).eop ≡ Some (kw (pos 0))
unfolding reading
point_of_nothing = refl

minus_nothing : block_of (line1 ++ line2 ++ line3 ++ interval (bytes "80000 ae=80000 co=0 eop=-0") (bytes "70000")) ≡ broken 4
unfolding reading
minus_nothing = refl

-- ---- `uol`: missing, and a limit of 0

no_limit : (interval_at (interval (bytes "80000 ae=80000 co=0 eop=90000") (bytes "70000")) 0 0).uol ≡ None
unfolding reading
no_limit = refl

limit_of_nothing : (interval_at short 0 0).uol ≡ Some (kw (pos 0))
unfolding reading
limit_of_nothing = refl

-- ---- curve lines: the listing, and the same with a step more of real-time curve

abbrev more : List ℕ
more = line2 ++ bytes "rt=0 n=3 to=60000 at=2000 to=120000 at=4000 to=130000 at=5000\n"

step_added : CurvesApart listing_text (line1 ++ more ++ series)
unfolding reading
step_added =
    record {
      first = line1;
      curves = line2 ++ line3;
      others = more;
      rest = series;
      one = record { parts = refl; line1 = refl; lines23 = refl };
      other = record { parts = refl; line1 = refl; lines23 = refl };
    }
