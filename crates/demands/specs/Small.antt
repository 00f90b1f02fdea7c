-- A small block, as bytes and as its record, and a sheet of a day of 23 hours with this block alone: each of its four intervals must price
-- kilowatt 2 alone. Its day-ahead curve is left open, and there are three for it.
use Rattle.std.specs.Prelude.{List, ◌∷◌, ◌++◌, ℕ, pos, replicate}
use Rattle.tariff.specs.declared.Curve.{Curve}
use Rattle.tariff.specs.declared.Interval.{Interval}
use Rattle.tariff.specs.declared.Hour.{Hour}
use Rattle.tariff.specs.Hour.{blank}
use Rattle.figures.specs.Sample.{schedules, empty_curve, one_step, two_steps, energy_quarter}
use Rattle.text.specs.Text.{bytes}

-- ---- the block

abbrev pub first : List ℕ
first = bytes "hour=0 en=3 reg=0 r1=0 r2=0 r3=0 breg=0 b1=0 b2=0 b3=0\n"

abbrev pub curves : (da : List ℕ) → List ℕ
curves da = da ++ bytes "rt=0 n=0\n"

abbrev quarter : List ℕ
quarter = bytes "s=900 en=2 ae=2 co=0 eop=2 pen=5000 lim=0 uol=- r1=0 r2=0 r3=0 p1=0 p2=0 p3=0 reg=0 preg=0 breg=0 mv=0 pmv=0 bmv=0\n"

abbrev pub rest : List ℕ
rest = quarter ++ quarter ++ quarter ++ quarter

abbrev pub block : (da : List ℕ) → List ℕ
block da = first ++ curves da ++ rest

abbrev quarter_read : Interval
quarter_read = energy_quarter (pos 2) (pos 2) (pos 0) (pos 2) (pos 5000) (pos 0)

abbrev pub hour : Curve → Hour
hour da =
    record {
      hour = pos 0;
      ahead = schedules (pos 3) (pos 0) (pos 0);
      da = da;
      rt = empty_curve;
      n = 4;
      iv = quarter_read ∷ quarter_read ∷ quarter_read ∷ quarter_read ∷ replicate 26 blank;
    }

-- ---- the day

abbrev pub header : List ℕ
header = bytes "form=2\nhours=23\nunit=1\nrtc=0\n"
    ++ bytes "cat=11111111111111111111111\nx1=00000000000000000000000\nx2=00000000000000000000000\nx3=00000000000000000000000\n"
    ++ bytes "x4=00000000000000000000000\nx5=00000000000000000000000\nx6=00000000000000000000000\n\n"

-- the day before has the same header, and the day after is lacking
abbrev pub headers : List ℕ
headers = header ++ header ++ bytes "\n"

abbrev pub day : (da : List ℕ) → List ℕ
day da = headers ++ block da

-- ---- the curves: to kilowatt 2 at one price, with another price below it, and longer

abbrev pub plain : List ℕ
plain = bytes "da=0 n=1 to=3 at=2000\n"

abbrev pub other : List ℕ
other = bytes "da=0 n=2 to=2 at=7 to=3 at=2000\n"

abbrev pub longer : List ℕ
longer = bytes "da=0 n=2 to=3 at=2000 to=5 at=3000\n"

abbrev pub plain_read : Curve
plain_read = one_step (pos 0) (pos 3) (pos 2000)

abbrev pub other_read : Curve
other_read = two_steps (pos 2) (pos 7) (pos 3) (pos 2000)

abbrev pub longer_read : Curve
longer_read = two_steps (pos 3) (pos 2000) (pos 5) (pos 3000)
