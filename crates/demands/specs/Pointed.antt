-- A small block whose four intervals leave their operating point to the real-time curve, as bytes and as its record. Its real-time curve is left
-- open, and there are five for it.
use Rattle.std.specs.Prelude.{List, ◌∷◌, ◌++◌, ℕ, pos, replicate, None}
use Rattle.tariff.specs.declared.Curve.{Curve}
use Rattle.tariff.specs.declared.Interval.{Interval}
use Rattle.tariff.specs.declared.Hour.{Hour}
use Rattle.tariff.specs.Units.{kw, price, move_price, seconds}
use Rattle.tariff.specs.Hour.{blank}
use Rattle.figures.specs.Sample.{schedules, empty_curve, one_step, two_steps}
use Rattle.text.specs.Text.{bytes}

-- ---- the block: 100 kW were sold day-ahead, of which each interval is told to make 50 and makes 80

abbrev pub first : List ℕ
first = bytes "hour=0 en=100 reg=0 r1=0 r2=0 r3=0 breg=0 b1=0 b2=0 b3=0\n"

abbrev pub curves : (rt : List ℕ) → List ℕ
curves rt = bytes "da=0 n=1 to=100 at=2000\n" ++ rt

abbrev quarter : List ℕ
quarter = bytes "s=900 en=50 ae=80 co=50 eop=- pen=5000 lim=0 uol=- r1=0 r2=0 r3=0 p1=0 p2=0 p3=0 reg=0 preg=0 breg=0 mv=0 pmv=0 bmv=0\n"

abbrev pub rest : List ℕ
rest = quarter ++ quarter ++ quarter ++ quarter

abbrev pub block : (rt : List ℕ) → List ℕ
block rt = first ++ curves rt ++ rest

abbrev quarter_read : Interval
quarter_read =
    record {
      s = seconds (pos 900);
      en = kw (pos 50);
      ae = kw (pos 80);
      co = kw (pos 50);
      eop = None;
      pen = price (pos 5000);
      lim = kw (pos 0);
      uol = None;
      r1 = kw (pos 0);
      r2 = kw (pos 0);
      r3 = kw (pos 0);
      p1 = price (pos 0);
      p2 = price (pos 0);
      p3 = price (pos 0);
      reg = kw (pos 0);
      preg = price (pos 0);
      breg = price (pos 0);
      mv = kw (pos 0);
      pmv = move_price (pos 0);
      bmv = move_price (pos 0);
    }

abbrev pub hour : (rt : Curve) → Hour
hour rt =
    record {
      hour = pos 0;
      ahead = schedules (pos 100) (pos 0) (pos 0);
      da = one_step (pos 0) (pos 100) (pos 2000);
      rt = rt;
      n = 4;
      iv = quarter_read ∷ quarter_read ∷ quarter_read ∷ quarter_read ∷ replicate 26 blank;
    }

-- ---- the curves: to 60 kW at one price; the same in two steps; longer by a step above `pen`, which leaves the point, and by one below, which
-- moves it; and none

abbrev pub plain : List ℕ
plain = bytes "rt=0 n=1 to=60 at=2000\n"

abbrev pub recut : List ℕ
recut = bytes "rt=0 n=2 to=20 at=2000 to=60 at=2000\n"

abbrev pub dearer : List ℕ
dearer = bytes "rt=0 n=2 to=60 at=2000 to=90 at=5001\n"

abbrev pub cheaper : List ℕ
cheaper = bytes "rt=0 n=2 to=60 at=2000 to=90 at=3000\n"

abbrev pub nothing : List ℕ
nothing = bytes "rt=0 n=0\n"

abbrev pub plain_read : Curve
plain_read = one_step (pos 0) (pos 60) (pos 2000)

abbrev pub recut_read : Curve
recut_read = two_steps (pos 20) (pos 2000) (pos 60) (pos 2000)

abbrev pub dearer_read : Curve
dearer_read = two_steps (pos 60) (pos 2000) (pos 90) (pos 5001)

abbrev pub cheaper_read : Curve
cheaper_read = two_steps (pos 60) (pos 2000) (pos 90) (pos 3000)

abbrev pub nothing_read : Curve
nothing_read = empty_curve
