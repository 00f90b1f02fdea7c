-- A small block of an internal controllable line, as bytes and as its record, and a day of 23 hours with this block alone: each of its four
-- intervals must price kilowatt 2 alone. Its day-ahead curve is left open: Small.antt has three for it.
use Rattle.std.specs.Prelude.{List, ◌∷◌, ◌++◌, ℕ, pos, replicate}
use Rattle.tariff.specs.declared.Curve.{Curve}
use Rattle.tariff.specs.declared.IclInterval.{IclInterval}
use Rattle.tariff.specs.declared.IclHour.{IclHour}
use Rattle.tariff.specs.Units.{kw, price, seconds}
use Rattle.tariff.specs.Controllable.{blank_icl}
use Rattle.figures.specs.Sample.{empty_curve}
use Rattle.text.specs.Text.{bytes}
use Rattle.demands.specs.Small.{curves}

abbrev pub line_first : List ℕ
line_first = bytes "hour=0 dasi=3 dasw=3\n"

abbrev quarter : List ℕ
quarter = bytes "s=900 en=2 aei=2 aew=3 pin=5000 pout=0\n"

abbrev pub line_rest : List ℕ
line_rest = quarter ++ quarter ++ quarter ++ quarter

abbrev pub line_block : (da : List ℕ) → List ℕ
line_block da = line_first ++ curves da ++ line_rest

abbrev quarter_read : IclInterval
quarter_read =
    record { s = seconds (pos 900); en = kw (pos 2); aei = kw (pos 2); aew = kw (pos 3); pin = price (pos 5000); pout = price (pos 0) }

abbrev pub line_hour : Curve → IclHour
line_hour da =
    record {
      hour = pos 0;
      dasi = kw (pos 3);
      dasw = kw (pos 3);
      da = da;
      rt = empty_curve;
      n = 4;
      iv = quarter_read ∷ quarter_read ∷ quarter_read ∷ quarter_read ∷ replicate 26 blank_icl;
    }

abbrev pub line_header : List ℕ
line_header = bytes "line=7\nhours=23\nmark=12000000000000000000000\n\n"

abbrev pub line_day : (da : List ℕ) → List ℕ
line_day da = line_header ++ line_block da
