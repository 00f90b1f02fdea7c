-- What the numbers of a line say: the first is number 0.
use Rattle.std.specs.Prelude.{if◌then◌else◌, ℕ, ℤ, None, Some}
use Rattle.exact.specs.Whole.{eq_z}
use Rattle.tariff.specs.declared.DayAhead.{DayAhead}
use Rattle.tariff.specs.declared.Interval.{Interval}
use Rattle.tariff.specs.declared.Curtailed.{Curtailed}
use Rattle.tariff.specs.declared.IclInterval.{IclInterval}
use Rattle.tariff.specs.Units.{kw, price, move_price, seconds, MaybeKw}
use Rattle.text.specs.Number.{missing}

-- line 1 of an hour block, whose first number is the hour
abbrev pub ahead_of : (ℕ → ℤ) → DayAhead
ahead_of v =
    record {
      en = kw (v 1);
      reg = kw (v 2);
      r1 = kw (v 3);
      r2 = kw (v 4);
      r3 = kw (v 5);
      breg = price (v 6);
      b1 = price (v 7);
      b2 = price (v 8);
      b3 = price (v 9);
    }

-- an interval line, of which `uol` and `eop` may be missing
abbrev pub maybe_of : ℤ → MaybeKw
maybe_of v = if eq_z v missing then None else Some (kw v)

abbrev pub interval_of : (ℕ → ℤ) → Interval
interval_of v =
    record {
      s = seconds (v 0);
      en = kw (v 1);
      ae = kw (v 2);
      co = kw (v 3);
      eop = maybe_of (v 4);
      pen = price (v 5);
      lim = kw (v 6);
      uol = maybe_of (v 7);
      r1 = kw (v 8);
      r2 = kw (v 9);
      r3 = kw (v 10);
      p1 = price (v 11);
      p2 = price (v 12);
      p3 = price (v 13);
      reg = kw (v 14);
      preg = price (v 15);
      breg = price (v 16);
      mv = kw (v 17);
      pmv = move_price (v 18);
      bmv = move_price (v 19);
    }

-- an interval line of an import's block
abbrev pub curtailed_of : (ℕ → ℤ) → Curtailed
curtailed_of v =
    record {
      s = seconds (v 0);
      cut = v 1;
      prof = kw (v 2);
      rten = kw (v 3);
      lbmp = price (v 4);
      bid = price (v 5);
      def = price (v 6);
    }

-- an interval line of an internal controllable line's block
abbrev pub icl_interval_of : (ℕ → ℤ) → IclInterval
icl_interval_of v = record { s = seconds (v 0); en = kw (v 1); aei = kw (v 2); aew = kw (v 3); pin = price (v 4); pout = price (v 5) }
