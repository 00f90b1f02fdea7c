-- The hours that document 01's figures speak of, as records: what a figure does not name is 0, and an hour has four quarters.
use Rattle.std.specs.Prelude.{◌∷◌, false, replicate, ℤ, pos, neg_ℤ, None, Some}
use Rattle.tariff.specs.declared.Curve.{Curve}
use Rattle.tariff.specs.declared.DayAhead.{DayAhead}
use Rattle.tariff.specs.declared.Interval.{Interval}
use Rattle.tariff.specs.declared.Hour.{Hour}
use Rattle.tariff.specs.declared.MarkedDay.{MarkedDay}
use Rattle.tariff.specs.Units.{kw, price, move_price, seconds, MaybeKw}
use Rattle.tariff.specs.Hour.{blank}

-- ---- the parts of an hour

abbrev pub schedules : (en reg r1 : ℤ) → DayAhead
schedules en reg r1 =
    record {
      en = kw en;
      reg = kw reg;
      r1 = kw r1;
      r2 = kw (pos 0);
      r3 = kw (pos 0);
      breg = price (pos 0);
      b1 = price (pos 0);
      b2 = price (pos 0);
      b3 = price (pos 0);
    }

abbrev pub empty_curve : Curve
empty_curve = record { start = kw (pos 0); n = 0; to = replicate 12 (kw (pos 0)); at = replicate 12 (price (pos 0)) }

abbrev pub one_step : (start to at : ℤ) → Curve
one_step start to at =
    record { start = kw start; n = 1; to = kw to ∷ replicate 11 (kw (pos 0)); at = price at ∷ replicate 11 (price (pos 0)) }

abbrev pub two_steps : (to at to' at' : ℤ) → Curve
two_steps to at to' at' =
    record {
      start = kw (pos 0);
      n = 2;
      to = kw to ∷ kw to' ∷ replicate 10 (kw (pos 0));
      at = price at ∷ price at' ∷ replicate 10 (price (pos 0));
    }

abbrev pub quarter : (en ae co eop pen lim : ℤ) → MaybeKw → (r1 mv pmv bmv : ℤ) → Interval
quarter en ae co eop pen lim uol r1 mv pmv bmv =
    record {
      s = seconds (pos 900);
      en = kw en;
      ae = kw ae;
      co = kw co;
      eop = Some (kw eop);
      pen = price pen;
      lim = kw lim;
      uol = uol;
      r1 = kw r1;
      r2 = kw (pos 0);
      r3 = kw (pos 0);
      p1 = price (pos 0);
      p2 = price (pos 0);
      p3 = price (pos 0);
      reg = kw (pos 0);
      preg = price (pos 0);
      breg = price (pos 0);
      mv = kw mv;
      pmv = move_price pmv;
      bmv = move_price bmv;
    }

-- an interval of energy alone; and one without energy, whose output of 1 kW is above its limit
abbrev pub energy_quarter : (en ae co eop pen lim : ℤ) → Interval
energy_quarter en ae co eop pen lim = quarter en ae co eop pen lim None (pos 0) (pos 0) (pos 0) (pos 0)

abbrev pub idle_quarter : MaybeKw → (r1 mv pmv bmv : ℤ) → Interval
idle_quarter = quarter (pos 0) (pos 1) (pos 0) (pos 0) (pos 0) (pos 0)

abbrev pub hour_of : DayAhead → (da rt : Curve) → (i₁ i₂ i₃ i₄ : Interval) → Hour
hour_of ahead da rt i₁ i₂ i₃ i₄ =
    record { hour = pos 14; ahead = ahead; da = da; rt = rt; n = 4; iv = i₁ ∷ i₂ ∷ i₃ ∷ i₄ ∷ replicate 26 blank }

abbrev pub steady : DayAhead → (da rt : Curve) → Interval → Hour
steady ahead da rt v = hour_of ahead da rt v v v v

-- ---- the hours

-- P1 to P4, section "Programs"
abbrev pub worked : Hour
worked =
    hour_of
    (schedules (pos 100000) (pos 0) (pos 0))
    (two_steps (pos 60000) (pos 2000) (pos 100000) (pos 3500))
    (two_steps (pos 60000) (pos 2000) (pos 120000) (pos 4000))
    (energy_quarter (pos 80000) (pos 80000) (pos 0) (pos 90000) (pos 5000) (pos 70000))
    (energy_quarter (pos 50000) (pos 70000) (pos 3000) (pos 90000) (pos 5000) (pos 45000))
    (energy_quarter (pos 110000) (pos 110000) (pos 0) (pos 120000) (pos 5000) (pos 100000))
    (energy_quarter (pos 100000) (pos 95000) (pos 0) (pos 100000) (pos 5000) (pos 95000))

-- P5
abbrev pub withdrawing : Hour
withdrawing =
    steady
    (schedules (neg_ℤ (pos 50000)) (pos 0) (pos 0))
    (one_step (neg_ℤ (pos 50000)) (pos 0) (pos 1500))
    empty_curve
    (energy_quarter (neg_ℤ (pos 20000)) (neg_ℤ (pos 20000)) (pos 0) (neg_ℤ (pos 30000)) (pos 1000) (neg_ℤ (pos 50000)))

-- P7
abbrev pub moving : Hour
moving = steady (schedules (pos 0) (pos 0) (pos 0)) empty_curve empty_curve (idle_quarter None (pos 0) (pos 2000) (pos 30) (pos 10))

-- P9: the limit takes 10000 kW off; and it takes all off, with a kilowatt of reserve that real time has as well
abbrev pub derating : Hour
derating =
    steady
    (schedules (pos 20000) (pos 10000) (pos 0))
    empty_curve
    empty_curve
    (idle_quarter (Some (kw (pos 20000))) (pos 0) (pos 0) (pos 0) (pos 0))

abbrev pub over_derated : Hour
over_derated =
    steady
    (schedules (pos 20000) (pos 10000) (pos 1))
    empty_curve
    empty_curve
    (idle_quarter (Some (kw (pos 0))) (pos 1) (pos 0) (pos 0) (pos 0))

-- P10: a day of 24 hours, category (i) everywhere, and x4 at hour 5 alone
abbrev pub marked : MarkedDay
marked =
    record {
      hours = 24;
      marks = record { rtc = false; cat = replicate 24 1; x1 = 0; x2 = 0; x3 = 0; x4 = 32; x5 = 0; x6 = 0 };
    }

-- the run: the curve ends one kilowatt below the day-ahead schedule
abbrev pub short_curve : Hour
short_curve =
    steady
    (schedules (pos 100000) (pos 0) (pos 0))
    (one_step (pos 0) (pos 99999) (pos 3500))
    empty_curve
    (energy_quarter (pos 80000) (pos 80000) (pos 0) (pos 90000) (pos 5000) (pos 70000))
