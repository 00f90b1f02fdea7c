-- `Interval::of` meets its contract: each value of the array is the number that its bits say.
use Rattle.tariff.specs.Units.{MaybeKw}
use mathlib.Core.Path.{ap, ◌∙◌}
use Prim.Native.Nat.{ℕ}
use lib.IntN.{ℤ, pos}
use lib.ListN.{get_or}
use Rattle.tariff.specs.declared.Interval.{Interval}
use Rattle.records.specs.Records.{interval_of}
use Rattle.exact.proofs.Bits.{held}
use Rattle.exact.proofs.Held.{held_values}
use Rattle.records.proofs.intervals.IntervalIntervalLine.of.Goals as goal

-- the two numbers of an interval that may be missing stand beside the others
abbrev given : (ℕ → ℤ) → (eop uol : MaybeKw) → Interval
given v eop uol =
    let own = interval_of v in
    record {
      s = own.s;
      en = own.en;
      ae = own.ae;
      co = own.co;
      eop = eop;
      pen = own.pen;
      lim = own.lim;
      uol = uol;
      r1 = own.r1;
      r2 = own.r2;
      r3 = own.r3;
      p1 = own.p1;
      p2 = own.p2;
      p3 = own.p3;
      reg = own.reg;
      preg = own.preg;
      breg = own.breg;
      mv = own.mv;
      pmv = own.pmv;
      bmv = own.bmv;
    }

pub returns : goal.returns
returns c =
    let v = c.args.values in
    (λ i. given (λ n. held (get_or v n (pos 0))) (c.maybe_of.ensures i) (c.maybe_of-2.ensures i))
    ∙ ap interval_of (held_values v c.well_formed.0.0 c.well_formed.0.1.1)
