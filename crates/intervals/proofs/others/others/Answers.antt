-- `others::others` gives the interval's regulation and reserves, summed, less its movement; no sum on the way is too large.
use native.Mathlib.Omega.{arith}
use Rattle.exact.specs.Whole.{Within}
use Rattle.exact.proofs.Range.{within_lit, within_add}
use Rattle.tariff.specs.Derate.{reduced}
use Rattle.tariff.specs.Contributions.{other_than_energy}
use Rattle.tariff.proofs.Ranges.{AheadFits, ahead_fits, IntervalFits, interval_fits}
use Rattle.tariff.proofs.Others.{PartsFit, parts_fit}
use Rattle.intervals.proofs.Schedules.{schedules_within}
use Rattle.intervals.proofs.others.others.Goals as goal
use Rattle.intervals.proofs.others.others.Goals.{After-reserve_part-r3, Start}

-- ---- what the caller gives
ahead : (c : Start) → AheadFits c.args.a
ahead c = ahead_fits c.args.a c.requires.0

live : (c : Start) → IntervalFits c.args.v
live c = interval_fits c.args.v c.requires.1

parts : (c : Start) → PartsFit c.args.a c.args.v
parts c =
    parts_fit c.args.a c.args.v c.requires.0 c.requires.1
    (schedules_within (reduced c.args.a c.args.v) c.args.q c.requires.2 c.requires.3)

-- ---- the five parts
pub regulation_part-reg-requires : goal.regulation_part-reg-requires
regulation_part-reg-requires c =
    let s = (goal.at.regulation_part-reg-requires c).Start in
    let a = ahead s in
    let v = live s in
    (c.requires.3.close 1 (omega arith), v.reg, v.preg, a.breg, v.breg, v.s)

pub reserve_part-r1-requires : goal.reserve_part-r1-requires
reserve_part-r1-requires c =
    let s = (goal.at.reserve_part-r1-requires c).Start in
    let v = live s in
    (c.requires.3.close 2 (omega arith), v.r1, v.p1, (ahead s).b1, v.s)

pub reserve_part-r2-requires : goal.reserve_part-r2-requires
reserve_part-r2-requires c =
    let s = (goal.at.reserve_part-r2-requires c).Start in
    let v = live s in
    (c.requires.3.close 3 (omega arith), v.r2, v.p2, (ahead s).b2, v.s)

pub reserve_part-r3-requires : goal.reserve_part-r3-requires
reserve_part-r3-requires c =
    let s = (goal.at.reserve_part-r3-requires c).Start in
    let v = live s in
    (c.requires.3.close 4 (omega arith), v.r3, v.p3, (ahead s).b3, v.s)

pub movement_part-requires : goal.movement_part-requires
movement_part-requires c =
    let v = live (goal.at.movement_part-requires c).Start in
    (v.mv, v.pmv, v.bmv)

-- ---- their sums
-- the regulation and the reserves, one after the other
record Sold (c : After-reserve_part-r3) : Type 0 where
  reg : Within 7200000000000000 c.regulation_part-reg.result.0
  r1 : Within 7200000000000000 c.reserve_part-r1.result.0
  r2 : Within 7200000000000000 c.reserve_part-r2.result.0
  r3 : Within 7200000000000000 c.reserve_part-r3.result.0

sold : (c : After-reserve_part-r3) (p : PartsFit c.args.a c.args.v) → Sold c
sold c p =
    record {
      reg = rw (c.regulation_part-reg.ensures, c.requires.2) p.reg;
      r1 = rw (c.reserve_part-r1.ensures, c.requires.2) p.r1;
      r2 = rw (c.reserve_part-r2.ensures, c.requires.2) p.r2;
      r3 = rw (c.reserve_part-r3.ensures, c.requires.2) p.r3;
    }

pub grains_plus-requires : goal.grains_plus-requires
grains_plus-requires c =
    let s = sold (goal.at.grains_plus-requires c).After-reserve_part-r3 (parts (goal.at.grains_plus-requires c).Start) in
    (within_lit tt s.reg, within_lit tt s.r1)

pub grains_plus-requires-2 : goal.grains_plus-requires-2
grains_plus-requires-2 c =
    let s = sold (goal.at.grains_plus-requires-2 c).After-reserve_part-r3 (parts (goal.at.grains_plus-requires-2 c).Start) in
    (rw c.grains_plus.ensures (within_lit tt (within_add s.reg s.r1)), within_lit tt s.r2)

pub grains_plus-sold-requires : goal.grains_plus-sold-requires
grains_plus-sold-requires c =
    let s = sold (goal.at.grains_plus-sold-requires c).After-reserve_part-r3 (parts (goal.at.grains_plus-sold-requires c).Start) in
    (rw (c.grains_plus-2.ensures, c.grains_plus.ensures) (within_lit tt (within_add (within_add s.reg s.r1) s.r2)), within_lit tt s.r3)

pub grains_minus-requires : goal.grains_minus-requires
grains_minus-requires c =
    let p = parts (goal.at.grains_minus-requires c).Start in
    let s = sold (goal.at.grains_minus-requires c).After-reserve_part-r3 p in (
      rw (c.grains_plus-sold.ensures, c.grains_plus-2.ensures, c.grains_plus.ensures)
          (within_lit tt (within_add (within_add (within_add s.reg s.r1) s.r2) s.r3)),
      rw c.movement_part.ensures (within_lit tt p.mv),
    )

pub returns : goal.returns
unfolding other_than_energy
returns c =
    rw (
      c.grains_minus.ensures,
      c.movement_part.ensures,
      c.grains_plus-sold.ensures,
      c.grains_plus-2.ensures,
      c.grains_plus.ensures,
      c.reserve_part-r3.ensures,
      c.reserve_part-r2.ensures,
      c.reserve_part-r1.ensures,
      c.regulation_part-reg.ensures,
      c.requires.2,
    )
