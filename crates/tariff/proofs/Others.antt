-- How large the products other than energy can be: regulation, reserves, movement, and all of them together.
use mathlib.Core.Path.{◌≡◌}
use mathlib.Core.Bool.{true, and-eq-true_iff}
use Prim.Native.Nat.{ℕ, ◌<◌}
use native.Mathlib.Omega.{arith}
use lib.IntN.{ℤ, pos, ◌-ℤ◌}
use lib.Signed.{◌≤ℤ◌, le_z, lt_z}
use Rattle.exact.specs.Whole.{max_z, Within}
use Rattle.exact.proofs.Parts.{arithℤ, less_parts, max_parts, apart}
use Rattle.exact.proofs.Range.{within_lit, within_zero, within_add, within_less, within_mul, within_max}
use Rattle.tariff.specs.declared.DayAhead.{DayAhead}
use Rattle.tariff.specs.declared.Interval.{Interval}
use Rattle.tariff.specs.Units.{grains_of}
use Rattle.tariff.specs.Sheet.{ahead_in_range, interval_in_range}
use Rattle.tariff.specs.Derate.{reduced}
use Rattle.tariff.specs.Contributions.{reserve, regulation, movement, other_than_energy}
use Rattle.tariff.proofs.Limits.{within_if}
use Rattle.tariff.proofs.Ranges.{ahead_fits, interval_fits}

-- kilowatts of a schedule less another, at a price less a bid, for an interval's seconds
gap_grains : {d r p s : ℤ} → Within 2000000 d → Within 2000000 r → Within 2000000 p → Within 900 s → Within 7200000000000000 (grains_of (d -ℤ r) p s)
gap_grains d r p s = within_mul (within_mul (within_less d r) p) s

module _ {d r p b s : ℤ} (wd : Within 2000000 d) (wr : Within 2000000 r) (wp : Within 1000000 p) (wb : Within 1000000 b) (ws : Within 900 s) where
  reserve_within : Within 7200000000000000 (reserve d r p b s)
  unfolding reserve
  reserve_within = within_if (lt_z r d) (gap_grains wd wr (within_less wp wb) ws) (gap_grains wd wr (within_lit tt wp) ws)

  regulation_within : {live : ℤ} → Within 1000000 live → Within 7200000000000000 (regulation d r p b live s)
  unfolding regulation
  regulation_within wl =
      within_if (lt_z r d)
      (gap_grains wd wr (within_less wp wb) ws)
      (gap_grains wd wr (within_max (within_less wp wl) (within_zero 2000000)) ws)

-- a price less a bid that is not negative, or 0
gain_within : {p b : ℤ} → Within 1000000 p → pos 0 ≤ℤ b → Within 1000000 (max_z (p -ℤ b) (pos 0))
gain_within {p} {b} w h = omega (arithℤ, less_parts p b, max_parts (p -ℤ b) (pos 0), apart (max_z (p -ℤ b) (pos 0)))

movement_within : {mv pmv bmv : ℤ} → Within 2000000 mv → Within 1000000 pmv → pos 0 ≤ℤ bmv → Within 7200000000000000 (movement mv pmv bmv)
unfolding movement
movement_within m p b = within_mul {B = 3600} (within_mul m (gain_within p b)) (omega arith)

-- ---- an interval

pub record PartsFit (a : DayAhead) (v : Interval) : Type 0 where
  pub reg : Within 7200000000000000 (regulation (reduced a v 1) v.reg.0 v.preg.0 a.breg.0 v.breg.0 v.s.0)
  pub r1 : Within 7200000000000000 (reserve (reduced a v 2) v.r1.0 v.p1.0 a.b1.0 v.s.0)
  pub r2 : Within 7200000000000000 (reserve (reduced a v 3) v.r2.0 v.p2.0 a.b2.0 v.s.0)
  pub r3 : Within 7200000000000000 (reserve (reduced a v 4) v.r3.0 v.p3.0 a.b3.0 v.s.0)
  pub mv : Within 7200000000000000 (movement v.mv.0 v.pmv.0 v.bmv.0)

move_bid : (v : Interval) → interval_in_range v ≡ true → pos 0 ≤ℤ v.bmv.0
unfolding interval_in_range
move_bid v e =
    let h = simp and-eq-true_iff at e in
    let t : le_z (pos 0) v.bmv.0 ≡ true = search h in
    omega arithℤ

module _ (a : DayAhead) (v : Interval) (ea : ahead_in_range a ≡ true) (ev : interval_in_range v ≡ true) (close : (j : ℕ) → j < 5 → Within 2000000 (reduced a v j)) where
  pub parts_fit : PartsFit a v
  parts_fit =
      let f = ahead_fits a ea in
      let g = interval_fits v ev in
      record {
        reg = regulation_within (close 1 (omega arith)) g.reg g.preg f.breg g.s g.breg;
        r1 = reserve_within (close 2 (omega arith)) g.r1 g.p1 f.b1 g.s;
        r2 = reserve_within (close 3 (omega arith)) g.r2 g.p2 f.b2 g.s;
        r3 = reserve_within (close 4 (omega arith)) g.r3 g.p3 f.b3 g.s;
        mv = movement_within g.mv g.pmv (move_bid v ev);
      }

  pub others_within : Within 40000000000000000 (other_than_energy a v)
  unfolding other_than_energy
  others_within =
      let p = parts_fit in
      within_lit tt (within_less (within_add (within_add (within_add p.reg p.r1) p.r2) p.r3) p.mv)
