use mathlib.Core.Path.{◌≡◌, refl, sym}
use Prim.Native.Nat.{ℕ, ◌*◌, ◌<◌, ◌≤◌}
use native.Mathlib.Omega.{arith}
use lib.IntN.{ℤ}
use Rattle.exact.specs.Whole.{Within}
use Rattle.exact.proofs.Bits.{held}
use Rattle.exact.proofs.Calls.{handed}
use Rattle.exact.proofs.Range.{within_more, within_lit}
use Rattle.exact.proofs.Sums.{sum_none, sum_more, sum_within}
use Rattle.tariff.specs.declared.ImportHour.{ImportHour}
use Rattle.tariff.specs.Reply.{clear}
use Rattle.tariff.specs.Import.{curtailed, import_form, import_range, import_grains, import_sum}
use Rattle.tariff.proofs.ImportRanges.{FirstFits, CurtailedFits, import_form_says, import_range_says}
use Rattle.tariff.proofs.ImportGrains.{grains_within}
use Rattle.intervals.proofs.curtailed.curtailed_sum.Goals as goal

-- ---- what the caller gives
few : (h : ImportHour) → import_form h ≡ clear → h.n ≤ 30
few h e = import_form_says h e

module _ (h : ImportHour) (p : (import_form h ≡ clear) × (hours : ℕ) × (import_range hours h ≡ clear)) where
  says : FirstFits p.1 h × ((i : ℕ) → i < h.n → CurtailedFits (curtailed h i))
  says = import_range_says p.1 h p.2

  each : (cts : ℤ) (j : ℕ) → j < h.n → Within 3600000000000000 (import_grains (held cts) h (curtailed h j))
  each cts j u = grains_within (held cts) p.1 h (curtailed h j) says.0 (says.1 j u)

-- ---- the loop
pub loop-i-init : goal.loop-i-init
loop-i-init c = (omega arith, λ hour. sym (sum_none _))

pub offset_bounds-iv-i : goal.offset_bounds-iv-i
offset_bounds-iv-i c = let u = few c.args.h c.requires.0 in omega arith

pub bounds-iv-i : goal.bounds-iv-i
bounds-iv-i c = let u = few c.args.h c.requires.0 in omega arith

pub curtailed_part-part-requires : goal.curtailed_part-part-requires
curtailed_part-part-requires c =
    let p = says c.args.h c.requires in
    let v = p.1 c.loop-i.i c.loop-i-test.true in
    (p.0.den, p.0.dec, v.rten, v.lbmp, v.s)

pub grains_plus-sum-requires : goal.grains_plus-sum-requires
grains_plus-sum-requires c =
    let L = c.loop-i in
    let u = few c.args.h c.requires.0 in
    let fits : 3600000000000000 * L.i ≤ 4000000000000000000 = omega arith in (
      rw (L.invariant.1 c.args.h.hour) (within_more fits (sum_within 3600000000000000 _ L.i (λ j v. each c.args.h c.requires c.args.cts j (omega arith)))),
      rw (c.curtailed_part-part.ensures c.args.h refl refl) (within_lit tt (each c.args.h c.requires c.args.cts L.i c.loop-i-test.true)),
    )

pub overflow_add-i : goal.overflow_add-i
overflow_add-i c = let u = few c.args.h c.requires.0 in omega arith

pub loop-i-preserved : goal.loop-i-preserved
loop-i-preserved c =
    let h = c.args.h in
    let L = c.loop-i in (
      omega arith,
      λ hour.
          rw (
            c.grains_plus-sum.ensures,
            L.invariant.1 hour,
            sum_more,
            c.curtailed_part-part.ensures (record { hour = hour; den = h.den; dec = h.dec; n = h.n; iv = h.iv }) refl refl,
          ),
    )

pub returns : goal.returns
unfolding import_sum
returns c =
    let L = c.loop-i in
    let end : L.i ≡ c.args.h.n = omega arith in
    rw (L.invariant.1 c.args.h.hour, end, handed c.args.cts c.ranges.cts.sfits)
