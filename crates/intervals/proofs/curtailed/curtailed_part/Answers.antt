-- `curtailed::curtailed_part` gives what a counting interval gives, and its product fits.
use mathlib.Core.Path.{◌≡◌, ◌∙◌, ap, sym}
use mathlib.Core.Bool.{true}
use lib.IntN.{ℤ, pos, ◌-ℤ◌, ◌*ℤ◌, *ℤ_comm}
use Rattle.exact.specs.Whole.{max_z}
use Rattle.exact.proofs.Calls.{handed}
use Rattle.exact.proofs.Range.{within_less, within_max, within_zero}
use Rattle.tariff.specs.declared.Curtailed.{Curtailed}
use Rattle.tariff.specs.declared.ImportHour.{ImportHour}
use Rattle.tariff.specs.Units.{grains_of}
use Rattle.tariff.specs.Import.{counts, import_grains}
use Rattle.intervals.proofs.curtailed.curtailed_part.Goals as goal

-- the grains of an interval that counts, its kilowatts first
counting : (cts : ℤ) (h : ImportHour) (v : Curtailed) → counts cts h v ≡ true
    → grains_of (h.den.0 -ℤ v.rten.0) (v.lbmp.0 -ℤ max_z h.dec.0 (pos 0)) v.s.0 ≡ import_grains cts h v
unfolding import_grains
counting cts h v e =
    let gap = h.den.0 -ℤ v.rten.0 in
    let gain = v.lbmp.0 -ℤ max_z h.dec.0 (pos 0) in
    rw e (ap (λ (z : ℤ). z *ℤ v.s.0) (*ℤ_comm gap gain))

pub returns-then-not-is_counted : goal.returns-then-not-is_counted
unfolding import_grains
returns-then-not-is_counted c h den dec =
    let counted = c.is_counted.ensures h den ∙ ap (λ (cts : ℤ). counts cts h c.args.v) (handed c.args.cts c.ranges.cts.sfits) in
    rw (sym counted ∙ c.if-not-is_counted.true)

pub kw_minus-gap-requires : goal.kw_minus-gap-requires
kw_minus-gap-requires c = let p = c.requires in (p.0, p.2)

pub price_minus-gain-requires : goal.price_minus-gain-requires
price_minus-gain-requires c =
    let p = c.requires in
    (p.3, rw c.price_or_zero.ensures (within_max p.1 (within_zero 1000000)))

pub product-requires : goal.product-requires
product-requires c =
    let p = c.requires in (
      rw c.kw_minus-gap.ensures (within_less p.0 p.2),
      rw (c.price_minus-gain.ensures, c.price_or_zero.ensures) (within_less p.3 (within_max p.1 (within_zero 1000000))),
      p.4,
    )

pub returns : goal.returns
returns c h den dec =
    let counted = c.is_counted.ensures h den ∙ ap (λ (cts : ℤ). counts cts h c.args.v) (handed c.args.cts c.ranges.cts.sfits) in
    rw (
      ← counting c.args.cts h c.args.v (sym counted ∙ c.if-not-is_counted.false),
      den,
      dec,
      c.product.ensures,
      c.price_minus-gain.ensures,
      c.price_or_zero.ensures,
      c.kw_minus-gap.ensures,
    )
