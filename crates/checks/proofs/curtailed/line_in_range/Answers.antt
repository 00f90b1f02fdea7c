-- `line_in_range` joins the tests of an interval line.
use mathlib.Core.Path.{◌≡◌, ◌∙◌, ap}
use mathlib.Core.Bool.{Bool, ◌&&◌}
use Prim.Native.Nat.{◌<◌, ◌^◌}
use native.Mathlib.Omega.{arith}
use lib.IntN.{ℤ}
use lib.Signed.{mag}
use Rattle.exact.proofs.Bits.{held}
use Rattle.exact.proofs.Calls.{handed}
use Rattle.tariff.specs.Import.{curtailed_in_range}
use Rattle.tariff.specs.Sheet.{is_mark}
use Rattle.checks.proofs.curtailed.line_in_range.Goals as goal

-- the mark is handed over by its bits
mark-told : (m : ℤ) {r : Bool} → mag m < 2 ^ 63 → r ≡ is_mark (held m) → r ≡ is_mark m
mark-told m f e = e ∙ ap is_mark (handed m f)

pub returns : goal.returns
unfolding curtailed_in_range
returns c =
    let mark : c.is_mark.result ≡ is_mark c.args.v.cut = mark-told c.args.v.cut (omega arith) c.is_mark.ensures in
    λ i.
    c.is_seconds.ensures i && mark i
    && (c.is_capacity.ensures i && c.is_capacity-2.ensures i)
    && (c.is_price.ensures i && c.is_price-2.ensures i && c.is_price-3.ensures i)
