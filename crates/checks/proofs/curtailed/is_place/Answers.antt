-- `is_place` meets its contract: an hour below 0 is no place, and another is the one that its count says.
use mathlib.Core.Path.{◌≡◌, refl}
use mathlib.Core.Bool.{true, false}
use Prim.Native.Nat.{ℕ, ◌<◌, ◌^◌}
use native.Mathlib.Omega.{arith}
use lib.Dec.{eqb, lit<}
use lib.IntN.{ℤ, pos, negsuc, nat_abs}
use lib.Signed.{lt_z, mag}
use Rattle.exact.specs.Whole.{eq_z}
use Rattle.exact.proofs.Parts.{lt_true, lt_false}
use Rattle.exact.proofs.Bits.{held, lt_is}
use Rattle.exact.proofs.Calls.{handed}
use Rattle.units.proofs.Signs.{stays}
use Rattle.checks.proofs.curtailed.is_place.Goals as goal
use Rattle.checks.proofs.curtailed.is_place.Goals.{Else-hour-lt0}

below_zero : (v : ℤ) (k : ℕ) → lt_z v (pos 0) ≡ true → false ≡ eq_z v (pos k)
below_zero (pos n) k e = absurd (let u = lt_true (pos n) (pos 0) e in omega arith)
below_zero (negsuc n) k e = refl

from_zero : (v : ℤ) (k : ℕ) → mag v < 2 ^ 63 → lt_z v (pos 0) ≡ false → eqb (nat_abs (held v)) k ≡ eq_z v (pos k)
from_zero (pos n) k f e = rw (handed (pos n) f)
from_zero (negsuc n) k f e = absurd (let u = lt_false (negsuc n) (pos 0) e in omega arith)

pub returns-then-hour-lt0 : goal.returns-then-hour-lt0
returns-then-hour-lt0 c =
    let v = c.args.hour in
    let f = c.ranges.hour.sfits in
    below_zero v c.args.k (lt_is v (pos 0) f (lit< tt) true c.if-hour-lt0.true)

not_below : (c : Else-hour-lt0) → lt_z c.args.hour (pos 0) ≡ false
not_below c = lt_is c.args.hour (pos 0) c.ranges.hour.sfits (lit< tt) false c.if-hour-lt0.false

pub overflow_cast-result : goal.overflow_cast-result
overflow_cast-result c = stays c.args.hour c.ranges.hour.sfits (not_below c)

pub returns : goal.returns
returns c = from_zero c.args.hour c.args.k c.ranges.hour.sfits (not_below c)
