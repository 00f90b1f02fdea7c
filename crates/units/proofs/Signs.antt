-- A number that is not below zero, as bits without a sign: it fits, and is its own magnitude.
use mathlib.Core.Path.{◌≡◌, refl}
use mathlib.Core.Bool.{false}
use Prim.Native.Nat.{◌^◌, ◌<◌}
use native.Mathlib.Omega.{arith}
use lib.Dec.{T}
use lib.IntN.{ℤ, pos, negsuc, nat_abs}
use lib.Signed.{lt_z, mag, non_neg}
use mir.Syntax.{w64}
use mir.Val.{Fits}
use Rattle.exact.specs.Whole.{over}
use Rattle.exact.proofs.Parts.{lt_false}
use Rattle.exact.proofs.Bits.{held}
use Rattle.exact.proofs.Calls.{handed}

pub natural : (z : ℤ) → mag z < 2 ^ 63 → lt_z z (pos 0) ≡ false → T (non_neg z) × Fits w64 (nat_abs z) × (nat_abs z ≡ over z)
natural (pos n) f h = (tt, record { fits = omega arith }, refl)
natural (negsuc n) f h = absurd (let u = lt_false (negsuc n) (pos 0) h in omega arith)

pub stays : (v : ℤ) → mag v < 2 ^ 63 → lt_z v (pos 0) ≡ false → T (non_neg (held v)) × Fits w64 (nat_abs (held v))
stays v f h = rw (handed v f) (let n = natural v f h in (n.0, n.1))
