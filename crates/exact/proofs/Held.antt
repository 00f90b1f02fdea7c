-- What an `i64`, and each of an array of them, is held as: the number that its bits say.
use mathlib.Core.Path.{◌≡◌, refl, ◌∙◌, fun_ext}
use mathlib.Core.List.{List, [], ◌∷◌}
use Prim.Native.Nat.{ℕ, zero, suc, ◌<◌, ◌^◌}
use native.Mathlib.Omega.{arith}
use lib.IntN.{ℤ, pos}
use lib.Signed.{mag}
use lib.ListN.{get_or}
use mir.Syntax.{w64}
use mir.Val.{Val}
use denote.Array.{each}
use denote.Shadow.{shadow}
use denote.Signed.{SInt}
use Rattle.exact.proofs.Bits.{held, handed}

pub held_is : (z w : ℤ) → mag z < 2 ^ 63 → z ≡ w → held z ≡ w
held_is z w f e = handed z f ∙ e

each_small : (xs : List ℤ) (us : List Val) (i : ℕ) → shadow (each ℤ (SInt w64).own_val xs us) → mag (get_or xs i (pos 0)) < 2 ^ 63
each_small [] us i s = omega arith
each_small (x ∷ xs) [] i s = absurd s
each_small (x ∷ xs) (u ∷ us) zero s = s.0.1
each_small (x ∷ xs) (u ∷ us) (suc i) s = each_small xs us i s.1

pub held_values : (xs : List ℤ) (us : List Val) → shadow (each ℤ (SInt w64).own_val xs us)
    → ◌≡◌ {A = ℕ → ℤ} (λ n. held (get_or xs n (pos 0))) (λ n. get_or xs n (pos 0))
held_values xs us s = fun_ext (λ n. held_is (get_or xs n (pos 0)) _ (each_small xs us n s) refl)
