-- Check 5, of either record: at most 30 intervals of at most 900 seconds are added up without loss.
use mathlib.Core.Path.{◌≡◌}
use Prim.Native.Nat.{ℕ, ◌<◌, ◌≤◌}
use native.Mathlib.Omega.{arith}
use lib.IntN.{ℤ}
use Rattle.exact.specs.Whole.{Within, sum_to}
use Rattle.exact.proofs.Range.{within_more}
use Rattle.exact.proofs.Sums.{sum_within}

pub one_more_fits : (f : ℕ → ℤ) (n i : ℕ) (sum : ℤ) → n ≤ 30 → ((k : ℕ) → k < n → Within 900 (f k)) → i < n → sum ≡ sum_to f i
    → Within 27000 sum × Within 900 (f i)
one_more_fits f n i sum few each u e =
    let so_far = sum_within 900 f i (λ k v. each k (omega arith)) in
    (rw e (within_more (omega arith) so_far), each i u)
