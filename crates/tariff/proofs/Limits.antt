-- The limit of an energy branch and the capped output keep within the range of the numbers that they are made of.
use mathlib.Core.Bool.{Bool, true, false, ◌&&◌}
use Prim.Native.Nat.{ℕ}
use lib.IntN.{ℤ, pos, ◌+ℤ◌}
use lib.Signed.{lt_z, le_z}
use Rattle.std.specs.Prelude.{if◌then◌else◌}
use Rattle.exact.specs.Whole.{min_z, Within}
use Rattle.exact.proofs.Parts.{by_test, arithℤ, add_parts, min_parts, apart}
use Rattle.exact.proofs.Range.{within_zero, within_min, within_max}
use Rattle.tariff.specs.Contributions.{capped, is_lower, lower_limit, is_inject, is_withdraw, upper_limit, limit_of}

pub within_if : {N : ℕ} {x y : ℤ} (t : Bool) → Within N x → Within N y → Within N (if t then x else y)
within_if true v w = v
within_if false v w = w

module _ (N : ℕ) {D R E A : ℤ} (d : Within N D) (r : Within N R) (e : Within N E) (a : Within N A) where
  lower_within : Within N (lower_limit D R E A)
  unfolding lower_limit
  lower_within =
      within_if (lt_z (pos 0) D)
      (within_if (lt_z R E)
      (within_max (within_min (within_max r (within_min a e)) d) (within_zero N))
      (within_max (within_min (within_min r (within_max a e)) d) (within_zero N)))
      (within_min (within_min (within_max (within_max d a) e) r) (within_zero N))

  upper_within : Within N (upper_limit D R E A)
  unfolding upper_limit
  upper_within =
      within_if (is_inject D R)
      (within_if (le_z E R && le_z D E) (within_min r (within_max a e)) (within_max r (within_min a e)))
      (within_if (is_withdraw D R) (within_min r (within_max a e)) (within_zero N))

  pub limit_within : Within N (limit_of D R E A)
  limit_within = within_if (is_lower D R) lower_within upper_within

-- an R above 0 with `co` is not below the least of the range, so neither is the lesser of it and A
pub capped_within : {R A co : ℤ} → Within 2000000 R → Within 2000000 A → Within 2000000 co → Within 2000000 (capped R A co)
capped_within {R} {A} {co} r a c =
    by_test (lt_z (pos 0) R)
    (λ t. Within 2000000 (if t then min_z A (R +ℤ co) else A))
    (λ h. omega (arithℤ, min_parts A (R +ℤ co), apart (min_z A (R +ℤ co)), add_parts R co))
    (λ h. a)
