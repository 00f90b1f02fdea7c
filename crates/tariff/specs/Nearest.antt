-- What "the nearest cent, a half going up" means, apart from how it is worked out: by how far off a payment is from its sum.
use Rattle.std.specs.Prelude.{◌≡◌, refl, ℕ, ◌+◌, ◌≤◌, ℤ, pos, ◌*ℤ◌, ◌≤ℤ◌}
use Rattle.exact.specs.Whole.{span}

-- the grains that so many cents are
abbrev pub cents_in_grains : ℤ → ℤ
cents_in_grains cents = cents *ℤ pos 3600000

-- by how many grains so many cents are off from a sum: above it or below it
unfoldable pub off_by : (sum cents : ℤ) → ℕ
off_by sum cents = span sum (cents_in_grains cents) + span (cents_in_grains cents) sum

-- the nearest cents to a sum: off from it by half a cent at most, and if by exactly half a cent, not below it
pub record Nearest (sum cents : ℤ) : Type 0 where
  pub near : off_by sum cents ≤ 1800000
  pub tie : off_by sum cents ≡ 1800000 → sum ≤ℤ cents_in_grains cents

-- ---- half a cent is as far from 0 as from 1

pub half_from_none : off_by (pos 1800000) (pos 0) ≡ 1800000
unfolding off_by span
half_from_none = refl

pub half_from_one : off_by (pos 1800000) (pos 1) ≡ 1800000
unfolding off_by span
half_from_one = refl
