-- The curve by kilowatt: kilowatt k is the stretch from k to k + 1, and has a price or none.
use Rattle.std.specs.Prelude.{if◌then◌else◌, ℕ, zero, suc, ◌+◌, ℤ, pos, neg_ℤ, ◌+ℤ◌}
use Rattle.std.specs.Int.Signed.{lt_z, le_z}
use Rattle.exact.specs.Whole.{span}
use Rattle.tariff.specs.declared.Curve.{Curve}
use Rattle.tariff.specs.Sheet.{end_of, price_of}

-- an amount, or none where a price is missing
pub data Amount : Type 0 where
  known : ℤ → Amount
  none : Amount

-- what the `left` steps from step j on say of kilowatt k: the price of the first that ends above it
unfoldable pub quote_from : (ends prices : ℕ → ℤ) → (j left : ℕ) → ℤ → Amount
quote_from ends prices j zero k = none
quote_from ends prices j (suc left) k = if lt_z k (ends j) then known (prices j) else quote_from ends prices (j + 1) left k

-- the price of kilowatt k: none below the curve's start, and none from its last end on
unfoldable pub quote : Curve → ℤ → Amount
quote c k = if lt_z k c.start.0 then none else quote_from (end_of c) (price_of c) 0 c.n k

abbrev pub plus : Amount → Amount → Amount
plus (known x) (known y) = known (x +ℤ y)
plus (known x) none = none
plus none (known y) = none
plus none none = none

abbrev pub change : (ℤ → ℤ) → Amount → Amount
change f (known x) = known (f x)
change f none = none

-- the sum of the prices of m kilowatts, from kilowatt a upward
unfoldable pub sum_up : (ℤ → Amount) → ℤ → ℕ → Amount
sum_up price a zero = known (pos 0)
sum_up price a (suc m) = plus (sum_up price a m) (price (a +ℤ pos m))

-- the integral from a to b: upward the sum of the prices, downward the negative of the upward one
unfoldable pub integral : Curve → ℤ → ℤ → Amount
integral c a b = if le_z a b then sum_up (quote c) a (span a b) else change neg_ℤ (sum_up (quote c) b (span b a))
