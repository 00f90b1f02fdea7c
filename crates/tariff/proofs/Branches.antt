-- The branch that an interval of any kind takes, with the functions that make grains of its curve's cost: what it comes to reads the prices
-- between D and its limit alone, and is none exactly when one of them is missing.
use mathlib.Core.Path.{◌≡◌}
use mathlib.Core.Bool.{Bool, true, false}
use lib.IntN.{ℤ}
use Rattle.tariff.specs.declared.Curve.{Curve}
use Rattle.tariff.specs.Curve.{known, none, quote, integral}
use Rattle.tariff.specs.Contributions.{curve_in, energy_by}
use Rattle.tariff.specs.Demand.{Between, SamePrices, Extends}
use Rattle.tariff.proofs.Curves.{Unquoted, change_none, between_flip, unquoted_flip, integral_same, unquoted_none, none_unquoted}

module _ (D limit : ℤ) (below above : ℤ → ℤ) (da rt : Curve) where
  pub energy_same : (lower : Bool) (da' rt' : Curve) → ((k : ℤ) → Between D limit k → quote (curve_in lower da rt) k ≡ quote (curve_in lower da' rt') k)
      → energy_by lower da rt D limit below above ≡ energy_by lower da' rt' D limit below above
  unfolding energy_by
  energy_same true da' rt' h = rw (integral_same da da' limit D (λ k w. h k (between_flip limit D k w)))
  energy_same false da' rt' h = rw (integral_same rt rt' D limit h)

  pub energy_none : (lower : Bool) → Unquoted (curve_in lower da rt) D limit → energy_by lower da rt D limit below above ≡ none
  unfolding energy_by
  energy_none true m = rw (unquoted_none da limit D (unquoted_flip da D limit m))
  energy_none false m = rw (unquoted_none rt D limit m)

  pub none_energy : (lower : Bool) → energy_by lower da rt D limit below above ≡ none → Unquoted (curve_in lower da rt) D limit
  unfolding energy_by
  none_energy true e = unquoted_flip da limit D (none_unquoted da limit D (change_none below (integral da limit D) e))
  none_energy false e = none_unquoted rt D limit (change_none above (integral rt D limit) e)

-- curves with the same prices have the same on the one that is taken
pub branch_same : {da rt da' rt' : Curve} → SamePrices da da' → SamePrices rt rt' → (lower : Bool) (k : ℤ)
    → quote (curve_in lower da rt) k ≡ quote (curve_in lower da' rt') k
branch_same d r true k = d.each k
branch_same d r false k = r.each k

-- curves with every price that others have keep the price of the one that is taken
pub branch_extended : {da rt da' rt' : Curve} → Extends da da' → Extends rt rt' → (lower : Bool) (k p : ℤ)
    → quote (curve_in lower da rt) k ≡ known p → quote (curve_in lower da' rt') k ≡ known p
branch_extended d r true k p q = d.keeps k p q
branch_extended d r false k p q = r.keeps k p q
