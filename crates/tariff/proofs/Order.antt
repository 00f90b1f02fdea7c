-- The lesser and the greater of two quantities of one unit, as the library's `min` and `max` choose them by the derived order, are those of
-- their whole numbers.
use mathlib.Core.Path.{◌≡◌}
use mathlib.Core.Bool.{Bool, false, cond}
use lib.IntN.{ℤ}
use lib.Signed.{lt_z}
use Rattle.tariff.specs.declared.Kw.{Kw}
use Rattle.tariff.specs.declared.Price.{Price}
use Rattle.tariff.specs.declared.MovePrice.{MovePrice}
use Rattle.tariff.specs.declared.Grains.{Grains}
use Rattle.tariff.specs.contracts.KwOrd.TheImpl as kw_order
use Rattle.tariff.specs.contracts.PriceOrd.TheImpl as price_order
use Rattle.tariff.specs.contracts.MovePriceOrd.TheImpl as move_price_order
use Rattle.tariff.specs.contracts.GrainsOrd.TheImpl as grains_order
use Rattle.std.specs.Ordering.{is_lt, ord_min, ord_max}
use Rattle.std.proofs.Common.{Ordering, Less, Equal, Greater, int_cmp}
use Rattle.exact.specs.Whole.{min_z, max_z}
use Rattle.exact.proofs.Parts.{arithℤ, by_test, min_parts, max_parts}

module _ {X : Type 0} (number : X → ℤ) (a b : X) where
  abbrev by_number : X → X → Ordering
  by_number x y = int_cmp (number x) (number y)

  -- the order's answer, by the two tests of it
  abbrev order : Bool → Bool → Ordering
  order above below = cond above Less (cond below Greater Equal)

  pub lesser : number (ord_min by_number a b) ≡ min_z (number a) (number b)
  lesser =
      by_test (lt_z (number b) (number a))
      (λ t. number (cond (is_lt (order t (lt_z (number a) (number b)))) b a) ≡ min_z (number a) (number b))
      (λ e. omega (arithℤ, min_parts (number a) (number b)))
      (λ e. by_test (lt_z (number a) (number b)) (λ t. number (cond (is_lt (order false t)) b a) ≡ min_z (number a) (number b)) (λ f. omega (arithℤ, min_parts (number a) (number b))) (λ f. omega (arithℤ, min_parts (number a) (number b))))

  pub greater : number (ord_max by_number a b) ≡ max_z (number a) (number b)
  greater =
      by_test (lt_z (number b) (number a))
      (λ t. number (cond (is_lt (order t (lt_z (number a) (number b)))) a b) ≡ max_z (number a) (number b))
      (λ e. omega (arithℤ, max_parts (number a) (number b)))
      (λ e. by_test (lt_z (number a) (number b)) (λ t. number (cond (is_lt (order false t)) a b) ≡ max_z (number a) (number b)) (λ f. omega (arithℤ, max_parts (number a) (number b))) (λ f. omega (arithℤ, max_parts (number a) (number b))))

-- ---- of kilowatts

pub min_kw : (a b : Kw) → (ord_min kw_order.cmp-value.it a b).0 ≡ min_z a.0 b.0
min_kw = lesser (λ (k : Kw). k.0)

pub max_kw : (a b : Kw) → (ord_max kw_order.cmp-value.it a b).0 ≡ max_z a.0 b.0
max_kw = greater (λ (k : Kw). k.0)

-- ---- of prices

pub max_price : (a b : Price) → (ord_max price_order.cmp-value.it a b).0 ≡ max_z a.0 b.0
max_price = greater (λ (p : Price). p.0)

pub max_move_price : (a b : MovePrice) → (ord_max move_price_order.cmp-value.it a b).0 ≡ max_z a.0 b.0
max_move_price = greater (λ (p : MovePrice). p.0)

-- ---- of grains

pub min_grains : (a b : Grains) → (ord_min grains_order.cmp-value.it a b).0 ≡ min_z a.0 b.0
min_grains = lesser (λ (g : Grains). g.0)

pub max_grains : (a b : Grains) → (ord_max grains_order.cmp-value.it a b).0 ≡ max_z a.0 b.0
max_grains = greater (λ (g : Grains). g.0)
