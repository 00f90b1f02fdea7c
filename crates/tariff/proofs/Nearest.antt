-- The cents of a sum are the nearest to it, or to 0 where it is below 0; no others are, and none is nearer.
use mathlib.Core.Path.{◌≡◌}
use mathlib.Core.Logic.{◌↔◌}
use Prim.Native.Nat.{◌+◌, ◌*◌, ◌-◌, ◌<◌, ◌≤◌}
use native.Mathlib.Omega.{arith}
use native.Mathlib.Decide.{dec_lt}
use lib.IntN.{ℤ, pos}
use lib.Signed.{◌≤ℤ◌}
use Rattle.exact.specs.Whole.{over, under, max_z}
use Rattle.exact.proofs.Parts.{arithℤ, apart, max_parts, mul_parts, span_parts}
use Rattle.tariff.specs.Units.{cents_of}
use Rattle.tariff.specs.Nearest.{cents_in_grains, off_by, Nearest}

-- what a sum owes: itself, or nothing where it is below 0
module _ (sum : ℤ) where
  owed_over : over (max_z sum (pos 0)) ≡ over sum
  owed_over = omega (arithℤ, max_parts sum (pos 0), apart sum, apart (max_z sum (pos 0)))

  owed_under : under (max_z sum (pos 0)) ≡ 0
  owed_under = omega (arithℤ, max_parts sum (pos 0), apart sum, apart (max_z sum (pos 0)))

  pub owed_least : pos 0 ≤ℤ sum → max_z sum (pos 0) ≡ sum
  owed_least u = omega (arithℤ, max_parts sum (pos 0))

-- how far off, by the parts of both
off_parts :
    (sum cents : ℤ)
    → off_by sum cents
    ≡ ((3600000 * over cents + under sum) - (over sum + 3600000 * under cents))
    + ((over sum + 3600000 * under cents) - (3600000 * over cents + under sum))
unfolding off_by
off_parts sum cents =
    omega (
      arith,
      span_parts sum (cents_in_grains cents),
      span_parts (cents_in_grains cents) sum,
      mul_parts cents (pos 3600000),
    )

-- off by less than half a cent, or by exactly half a cent and not below
by_tie :
    {P : Type 0} (sum cents : ℤ)
    → Nearest sum cents
    → (off_by sum cents < 1800000 → P)
    → (off_by sum cents ≡ 1800000 → sum ≤ℤ cents_in_grains cents → P)
    → P
by_tie {P} sum cents w less half = go (dec_lt (off_by sum cents) 1800000)
  where
    go : Dec (off_by sum cents < 1800000) → P
    go (yes u) = less u
    go (no n) = let e : off_by sum cents ≡ 1800000 = omega (arith, w.near) in half e (w.tie e)

pub cents_are_the_nearest : (sum cents : ℤ) → (cents ≡ cents_of sum) ↔ Nearest (max_z sum (pos 0)) cents
unfolding cents_of
cents_are_the_nearest sum cents =
    let owed = max_z sum (pos 0) in
    let off = off_parts owed cents in
    let whole = mul_parts cents (pos 3600000) in (
      λ e. record {
        near = omega (arithℤ, off, owed_over sum, owed_under sum);
        tie = λ t. omega (arithℤ, off, whole, owed_over sum, owed_under sum);
      },
      λ w.
          by_tie owed cents w
          (λ u. omega (arithℤ, off, apart cents, owed_over sum, owed_under sum))
          (λ t u. omega (arithℤ, off, whole, apart cents, owed_over sum, owed_under sum)),
    )

pub none_is_nearer :
    (sum cents other : ℤ)
    → Nearest sum cents
    → (off_by sum cents ≤ off_by sum other) × (off_by sum other ≡ off_by sum cents → other ≤ℤ cents)
none_is_nearer sum cents other w =
    let off = off_parts sum cents in
    let else = off_parts sum other in (
      omega (arith, w.near, off, else),
      λ e.
          by_tie sum cents w
          (λ u. omega (arithℤ, off, else))
          (λ t u. omega (arithℤ, off, else, mul_parts cents (pos 3600000))),
    )
