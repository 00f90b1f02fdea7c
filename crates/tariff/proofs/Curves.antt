-- Laws of a curve by kilowatt: an integral reads the prices between its ends, has an amount when all are there, and turns its sign with its way.
use mathlib.Core.Path.{◌≡◌, refl, sym, ◌∙◌, ap}
use mathlib.Core.Bool.{true}
use Prim.Native.Nat.{ℕ, zero, suc, ◌<◌}
use native.Mathlib.Decide.{dec_lt}
use native.Mathlib.Omega.{arith}
use lib.IntN.{ℤ, pos, neg_ℤ, ◌+ℤ◌, neg_ℤ-neg_ℤ}
use lib.Signed.{le_z}
use Rattle.std.specs.Prelude.{if◌then◌else◌}
use Rattle.exact.specs.Whole.{span}
use Rattle.exact.proofs.Apart.{impossible}
use Rattle.exact.proofs.Parts.{arithℤ, add_parts, min_parts, max_parts, span_parts, by_test}
use Rattle.tariff.specs.declared.Curve.{Curve}
use Rattle.tariff.specs.Curve.{Amount, known, none, quote, plus, change, sum_up, integral}
use Rattle.tariff.specs.Demand.{Between}

-- ---- an amount

pub plus_none : (x : Amount) → plus x none ≡ none
plus_none (known x) = refl
plus_none none = refl

pub none_plus : (x : Amount) → plus none x ≡ none
none_plus (known x) = refl
none_plus none = refl

pub change_none : (f : ℤ → ℤ) (x : Amount) → change f x ≡ none → x ≡ none
change_none f (known x) e = impossible cc
change_none f none e = refl

neg_neg : (x : Amount) → change neg_ℤ (change neg_ℤ x) ≡ x
neg_neg (known x) = ap known (neg_ℤ-neg_ℤ x)
neg_neg none = refl

-- ---- the sum of m kilowatts from a

pub sum_nothing : (f : ℤ → Amount) (a : ℤ) (m : ℕ) → m ≡ 0 → sum_up f a m ≡ known (pos 0)
unfolding sum_up
sum_nothing f a m e = rw e

pub sum_up_same : (f g : ℤ → Amount) (a : ℤ) (m : ℕ) → ((i : ℕ) → i < m → f (a +ℤ pos i) ≡ g (a +ℤ pos i)) → sum_up f a m ≡ sum_up g a m
unfolding sum_up
sum_up_same f g a zero h = refl
sum_up_same f g a (suc m) h = rw (sum_up_same f g a m (λ i u. h i (omega arith)), h m (omega arith))

-- a kilowatt without a price, i from a
pub record Gap (f : ℤ → Amount) (a : ℤ) (m : ℕ) : Type 0 where
  pub at : ℕ
  pub below : at < m
  pub missing : f (a +ℤ pos at) ≡ none

pub sum_up_none : (f : ℤ → Amount) (a : ℤ) (m : ℕ) → Gap f a m → sum_up f a m ≡ none
unfolding sum_up
sum_up_none f a zero gap = absurd (let u = gap.below in omega arith)
sum_up_none f a (suc m) gap = go (sum_up_none f a m) (dec_lt gap.at m)
  where
    go : (Gap f a m → sum_up f a m ≡ none) → Dec (gap.at < m) → plus (sum_up f a m) (f (a +ℤ pos m)) ≡ none
    go ih (yes u) = rw (ih (record { at = gap.at; below = u; missing = gap.missing }), none_plus)
    go ih (no u) =
        let same : gap.at ≡ m = let b = gap.below in omega arith in
        rw (← same, gap.missing, plus_none)

pub none_sum_up : (f : ℤ → Amount) (a : ℤ) (m : ℕ) → sum_up f a m ≡ none → Gap f a m
unfolding sum_up
none_sum_up f a zero e = impossible cc
none_sum_up f a (suc m) e = go (sum_up f a m) (f (a +ℤ pos m)) refl refl (none_sum_up f a m) e
  where
    wider : Gap f a m → Gap f a (suc m)
    wider gap = record { at = gap.at; below = let u = gap.below in omega arith; missing = gap.missing }

    go : (x y : Amount) → sum_up f a m ≡ x → f (a +ℤ pos m) ≡ y → (sum_up f a m ≡ none → Gap f a m) → plus x y ≡ none → Gap f a (suc m)
    go none y p q ih e = wider (ih p)
    go (known x) none p q ih e = record { at = m; below = omega arith; missing = q }
    go (known x) (known y) p q ih e = impossible cc

-- ---- the kilowatts between two ends

pub between_up : (a b : ℤ) (i : ℕ) → i < span a b → Between a b (a +ℤ pos i)
between_up a b i u = omega (arithℤ, span_parts a b, add_parts a (pos i), min_parts a b, max_parts a b)

pub between_flip : (a b k : ℤ) → Between a b k → Between b a k
between_flip a b k w = omega (arithℤ, min_parts a b, min_parts b a, max_parts a b, max_parts b a)

-- from the lower end, kilowatt k is the one at its distance
pub between_below : (a b k : ℤ) → le_z a b ≡ true → Between a b k → span a k < span a b
between_below a b k h w = omega (arithℤ, span_parts a k, span_parts a b, min_parts a b, max_parts a b)

pub between_at : (a b k : ℤ) → le_z a b ≡ true → Between a b k → a +ℤ pos (span a k) ≡ k
between_at a b k h w = omega (arithℤ, add_parts a (pos (span a k)), span_parts a k, min_parts a b)

-- ---- the integral

-- a stretch either way, over any prices
module _ (f : ℤ → Amount) where
  abbrev along : (a b : ℤ) → Amount
  along a b = if le_z a b then sum_up f a (span a b) else change neg_ℤ (sum_up f b (span b a))

  back : (a b : ℤ) → le_z a b ≡ true → along b a ≡ change neg_ℤ (along a b)
  back a b e =
      rw e
      (by_test (le_z b a)
      (λ t. (if t then sum_up f b (span b a) else change neg_ℤ (sum_up f a (span a b))) ≡ change neg_ℤ (sum_up f a (span a b)))
      (λ h. rw (sum_nothing f b (span b a) (omega (arithℤ, span_parts b a)), sum_nothing f a (span a b) (omega (arithℤ, span_parts a b))))
      (λ h. refl))

  pub turned : (a b : ℤ) → along a b ≡ change neg_ℤ (along b a)
  turned a b =
      by_test (le_z a b)
      (λ t. along a b ≡ change neg_ℤ (along b a))
      (λ e. sym (neg_neg (along a b)) ∙ ap (change neg_ℤ) (sym (back a b e)))
      (λ e. back b a (omega arithℤ))

sum_between : (c d : Curve) (a b : ℤ) → ((k : ℤ) → Between a b k → quote c k ≡ quote d k) → sum_up (quote c) a (span a b) ≡ sum_up (quote d) a (span a b)
sum_between c d a b h = sum_up_same (quote c) (quote d) a (span a b) (λ i u. h (a +ℤ pos i) (between_up a b i u))

pub integral_same : (c d : Curve) (a b : ℤ) → ((k : ℤ) → Between a b k → quote c k ≡ quote d k) → integral c a b ≡ integral d a b
unfolding integral
integral_same c d a b h = rw (sum_between c d a b h, sum_between c d b a (λ k w. h k (between_flip b a k w)))

-- a kilowatt between a and b that has no price
pub record Unquoted (c : Curve) (a b : ℤ) : Type 0 where
  pub kilowatt : ℤ
  pub needed : Between a b kilowatt
  pub missing : quote c kilowatt ≡ none

gap_up : (c : Curve) (a b : ℤ) → le_z a b ≡ true → Unquoted c a b → Gap (quote c) a (span a b)
gap_up c a b h m =
    record {
      at = span a m.kilowatt;
      below = between_below a b m.kilowatt h m.needed;
      missing = ap (quote c) (between_at a b m.kilowatt h m.needed) ∙ m.missing;
    }

pub unquoted_flip : (c : Curve) (a b : ℤ) → Unquoted c a b → Unquoted c b a
unquoted_flip c a b m = record { kilowatt = m.kilowatt; needed = between_flip a b m.kilowatt m.needed; missing = m.missing }

gap_unquoted : (c : Curve) (a b : ℤ) → Gap (quote c) a (span a b) → Unquoted c a b
gap_unquoted c a b gap = record { kilowatt = a +ℤ pos gap.at; needed = between_up a b gap.at gap.below; missing = gap.missing }

pub unquoted_none : (c : Curve) (a b : ℤ) → Unquoted c a b → integral c a b ≡ none
unfolding integral
unquoted_none c a b m =
    by_test (le_z a b)
    (λ t. (if t then sum_up (quote c) a (span a b) else change neg_ℤ (sum_up (quote c) b (span b a))) ≡ none)
    (λ e. sum_up_none (quote c) a (span a b) (gap_up c a b e m))
    (λ e. rw (sum_up_none (quote c) b (span b a) (gap_up c b a (omega arithℤ) (unquoted_flip c a b m))))

pub none_unquoted : (c : Curve) (a b : ℤ) → integral c a b ≡ none → Unquoted c a b
unfolding integral
none_unquoted c a b =
    by_test (le_z a b)
    (λ t. (if t then sum_up (quote c) a (span a b) else change neg_ℤ (sum_up (quote c) b (span b a))) ≡ none → Unquoted c a b)
    (λ e q. gap_unquoted c a b (none_sum_up (quote c) a (span a b) q))
    (λ e q. unquoted_flip c b a (gap_unquoted c b a (none_sum_up (quote c) b (span b a) (change_none neg_ℤ (sum_up (quote c) b (span b a)) q))))
