-- Arrays of five: filled place by place, the ranges of all five, and the parts and shares of a reduction in them.
use mathlib.Core.Path.{◌≡◌, refl, ap}
use mathlib.Core.Bool.{true}
use mathlib.Core.List.{List, [], ◌∷◌}
use Prim.Native.Nat.{ℕ, zero, suc, ◌<◌, ◌≤◌}
use native.Mathlib.Omega.{arith}
use lib.Dec.{eqb}
use lib.IntN.{ℤ, pos, ◌+ℤ◌, ◌-ℤ◌}
use lib.ListN.{length, get_or, set}
use mir.Syntax.{w64}
use Rattle.std.specs.Prelude.{if◌then◌else◌}
use Rattle.std.specs.Int.{int_wrap}
use Rattle.std.proofs.lemmas.Int.{ints}
use Rattle.exact.specs.Whole.{over, sum_to, Within}
use Rattle.exact.proofs.Bits.{plain}
use Rattle.exact.proofs.Range.{within_zero, within_less}
use Rattle.exact.proofs.Tests.{and_left, and_right}
use Rattle.tariff.specs.declared.Kw.{Kw}
use Rattle.tariff.specs.Units.{kw}
use Rattle.tariff.specs.Sheet.{is_power}
use Rattle.tariff.specs.Derate.{of_five, floor_of, share}
use Rattle.tariff.proofs.Ranges.{power_within}
use Rattle.tariff.proofs.Ranks.{five, at_five}
use Rattle.tariff.proofs.Wraps.{is_sum}
use Rattle.tariff.proofs.Shares.{floor_bound, floors_left, share_bound}
use Rattle.derate.specs.declared.cuts.Cut.{Cut}
use Rattle.derate.specs.Five.{kw_five, cut_five, kw_at, cut_at, Close, SmallFive}
use Rattle.derate.specs.Derated.{all_powers}

-- ---- what stands at each of five places

abbrev pub five_of : {A : Type 0} → (ℕ → A) → List A
five_of f = f 0 ∷ f 1 ∷ f 2 ∷ f 3 ∷ f 4 ∷ []

pub fives_same : {A : Type 0} (f g : ℕ → A) → ((k : ℕ) → k < 5 → f k ≡ g k) → five_of f ≡ five_of g
fives_same f g h = grind (arith, five)

pub five_set : {A : Type 0} (f : ℕ → A) (r : A) (j : ℕ) → j < 5 → set (five_of f) j r ≡ five_of (λ k. if eqb k j then r else f k)
five_set f r = grind (arith, at_five)

pub five_at : {A : Type 0} (f : ℕ → A) (nothing : A) (j : ℕ) → j < 5 → get_or (five_of f) j nothing ≡ f j
five_at f nothing = grind (arith, at_five)

pub five_long : {A : Type 0} (nothing : A) (l : List A) → length l ≡ 5 → l ≡ five_of (λ k. get_or l k nothing)
five_long nothing (a ∷ b ∷ c ∷ d ∷ e ∷ []) h = refl
five_long nothing [] h = absurd (omega arith)
five_long nothing (a ∷ []) h = absurd (omega arith)
five_long nothing (a ∷ b ∷ []) h = absurd (omega arith)
five_long nothing (a ∷ b ∷ c ∷ []) h = absurd (omega arith)
five_long nothing (a ∷ b ∷ c ∷ d ∷ []) h = absurd (omega arith)
five_long nothing (a ∷ b ∷ c ∷ d ∷ e ∷ f ∷ l) h = absurd (omega arith)

-- ---- an array known place by place

pub cuts_same : {l : List Cut} (f : ℕ → ℕ) → length l ≡ 5 → ((j : ℕ) → j < 5 → cut_at l j ≡ f j) → l ≡ cut_five f
cuts_same {l} f long h = grind (arith, five_long, fives_same)

pub kws_made : (l : List Kw) (p q r s t : ℤ) → length l ≡ 5 → kw_at l 0 ≡ p → kw_at l 1 ≡ q → kw_at l 2 ≡ r → kw_at l 3 ≡ s → kw_at l 4 ≡ t → l ≡ kw p ∷ kw q ∷ kw r ∷ kw s ∷ kw t ∷ []
kws_made l p q r s t long e₀ e₁ e₂ e₃ e₄ = grind (arith, five_long)

-- ---- what stands at any place, where nothing stands past the fifth

by_place : {A : Type 0} (f g : ℕ → A) → f 0 ≡ g 0 → f 1 ≡ g 1 → f 2 ≡ g 2 → f 3 ≡ g 3 → f 4 ≡ g 4 → ((k : ℕ) → f (suc (suc (suc (suc (suc k))))) ≡ g (suc (suc (suc (suc (suc k)))))) → f ≡ g
by_place f g p q r s t h = λ i j. at j i
  where
    at : (j : ℕ) → f j ≡ g j
    at zero = p
    at (suc zero) = q
    at (suc (suc zero)) = r
    at (suc (suc (suc zero))) = s
    at (suc (suc (suc (suc zero)))) = t
    at (suc (suc (suc (suc (suc k))))) = h k

pub cuts_back : (f : ℕ → ℕ) → ((k : ℕ) → 0 ≡ f (suc (suc (suc (suc (suc k)))))) → cut_at (cut_five f) ≡ f
cuts_back f h = grind (arith, by_place)

pub kws_back : (f : ℕ → ℤ) → ((k : ℕ) → pos 0 ≡ f (suc (suc (suc (suc (suc k)))))) → kw_at (kw_five f) ≡ f
kws_back f h = grind (arith, by_place)

-- ---- the ranges of all five

pub smalls : (f : ℕ → ℕ) → ((j : ℕ) → j < 5 → f j ≤ 4000000) → SmallFive (cut_five f)
smalls f h = record { small = at_five (λ j. cut_at (cut_five f) j ≤ 4000000) (five (λ j. f j ≤ 4000000) h) }

pub closes : (f : ℕ → ℤ) → ((j : ℕ) → j < 5 → Within 2000000 (f j)) → Close (kw_five f)
closes f h = record { close = at_five (λ j. Within 2000000 (kw_at (kw_five f) j)) (five (λ j. Within 2000000 (f j)) h) }

-- five schedules that are tested in their order
power_at : (l : List Kw) → all_powers l ≡ true → (j : ℕ) → Within 2000000 (kw_at l j)
power_at [] e j = within_zero 2000000
power_at (k ∷ l) e zero = power_within (and_left (is_power k.0) (all_powers l) e)
power_at (k ∷ l) e (suc j) = power_at l (and_right (is_power k.0) (all_powers l) e) j

pub close_if : (l : List Kw) → all_powers l ≡ true → Close l
close_if l e = record { close = λ j u. power_at l e j }

pub gap_small : (d live : List Kw) (j : ℕ) → Close d → Close live → j < 5 → over (kw_at d j -ℤ kw_at live j) ≤ 4000000
gap_small d live j cd cl u = grind (arith, within_less)

-- ---- the sum of five that are in range wraps nowhere

pub five_added : (l : List Kw) (p q r s : ℤ) → Close l → p ≡ int_wrap w64 (kw_at l 0 +ℤ kw_at l 1) → q ≡ int_wrap w64 (p +ℤ kw_at l 2) → r ≡ int_wrap w64 (q +ℤ kw_at l 3) → s ≡ int_wrap w64 (r +ℤ kw_at l 4) → s ≡ sum_to (kw_at l) 5
unfolding sum_to
five_added l p q r s h d e f g =
    let in_range = λ (j : ℕ) (u : j < 5). plain (h.close j u) in
    let two = is_sum tt (in_range 0 (omega arith)) (in_range 1 (omega arith)) d in
    let three = is_sum tt two (in_range 2 (omega arith)) e in
    let four = is_sum tt three (in_range 3 (omega arith)) f in
    let all = (is_sum tt four (in_range 4 (omega arith)) g).same in
    omega (arith, ints)

-- ---- the shares of a reduction that has room

module _ (pot : List Cut) (red : ℕ) where
  pub shares_small : SmallFive pot → red ≤ of_five (cut_at pot) → {l : List Cut} → l ≡ cut_five (share (cut_at pot) red) → SmallFive l
  shares_small small fits e = grind (arith, smalls, share_bound)

  pub rounded_small : SmallFive pot → red ≤ of_five (cut_at pot) → {rounded : List Cut} → rounded ≡ cut_five (floor_of (cut_at pot) red) → SmallFive rounded
  rounded_small small fits e = grind (arith, smalls, floor_bound)

  pub rounded_within : red ≤ of_five (cut_at pot) → {rounded : List Cut} → rounded ≡ cut_five (floor_of (cut_at pot) red) → {sum : ℕ} → sum ≡ of_five (cut_at rounded) → sum ≤ red
  rounded_within fits e h = omega (arith, ap (λ l. of_five (cut_at l)) e, floors_left (cut_at pot) red fits)
