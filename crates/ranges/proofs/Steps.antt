-- The steps of a curve, of which a record has 12 entries: behind them stand zeros, which are in their ranges.
use mathlib.Core.Path.{◌≡◌, refl}
use mathlib.Core.Bool.{Bool, true, ◌&&◌, and-true}
use mathlib.Core.List.{List}
use Prim.Native.Nat.{ℕ, zero, suc, ◌<◌, ◌≤◌}
use native.Mathlib.Decide.{dec_lt}
use native.Mathlib.Numerals.{add-one}
use native.Mathlib.Omega.{arith}
use lib.IntN.{pos}
use lib.ListN.{length, take, get_or-eq_default}
use Rattle.std.specs.List.{list_all, zip}
use Rattle.std.proofs.lemmas.List.{take_all}
use Rattle.std.proofs.lemmas.List.Folds.{list_all_more}
use Rattle.std.proofs.lemmas.Slice.Zip.{length-zip, get_or-zip}
use Rattle.tariff.specs.declared.Curve.{Curve}
use Rattle.tariff.specs.declared.Kw.{Kw}
use Rattle.tariff.specs.declared.Price.{Price}
use Rattle.tariff.specs.Units.{kw, price}
use Rattle.tariff.specs.Sheet.{is_power, is_price, step_in_range, all_to}

module _ (c : Curve) (ends : length c.to ≡ 12) (prices : length c.at ≡ 12) where
  abbrev test : Kw × Price → Bool
  test step = is_power step.0.0 && is_price step.1.0

  abbrev steps : List (Kw × Price)
  steps = zip c.to c.at

  long : length steps ≡ 12
  long = rw (length-zip, ends, prices)

  -- behind the entries
  behind : (n : ℕ) → 12 ≤ n → step_in_range c n ≡ true
  behind n u =
      let end = get_or-eq_default c.to (kw (pos 0)) {n = n} (omega arith) in
      let at = get_or-eq_default c.at (price (pos 0)) {n = n} (omega arith) in
      λ i. is_power (end i).0 && is_price (at i).0

  abbrev zeros : Kw × Price
  zeros = (kw (pos 0), price (pos 0))

  one_more : (n : ℕ) → list_all test (take n steps) ≡ all_to (step_in_range c) n → Dec (n < 12)
      → list_all test (take (suc n) steps) ≡ (all_to (step_in_range c) n && step_in_range c n)
  one_more n before (yes u) =
      let l = long in
      rw (← add-one n) (rw (list_all_more test steps n zeros (omega arith), before, get_or-zip c.to c.at n zeros (omega arith) (omega arith)))
  one_more n before (no u) =
      let l = long in
      rw (take_all (suc n) steps (omega arith), behind n (omega arith), and-true) (rw (take_all n steps (omega arith)) at before)

  pub steps_are : (n : ℕ) → list_all test (take n steps) ≡ all_to (step_in_range c) n
  unfolding all_to
  steps_are zero = refl
  steps_are (suc n) = one_more n (steps_are n) (dec_lt n 12)
