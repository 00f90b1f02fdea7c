-- Two hours at most two apart, as orders, and a test that holds at some hour near another.
use mathlib.Core.Path.{◌≡◌}
use mathlib.Core.Bool.{Bool, true, ◌&&◌}
use Prim.Native.Nat.{ℕ, ◌+◌, ◌<◌, ◌≤◌}
use lib.Dec.{leb}
use borrow.Author.Tests.{le-leb, leb-true}
use Rattle.tariff.specs.Eligible.{some_to, near}
use Rattle.tariff.proofs.Tests.{and_left, and_right, and_both}
use Rattle.marks.proofs.Some.{some_at, some_where}

pub near_is : (g h : ℕ) → g ≤ h + 2 → h ≤ g + 2 → near g h ≡ true
near_is g h u v = and_both _ _ (le-leb g (h + 2) u) (le-leb h (g + 2) v)

module _ (g h : ℕ) (e : near g h ≡ true) where
  pub near_above : g ≤ h + 2
  near_above = leb-true g (h + 2) (and_left _ _ e)

  pub near_below : h ≤ g + 2
  near_below = leb-true h (g + 2) (and_right (leb g (h + 2)) _ e)

module _ (f : ℕ → Bool) (n h : ℕ) where
  abbrev near_has : ℕ → Bool
  near_has g = f g && near g h

  pub near_by : (g : ℕ) → g < n → f g ≡ true → g ≤ h + 2 → h ≤ g + 2 → some_to near_has n ≡ true
  near_by g u e v w = some_at near_has n g u (and_both (f g) _ e (near_is g h v w))

  pub near_from : {P : Type 0} → some_to near_has n ≡ true → ((g : ℕ) → g < n → f g ≡ true → g ≤ h + 2 → h ≤ g + 2 → P) → P
  near_from e found =
      some_where near_has n e
      (λ g u d.
      let close = and_right (f g) (near g h) d in
      found g u (and_left _ _ d) (near_above g h close) (near_below g h close))
