-- Hours alike in all but their curves: where each interval comes to the same, or its needed point and prices are the same, they have one reply
-- and one row; and in a paid hour curves with every price that its own have leave each needed price as it is.
use mathlib.Core.Path.{◌≡◌, refl, sym, ◌∙◌, ap}
use mathlib.Core.Bool.{Bool}
use mathlib.Core.List.{List}
use Prim.Native.Nat.{ℕ, ◌<◌}
use lib.ListN.{length}
use lib.IntN.{ℤ}
use Rattle.tariff.specs.declared.Hour.{Hour}
use Rattle.tariff.specs.declared.Expected.{Expected}
use Rattle.tariff.specs.Curve.{Amount, known, none}
use Rattle.tariff.specs.Reply.{REACH, clear}
use Rattle.tariff.specs.Contributions.{lower_in}
use Rattle.tariff.specs.Hour.{interval, parts_of, seconds_sum, outcome_at, intervals, reply, row_after}
use Rattle.tariff.specs.Demand.{MustPrice, price_in, SamePoints, Alike, Lawful, SamePrices, Extends}
use Rattle.tariff.proofs.Stops.{none_stopped}
use Rattle.tariff.proofs.AnyHour.{same_both}
use Rattle.tariff.proofs.Branches.{branch_same, branch_extended}
use Rattle.tariff.proofs.Points.{point_same}
use Rattle.tariff.proofs.Finds.{curves_keep}
use Rattle.tariff.proofs.Ordered.{lawful_same}
use Rattle.tariff.proofs.Needed.{with_curves, outcome_same, unreached}

module _ (h g : Hour) (alike : Alike h g) where
  -- h with the curves of g is g
  path : with_curves h g.da g.rt ≡ g
  path = λ i. record { hour = alike.hour i; ahead = alike.ahead i; da = g.da; rt = g.rt; n = alike.n i; iv = alike.iv i }

  pub alike_outcome : (is_excluded : Bool) (i : ℕ) → i < h.n → SamePoints h g is_excluded
      → ((k : ℤ) → MustPrice h is_excluded i k → price_in h i k ≡ price_in g i k)
      → outcome_at h is_excluded i ≡ outcome_at g is_excluded i
  alike_outcome is_excluded i u points prices =
      outcome_same h is_excluded i g.da g.rt u (points i) (λ k m. prices k m ∙ ap (λ (x : Hour). price_in x i k) (sym path))
      ∙ ap (λ (x : Hour). outcome_at x is_excluded i) path

  pub alike_same : (is_excluded : Bool) (expected : Expected) (row : List ℤ) → Lawful h expected → Lawful g expected
      → ((i : ℕ) → i < h.n → outcome_at h is_excluded i ≡ outcome_at g is_excluded i)
      → (reply h is_excluded expected (length row) ≡ reply g is_excluded expected (length row)) × (row_after h is_excluded expected row ≡ row_after g is_excluded expected row)
  alike_same is_excluded expected row f f' same =
      let block = lawful_same (parts_of h) (parts_of g) expected f f' (ap seconds_sum path) in
      same_both _ _ (outcome_at h is_excluded) (outcome_at g is_excluded) h.n g.n block alike.n same row

  -- curves with every price that h has, where no interval of h is stopped
  pub extended_price : (is_excluded : Bool) → Extends h.da g.da → Extends h.rt g.rt → intervals h is_excluded ≡ clear
      → (i : ℕ) (k : ℤ) → MustPrice h is_excluded i k → price_in h i k ≡ price_in g i k
  extended_price is_excluded d r e i k m = go (price_in h i k) refl ∙ ap (λ (x : Hour). price_in x i k) path
    where
      go : (x : Amount) → price_in h i k ≡ x → price_in h i k ≡ price_in (with_curves h g.da g.rt) i k
      go (known p) q = q ∙ sym (branch_extended d r (lower_in h.ahead (interval h i)) k p q)
      go none q =
          absurd
          ((none_stopped (outcome_at h is_excluded) h.n).0 e i m.eligible.counted REACH
          ((unreached h is_excluded i).stopped (record { kilowatt = k; needed = m; missing = q })))

  -- the same curves, cut into other steps
  pub cut_prices : SamePrices h.da g.da → SamePrices h.rt g.rt → (i : ℕ) (k : ℤ) → price_in h i k ≡ price_in g i k
  cut_prices d r i k = branch_same d r (lower_in h.ahead (interval h i)) k ∙ ap (λ (x : Hour). price_in x i k) path

pub cut_points : (h g : Hour) (is_excluded : Bool) (expected : Expected) → Lawful h expected → Lawful g expected → SamePrices h.rt g.rt
    → SamePoints h g is_excluded
cut_points h g is_excluded expected f f' rt i m =
    point_same h.rt g.rt (curves_keep (parts_of h) f.curves).1 (curves_keep (parts_of g) f'.curves).1 rt (interval h i).pen.0
