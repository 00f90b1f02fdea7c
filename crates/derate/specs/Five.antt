-- Arrays of five: schedules, and the kilowatts of a reduction.
use Rattle.std.specs.Prelude.{Bool, false, List, [], ◌∷◌, ℕ, ◌<◌, ◌≤◌, get_or, ℤ, pos}
use Rattle.exact.specs.Whole.{Within}
use Rattle.tariff.specs.declared.Kw.{Kw}
use Rattle.tariff.specs.Units.{kw}
use Rattle.derate.specs.declared.cuts.Cut.{Cut}

abbrev pub cut : ℕ → Cut
cut n = record { 0 = n }

abbrev pub kw_five : (ℕ → ℤ) → List Kw
kw_five f = kw (f 0) ∷ kw (f 1) ∷ kw (f 2) ∷ kw (f 3) ∷ kw (f 4) ∷ []

abbrev pub cut_five : (ℕ → ℕ) → List Cut
cut_five f = cut (f 0) ∷ cut (f 1) ∷ cut (f 2) ∷ cut (f 3) ∷ cut (f 4) ∷ []

abbrev pub kw_at : List Kw → ℕ → ℤ
kw_at l j = (get_or l j (kw (pos 0))).0

abbrev pub cut_at : List Cut → ℕ → ℕ
cut_at l j = (get_or l j (cut 0)).0

abbrev pub served_at : List Bool → ℕ → Bool
served_at l j = get_or l j false

-- each of five schedules is in the range of power
pub record Close (l : List Kw) : Type 0 where
  pub close : (j : ℕ) → j < 5 → Within 2000000 (kw_at l j)

-- each of five cuts is at most the distance of two powers
pub record SmallFive (l : List Cut) : Type 0 where
  pub small : (j : ℕ) → j < 5 → cut_at l j ≤ 4000000
