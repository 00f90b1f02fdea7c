-- Whole numbers with a sign: their parts above and below zero, the lesser and the greater, tests, ranges, distances, sums.
use Rattle.std.specs.Prelude.{if◌then◌else◌, Bool, false, List, [], ◌∷◌, ◌++◌, ℕ, zero, suc, ◌≤◌, eqb, ℤ, pos, negsuc, ◌+ℤ◌, ◌-ℤ◌}
use Rattle.std.specs.Int.Signed.{lt_z}

-- z is `over z` less `under z`, and one of the two is 0: `over z` is the greater of z and 0
abbrev pub over : ℤ → ℕ
over (pos n) = n
over (negsuc n) = 0

abbrev pub under : ℤ → ℕ
under (pos n) = 0
under (negsuc n) = suc n

-- the lesser and the greater of two
unfoldable pub min_z : ℤ → ℤ → ℤ
min_z a b = if lt_z a b then a else b

unfoldable pub max_z : ℤ → ℤ → ℤ
max_z a b = if lt_z a b then b else a

-- the test whether two are the same
abbrev pub eq_z : ℤ → ℤ → Bool
eq_z (pos m) (pos n) = eqb m n
eq_z (pos m) (negsuc n) = false
eq_z (negsuc m) (pos n) = false
eq_z (negsuc m) (negsuc n) = eqb m n

-- z is at most N away from 0
pub record Within (N : ℕ) (z : ℤ) : Type 0 where
  pub above : over z ≤ N
  pub below : under z ≤ N

-- how many whole steps lead from a up to b: none where b is at or below a
unfoldable pub span : ℤ → ℤ → ℕ
span a b = over (b -ℤ a)

-- what f gives at each number below n: in order, and summed
unfoldable pub up_to {ℓ} : {A : Type ℓ} → (ℕ → A) → ℕ → List A
up_to f zero = []
up_to f (suc n) = up_to f n ++ (f n ∷ [])

unfoldable pub sum_to : (ℕ → ℤ) → ℕ → ℤ
sum_to f zero = pos 0
sum_to f (suc n) = sum_to f n +ℤ f n
