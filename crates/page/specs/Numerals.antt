-- Numbers in decimal, and a key with its number. No number that the programs hold has more than 20 digits.
use Rattle.std.specs.Prelude.{List, ◌∷◌, ◌++◌, ℕ, suc, ℤ, pos, negsuc}
use Rattle.text.specs.Decimal.{natural}
use Rattle.text.specs.Text.{MINUS}

abbrev pub count : ℕ → List ℕ
count n = natural 20 n

abbrev pub signed : ℤ → List ℕ
signed (pos n) = count n
signed (negsuc n) = MINUS ∷ count (suc n)

-- ---- a key and its number

abbrev pub counted : List ℕ → ℕ → List ℕ
counted key n = key ++ count n

abbrev pub valued : List ℕ → ℤ → List ℕ
valued key v = key ++ signed v
