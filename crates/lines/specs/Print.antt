-- The text of a line, key by key from the one table, its numbers in decimal.
use Rattle.std.specs.Prelude.{List, [], ◌∷◌, ◌++◌, ℕ, zero, suc, ◌+◌, get_or}
use Rattle.keys.specs.Keys.{key_of}
use Rattle.text.specs.Text.{LF}

-- n fields from key `first` on, whose numbers are the texts of a list
unfoldable pub fields : (first n : ℕ) → List (List ℕ) → List ℕ
fields first zero texts = []
fields first (suc n) texts = fields first n texts ++ (key_of (first + n) ++ get_or texts n [])

unfoldable pub line : (first n : ℕ) → List (List ℕ) → List ℕ
line first n texts = fields first n texts ++ (LF ∷ [])
