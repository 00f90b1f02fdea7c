-- The decimal text of a number, as the sheet has it and as the programs print it.
use Rattle.std.specs.Prelude.{if◌then◌else◌, List, [], ◌∷◌, ◌++◌, ℕ, zero, suc, ◌+◌, ◌/◌, ◌%◌, ltb, ℤ, pos, negsuc}
use Rattle.text.specs.Text.{ZERO, MINUS}

-- a number of up to `left` digits
unfoldable pub natural : (left : ℕ) → ℕ → List ℕ
natural zero n = []
natural (suc left) n =
    let front = natural left (n / 10) in
    if ltb n 10 then (ZERO + n) ∷ [] else front ++ ((ZERO + n % 10) ∷ [])

-- a number of a sheet: seven digits at most
abbrev pub number : ℤ → List ℕ
number (pos n) = natural 7 n
number (negsuc n) = MINUS ∷ natural 7 (suc n)
