-- "Derate (25.5)" again: the left-over kilowatts handed out in rounds, each giving one to the largest remainder not yet served. They come to the
-- shares of Derate.antt (proofs/ShareDemands.antt, `rounds_give_the_shares`), which stay what there is to believe.
use Rattle.std.specs.Prelude.{Bool, false, not, ◌&&◌, ◌||◌, ℕ, zero, suc}
use Rattle.tariff.specs.Sheet.{all_to}
use Rattle.tariff.specs.Derate.{is_before}

-- of the five, schedule j has the largest remainder not yet served: it is not served, and each that comes before it is
abbrev pub is_largest : (ℕ → ℕ) → (ℕ → Bool) → ℕ → Bool
is_largest rem served j = not (served j) && all_to (λ i. served i || not (is_before rem i j)) 5

-- schedule j is served within so many rounds: nobody is before the first, and each round serves the largest
unfoldable pub served_in : (ℕ → ℕ) → ℕ → ℕ → Bool
served_in rem zero j = false
served_in rem (suc rounds) j = served_in rem rounds j || is_largest rem (served_in rem rounds) j
