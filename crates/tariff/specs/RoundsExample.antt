-- Left-over kilowatts handed out, computed: intervals 1 and 4 of samples/hour/derate-rounds.txt, which docs/answers.md works by hand.
use Rattle.std.specs.Prelude.{◌≡◌, refl, Bool, true, false, List, [], ◌∷◌, ℕ, get_or}
use Rattle.tariff.specs.Sheet.{all_to}
use Rattle.tariff.specs.Derate.{floor_of, remainder, left_over, share}
use Rattle.tariff.specs.Rounds.{served_in}

-- what each schedule can give up, 10,000 kW in all
abbrev pot : ℕ → ℕ
pot j = get_or (6009 ∷ 1002 ∷ 1002 ∷ 1503 ∷ 484 ∷ []) j 0

-- of each of the five, in the order energy, regulation, r1, r2, r3
abbrev each : {A : Type 0} → (ℕ → A) → List A
each f = f 0 ∷ f 1 ∷ f 2 ∷ f 3 ∷ f 4 ∷ []

-- who is served of a reduction within so many rounds
abbrev after : ℕ → ℕ → List Bool
after red rounds = each (served_in (remainder pot red) rounds)

-- what a proof by computation opens
opened : ℕ → List ℕ
unfolding floor_of remainder left_over share served_in all_to
opened red = each (share pot red)

-- 3,000 kW leave three over
three_left : (each (floor_of pot 3000) ≡ 1802 ∷ 300 ∷ 300 ∷ 450 ∷ 145 ∷ [])
    × (each (remainder pot 3000) ≡ 7000 ∷ 6000 ∷ 6000 ∷ 9000 ∷ 2000 ∷ [])
    × (left_over pot 3000 ≡ 3)
unfolding opened
three_left = (refl, refl, refl)

-- to r2, to energy, and to regulation, which ties with r1 and stands first
three_rounds : (after 3000 1 ≡ false ∷ false ∷ false ∷ true ∷ false ∷ [])
    × (after 3000 2 ≡ true ∷ false ∷ false ∷ true ∷ false ∷ [])
    × (after 3000 3 ≡ true ∷ true ∷ false ∷ true ∷ false ∷ [])
    × (each (share pot 3000) ≡ 1803 ∷ 301 ∷ 300 ∷ 451 ∷ 145 ∷ [])
unfolding opened
three_rounds = (refl, refl, refl, refl)

-- 3,200 kW leave four over: to r2, to energy, which ties with r3, to r3, and to regulation, which ties with r1
four_rounds : (each (remainder pot 3200) ≡ 8800 ∷ 6400 ∷ 6400 ∷ 9600 ∷ 8800 ∷ [])
    × (left_over pot 3200 ≡ 4)
    × (after 3200 1 ≡ false ∷ false ∷ false ∷ true ∷ false ∷ [])
    × (after 3200 2 ≡ true ∷ false ∷ false ∷ true ∷ false ∷ [])
    × (after 3200 3 ≡ true ∷ false ∷ false ∷ true ∷ true ∷ [])
    × (after 3200 4 ≡ true ∷ true ∷ false ∷ true ∷ true ∷ [])
    × (each (share pot 3200) ≡ 1923 ∷ 321 ∷ 320 ∷ 481 ∷ 155 ∷ [])
unfolding opened
four_rounds = (refl, refl, refl, refl, refl, refl, refl)
