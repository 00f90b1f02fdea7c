-- Document 01's "Figures to prove" in one table, P8 as document 02's No. 6 amends it: what the definitions compute beside what the papers
-- print. That the two agree is claimed and proved in proofs/.
use Rattle.std.specs.Prelude.{◌≡◌, false, List, [], ◌∷◌, ◌++◌, ℕ, replicate, ℤ, pos, neg_ℤ, None, Some}
use Rattle.exact.specs.Whole.{up_to}
use Rattle.tariff.specs.declared.DayAhead.{DayAhead}
use Rattle.tariff.specs.declared.Hour.{Hour}
use Rattle.tariff.specs.declared.Expected.TheVariants.{Any}
use Rattle.tariff.specs.Units.{cents_of, MaybeKw}
use Rattle.tariff.specs.Reply.{Reply, paid, refused}
use Rattle.tariff.specs.Eligible.{excluded, no_day}
use Rattle.tariff.specs.Derate.{red_tot, pot_red, one, share}
use Rattle.tariff.specs.Contributions.{reserve}
use Rattle.tariff.specs.Hour.{interval, outcome, reply}
use Rattle.tariff.specs.Outcome.{Outcome, gives, stops}
use Rattle.figures.specs.Sample.{worked, withdrawing, moving, derating, over_derated, marked, short_curve}

-- ---- a row, and what the table claims

-- the figure's number (11 is the run that the paper names after P10), what the definitions compute, and what the paper prints
pub record Row : Type 0 where
  pub figure : ℕ
  pub computed : List ℤ
  pub printed : List ℤ

infix 1 P◌is◌prints◌
infixr 1 ◌and◌
abbrev pub P◌is◌prints◌ : ℕ → List ℤ → List ℤ → Row
P figure is computed prints printed = record { figure = figure; computed = computed; printed = printed }

-- computed and printed agree in every row
pub data Holds : List Row → Type 0 where
  done : Holds []
  ◌and◌ : {row : Row} {rows : List Row} → row.computed ≡ row.printed → Holds rows → Holds (row ∷ rows)

-- ---- answers as numbers: 0 and the amounts, or the number of the check that refuses, so that no refusal passes for an amount

abbrev pub said : Outcome → List ℤ
said (gives grains) = pos 0 ∷ grains ∷ []
said (stops number) = pos number ∷ []

abbrev pub replied : Reply → List ℤ
replied (paid sum cents) = pos 0 ∷ sum ∷ cents ∷ []
replied (refused number place) = pos number ∷ pos place ∷ []

-- interval i, from 0; and the whole hour, eligible, of any number, with a row of 30 entries
abbrev pub at : Hour → ℕ → List ℤ
at h i = said (outcome h (interval h i))

abbrev pub whole : Hour → List ℤ
whole h = replied (reply h false Any 30)

-- ---- the derate of an hour's first interval: REDtot, the five POTRED, the five shares

abbrev pub red_tot_under : DayAhead → MaybeKw → ℕ
red_tot_under a None = 0
red_tot_under a (Some limit) = red_tot a limit.0

abbrev pub red_tot_in : Hour → ℕ
red_tot_in h = red_tot_under h.ahead (interval h 0).uol

abbrev pub pot_red_in : Hour → ℕ → ℕ
pot_red_in h = pot_red h.ahead (interval h 0)

abbrev pub five : (ℕ → ℕ) → List ℤ
five f = up_to (λ j. pos (f j)) 5

-- ---- the table

abbrev pub figures : List Row
figures =
    (P 1 is at worked 0 prints (pos 0 ∷ pos 27000000000 ∷ []))
    ∷ (P 2 is at worked 1 prints (pos 0 ∷ pos 72900000000 ∷ []))
    ∷ (P 3 is at worked 2 prints (pos 0 ∷ neg_ℤ (pos 9000000000) ∷ []))
    ∷ (P 4 is at worked 3 prints (pos 0 ∷ pos 0 ∷ []))
    ∷ (P 4 is whole worked prints (pos 0 ∷ pos 90900000000 ∷ pos 25250 ∷ []))
    ∷ (P 5 is at withdrawing 0 prints (pos 0 ∷ pos 13500000000 ∷ []))
    ∷ (P 6 is reserve (pos 10000) (pos 12000) (pos 800) (pos 0) (pos 900) ∷ [] prints (neg_ℤ (pos 1440000000) ∷ []))
    ∷ (P 7 is at moving 0 prints (pos 0 ∷ neg_ℤ (pos 144000000) ∷ []))
    ∷ (P 8 is cents_of (pos 3599999) ∷ cents_of (pos 3600000) ∷ cents_of (neg_ℤ (pos 1)) ∷ [] prints (pos 1 ∷ pos 1 ∷ pos 0 ∷ []))
    ∷ (P 8 is cents_of (pos 1800000) ∷ cents_of (pos 1799999) ∷ [] prints (pos 1 ∷ pos 0 ∷ []))
    ∷ (P 9 is pos (red_tot_in derating) ∷ five (pot_red_in derating) prints (pos 10000 ∷ pos 20000 ∷ pos 10000 ∷ pos 0 ∷ pos 0 ∷ pos 0 ∷ []))
    ∷ (P 9 is five (share (pot_red_in derating) (red_tot_in derating)) prints (pos 6667 ∷ pos 3333 ∷ pos 0 ∷ pos 0 ∷ pos 0 ∷ []))
    ∷ (P 9 is pos (red_tot_in over_derated) ∷ five (pot_red_in over_derated) prints (pos 30001 ∷ pos 20000 ∷ pos 10000 ∷ pos 0 ∷ pos 0 ∷ pos 0 ∷ []))
    ∷ (P 9 is whole over_derated prints (pos 6 ∷ pos 1 ∷ []))
    ∷ (P 10 is up_to (λ h. pos (one (excluded no_day marked no_day h))) 24 prints (replicate 3 (pos 0) ++ replicate 5 (pos 1) ++ replicate 16 (pos 0)))
    ∷ (P 11 is whole short_curve prints (pos 7 ∷ pos 1 ∷ []))
    ∷ []
