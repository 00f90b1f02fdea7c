-- The theorems of the derate's shares (25.5): what they sum to, who has one of the left-over kilowatts, and that rounds come to the same.
use mathlib.Core.Path.{◌≡◌}
use mathlib.Core.Bool.{true}
use mathlib.Core.Logic.{◌↔◌, ◌⊎◌}
use Prim.Native.Nat.{ℕ, ◌+◌, ◌<◌, ◌≤◌}
use lib.IntN.{ℤ}
use Rattle.tariff.specs.declared.DayAhead.{DayAhead}
use Rattle.tariff.specs.declared.Interval.{Interval}
use Rattle.tariff.specs.Derate.{of_five, red_tot, pot_red, floor_of, remainder, left_over, one, is_before, share}
use Rattle.tariff.specs.Rounds.{served_in}
use Rattle.tariff.proofs.Ranks.{before_when}
use Rattle.tariff.proofs.Shares.{one_or_none, served_first, left_small, shares_sum, share_bound}
use Rattle.tariff.proofs.Rounds.{served_as_many, share_in_rounds}

-- Shares are whole kW that sum to REDtot, where it does not exceed the room for it.
pub shares_sum_to_the_reduction :
    (a : DayAhead) (v : Interval) (limit : ℤ)
    → red_tot a limit ≤ of_five (pot_red a v)
    → of_five (share (pot_red a v) (red_tot a limit)) ≡ red_tot a limit
shares_sum_to_the_reduction a v limit = shares_sum (pot_red a v) (red_tot a limit)

-- None of them exceeds its POTRED.
pub no_share_exceeds_its_potential :
    (a : DayAhead) (v : Interval) (limit : ℤ)
    → red_tot a limit ≤ of_five (pot_red a v)
    → (j : ℕ)
    → share (pot_red a v) (red_tot a limit) j ≤ pot_red a v j
no_share_exceeds_its_potential a v limit = share_bound (pot_red a v) (red_tot a limit)

-- Each is rounded down, and the left-over kW go one each:
pub at_most_one_each : (pot : ℕ → ℕ) (red j : ℕ) → (share pot red j ≡ floor_of pot red j) ⊎ (share pot red j ≡ floor_of pot red j + 1)
unfolding share
at_most_one_each pot red j = one_or_none (remainder pot red) (left_over pot red) j (floor_of pot red j)

-- to the largest remainders, ties in the order energy, regulation, r1, r2, r3. If j has one, so has each i that comes before it:
pub left_over_goes_to_the_largest :
    (pot : ℕ → ℕ) (red i j : ℕ)
    → i < 5
    → j < 5
    → is_before (remainder pot red) i j ≡ true
    → share pot red j ≡ floor_of pot red j + 1
    → share pot red i ≡ floor_of pot red i + 1
unfolding share
left_over_goes_to_the_largest pot red i j = served_first (remainder pot red) (left_over pot red) i j (floor_of pot red j) (floor_of pot red i)

-- by a larger remainder, or by the same and earlier in the order.
pub before_exactly_when_larger_or_earlier : (rem : ℕ → ℕ) (i j : ℕ) → (is_before rem i j ≡ true) ↔ ((rem j < rem i) ⊎ ((rem i ≡ rem j) × (i < j)))
before_exactly_when_larger_or_earlier rem i j = before_when (rem i) (rem j) i j

-- Handed out in rounds, each giving one kW to the largest remainder not yet served, they give these very shares:
pub rounds_give_the_shares :
    (pot : ℕ → ℕ) (red j : ℕ)
    → red ≤ of_five pot
    → j < 5
    → share pot red j ≡ floor_of pot red j + one (served_in (remainder pot red) (left_over pot red) j)
rounds_give_the_shares = share_in_rounds

-- four rounds at most, each of which serves one more.
pub four_rounds_at_most : (pot : ℕ → ℕ) (red : ℕ) → red ≤ of_five pot → left_over pot red ≤ 4
four_rounds_at_most = left_small

pub a_round_serves_one_more : (rem : ℕ → ℕ) (rounds : ℕ) → rounds ≤ 5 → of_five (λ j. one (served_in rem rounds j)) ≡ rounds
a_round_serves_one_more = served_as_many
