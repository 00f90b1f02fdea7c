-- "Derate (25.5)": the reduction of the five day-ahead schedules, shared out in whole kilowatts.
use Rattle.tariff.specs.Units.{MaybeKw}
use Rattle.std.specs.Prelude.{if◌then◌else◌, Bool, true, false, ◌&&◌, ◌||◌, [], ◌∷◌, ℕ, ◌+◌, ◌-◌, ◌*◌, ◌/◌, ◌%◌, ltb, eqb, get_or, ℤ, pos, ◌-ℤ◌, None, Some}
use Rattle.exact.specs.Whole.{over, sum_to}
use Rattle.tariff.specs.declared.DayAhead.{DayAhead}
use Rattle.tariff.specs.declared.Interval.{Interval}

-- ---- the five schedules, in the order energy, regulation, r1, r2, r3

abbrev pub day_ahead : DayAhead → ℕ → ℤ
day_ahead a j = get_or (a.en.0 ∷ a.reg.0 ∷ a.r1.0 ∷ a.r2.0 ∷ a.r3.0 ∷ []) j (pos 0)

abbrev pub real_time : Interval → ℕ → ℤ
real_time v j = get_or (v.en.0 ∷ v.reg.0 ∷ v.r1.0 ∷ v.r2.0 ∷ v.r3.0 ∷ []) j (pos 0)

abbrev pub of_five : (ℕ → ℕ) → ℕ
of_five f = f 0 + f 1 + f 2 + f 3 + f 4

-- ---- REDtot, each POTRED, and the room for the reduction

abbrev pub red_tot : DayAhead → ℤ → ℕ
red_tot a limit = over (sum_to (day_ahead a) 5 -ℤ limit)

abbrev pub pot_red : DayAhead → Interval → ℕ → ℕ
pot_red a v j = over (day_ahead a j -ℤ real_time v j)

-- ---- the shares of a reduction `red`, by the potentials `pot`

-- POTRED × REDtot / room, rounded down, or 0 if the room is 0; and what the rounding leaves over, in parts of the room
unfoldable pub floor_of : (ℕ → ℕ) → ℕ → ℕ → ℕ
floor_of pot red j = if eqb (of_five pot) 0 then 0 else pot j * red / of_five pot

unfoldable pub remainder : (ℕ → ℕ) → ℕ → ℕ → ℕ
remainder pot red j = if eqb (of_five pot) 0 then 0 else pot j * red % of_five pot

-- the kilowatts that the rounding leaves over
unfoldable pub left_over : (ℕ → ℕ) → ℕ → ℕ
left_over pot red = red - of_five (floor_of pot red)

abbrev pub one : Bool → ℕ
one true = 1
one false = 0

-- schedule i comes before schedule j: a larger remainder, or the same and earlier in the order
abbrev pub is_before : (ℕ → ℕ) → ℕ → ℕ → Bool
is_before rem i j = ltb (rem j) (rem i) || (eqb (rem i) (rem j) && ltb i j)

abbrev pub rank : (ℕ → ℕ) → ℕ → ℕ
rank rem j = of_five (λ i. one (is_before rem i j))

-- one kilowatt more for each of the first, as many as are left over; Rounds.antt hands them out round by round
unfoldable pub share : (ℕ → ℕ) → ℕ → ℕ → ℕ
share pot red j = floor_of pot red j + one (ltb (rank (remainder pot red) j) (left_over pot red))

-- ---- the interval's derate

-- the reduction exceeds the room for it
abbrev pub exceeds_under : DayAhead → Interval → MaybeKw → Bool
exceeds_under a v None = false
exceeds_under a v (Some limit) = ltb (of_five (pot_red a v)) (red_tot a limit.0)

-- the schedules that every later rule reads
abbrev pub reduced_by : DayAhead → Interval → MaybeKw → ℕ → ℤ
reduced_by a v None j = day_ahead a j
reduced_by a v (Some limit) j = day_ahead a j -ℤ pos (share (pot_red a v) (red_tot a limit.0) j)

unfoldable pub exceeds_room : DayAhead → Interval → Bool
exceeds_room a v = exceeds_under a v v.uol

unfoldable pub reduced : DayAhead → Interval → ℕ → ℤ
reduced a v j = reduced_by a v v.uol j
