-- The theorems of the definitions of a day: what its hours are answered, demand 3, the total, and bounded memory. Those of a `Front` hold of every
-- input's, `front_of s`; where no kind is named they hold of every kind's. What its headers and their marks say is in MidnightDemands.
use mathlib.Core.Path.{◌≡◌, refl, sym, ap, ◌∙◌}
use mathlib.Core.Bool.{true}
use mathlib.Core.List.{List, [], ◌∷◌, ◌++◌}
use mathlib.Core.Logic.{◌↔◌}
use Prim.Native.Nat.{ℕ, ◌+◌, ◌≤◌, ◌<◌}
use native.Mathlib.Omega.{arith}
use lib.IntN.{ℤ, pos}
use Rattle.exact.specs.Whole.{sum_to}
use Rattle.exact.proofs.Parts.{true-eq_z}
use Rattle.tariff.specs.declared.Hour.{Hour}
use Rattle.tariff.specs.declared.Expected.TheVariants.{Any, Says}
use Rattle.tariff.specs.Sheet.{LONGEST_DAY}
use Rattle.tariff.specs.Reply.{paid, refused, ORDER, DERATE, REACH, clear, fault}
use Rattle.tariff.specs.Outcome.{reply_by}
use Rattle.tariff.specs.Checks.{range_in, order_in}
use Rattle.tariff.specs.Hour.{range, reply}
use Rattle.tariff.specs.Demand.{FirstUnpriced, SomeUnpriced, FirstExceeded, SomeExceeded, SamePoints, Lawful, WholeHour, Extends}
use Rattle.tariff.specs.Total.{total, no_total, total_of, Pays, paid_cents}
use Rattle.tariff.proofs.Demands.{order_exactly_when_another_hour}
use Rattle.tariff.proofs.Totals.{total_paid, total_refused, total_surplus}
use Rattle.tariff.proofs.Counts.{own_hour}
use Rattle.lines.specs.Pieces.{rest_after, is_some, piece}
use Rattle.lines.specs.Squeezed.{squeezed}
use Rattle.intake.specs.Intake.{kept_of, at_first}
use Rattle.blocks.specs.Block.{block_of, read}
use Rattle.sheet.specs.Settle.{reply_to}
use Rattle.sheet.specs.Apart.{CurvesApart}
use Rattle.sheet.proofs.ReadHours.{read_sound}
use Rattle.sheet.proofs.BlockDemands.{
  block_reach_exactly_when_unpriced,
  block_derate_exactly_when_exceeded,
  block_refused_for_reach_exactly_when_some_kilowatt_is_unpriced,
  block_refused_for_derate_exactly_when_some_reduction_exceeds,
}
use Rattle.ledger.specs.Day.{generator_answer, Front, front_of, day_reply, surplus, day_total}
use Rattle.ledger.specs.Demand.{SettledAlike, BlocksApart, PricedAlike, DaysApart, BothRead}
use Rattle.ledger.proofs.HourOfDay.{refused_hour, hour_clear, own_block, read_reply, nothing_left}
use Rattle.ledger.proofs.SheetFront.{generator_decides, sheet_laws}
use Rattle.ledger.proofs.FrontAlone.{front_stays, front_behind}
use Rattle.ledger.proofs.AnyFront.{kept_settled, append_settled}
use Rattle.ledger.proofs.BlocksApart.{blocks_alike, blocks_extended, blocks_added}
use Rattle.ledger.proofs.TwoDays.{one_hour_lem, other_hour, hours_settled}

-- ---- the hours of a day

-- No day has more than 25.
pub no_day_is_longer : (s : List ℕ) → (front_of s).hours ≤ LONGEST_DAY
no_day_is_longer = sheet_laws.few

-- A refused header refuses every hour, with its own number and place.
pub a_refused_header_refuses_every_hour :
    (f : Front) (number place : ℕ)
    → f.fault ≡ fault number place
    → (k : ℕ)
    → day_reply f k ≡ refused number place
a_refused_header_refuses_every_hour = refused_hour

-- An hour of a day is its block's: the answer of the block call on that block's own bytes, excluded as the day's front says, with its
-- place as the expected hour, and with any lent row of 30 entries or more.
pub an_hour_of_a_day_is_its_blocks :
    (f : Front)
    → f.answer ≡ generator_answer
    → f.fault ≡ clear
    → (k room : ℕ)
    → 30 ≤ room
    → day_reply f k ≡ reply_to (block_of (piece k f.body)) (f.is_excluded k) (Says (pos k) f.hours) room
an_hour_of_a_day_is_its_blocks f kind e k room h = hour_clear f e k ∙ own_block f kind k room h

-- ORDER is given exactly when block k says another hour than k and its numbers are in their ranges, at 1.
pub another_hour_is_order :
    (f : Front)
    → f.answer ≡ generator_answer
    → f.fault ≡ clear
    → (k : ℕ) (h : Hour)
    → block_of (piece k f.body) ≡ read h
    → (place : ℕ)
    → (day_reply f k ≡ refused ORDER place) ↔ ((range h (Says (pos k) f.hours) ≡ clear) × (place ≡ 1) × (h.hour ≡ pos k → ⊥))
another_hour_is_order f kind e k h x place =
    let own = read_reply f kind e k h x in
    let it = order_exactly_when_another_hour h (f.is_excluded k) (Says (pos k) f.hours) 30 place in (
      λ d. let w = it.0 (sym own ∙ d) in (w.1, w.2, λ q. w.3.other (let a = w.3.asked in cc)),
      λ w. own ∙ it.1 ((read_sound _ h x).form, w.0, w.1, record { hour = pos k; hours = f.hours; asked = refl; other = w.2 }),
    )

-- A block that says the hour of its place is answered as where any hour may be said.
pub its_own_hour_is_as_any :
    (f : Front)
    → f.answer ≡ generator_answer
    → f.fault ≡ clear
    → f.hours ≤ LONGEST_DAY
    → (k : ℕ) (h : Hour)
    → k < f.hours
    → block_of (piece k f.body) ≡ read h
    → h.hour ≡ pos k
    → day_reply f k ≡ reply h (f.is_excluded k) Any 30
unfolding reply_by range_in order_in
its_own_hour_is_as_any f kind e few k h u x own =
    read_reply f kind e k h x ∙ rw (true-eq_z h.hour (pos k) own, own, own_hour f.hours k u few, own_hour LONGEST_DAY k (omega arith) (omega arith))

-- ---- demand 3

-- REACH is given exactly when no check from 1 to 5 refuses and a kilowatt that must be priced has no price: at the first interval that
-- has one, and where no POINT and no DERATE comes first.
pub reach_of_an_hour_exactly_when_unpriced :
    (f : Front)
    → f.answer ≡ generator_answer
    → f.fault ≡ clear
    → (k i : ℕ) (h : Hour)
    → block_of (piece k f.body) ≡ read h
    → (day_reply f k ≡ refused REACH (i + 1)) ↔ (WholeHour h (Says (pos k) f.hours) × FirstUnpriced h (f.is_excluded k) i)
reach_of_an_hour_exactly_when_unpriced f kind e k i h x =
    rw (an_hour_of_a_day_is_its_blocks f kind e k 30 (omega arith))
    (block_reach_exactly_when_unpriced (piece k f.body) h (f.is_excluded k) (Says (pos k) f.hours) 30 i x)

-- So an hour of a day is refused for reach exactly when no check from 1 to 5 refuses it, a kilowatt that some interval must price has no
-- price, and no point or derate refusal comes before that interval.
pub an_hour_is_refused_for_reach_exactly_when_some_kilowatt_is_unpriced :
    (f : Front)
    → f.answer ≡ generator_answer
    → f.fault ≡ clear
    → (k : ℕ) (h : Hour)
    → block_of (piece k f.body) ≡ read h
    → ((place : ℕ) × (day_reply f k ≡ refused REACH place)) ↔ (WholeHour h (Says (pos k) f.hours) × SomeUnpriced h (f.is_excluded k))
an_hour_is_refused_for_reach_exactly_when_some_kilowatt_is_unpriced f kind e k h x =
    rw (an_hour_of_a_day_is_its_blocks f kind e k 30 (omega arith))
    (block_refused_for_reach_exactly_when_some_kilowatt_is_unpriced (piece k f.body) h (f.is_excluded k) (Says (pos k) f.hours) 30 x)

-- And for derate exactly when no check from 1 to 5 refuses it, the reduction of some eligible interval exceeds the room for it, and no
-- point or reach refusal comes before that interval.
pub an_hour_is_refused_for_derate_exactly_when_some_reduction_exceeds :
    (f : Front)
    → f.answer ≡ generator_answer
    → f.fault ≡ clear
    → (k : ℕ) (h : Hour)
    → block_of (piece k f.body) ≡ read h
    → ((place : ℕ) × (day_reply f k ≡ refused DERATE place)) ↔ (WholeHour h (Says (pos k) f.hours) × SomeExceeded h (f.is_excluded k))
an_hour_is_refused_for_derate_exactly_when_some_reduction_exceeds f kind e k h x =
    rw (an_hour_of_a_day_is_its_blocks f kind e k 30 (omega arith))
    (block_refused_for_derate_exactly_when_some_reduction_exceeds (piece k f.body) h (f.is_excluded k) (Says (pos k) f.hours) 30 x)

-- Its place is the first such interval, where no POINT and no REACH comes first.
pub derate_of_an_hour_exactly_when_exceeded :
    (f : Front)
    → f.answer ≡ generator_answer
    → f.fault ≡ clear
    → (k i : ℕ) (h : Hour)
    → block_of (piece k f.body) ≡ read h
    → (day_reply f k ≡ refused DERATE (i + 1)) ↔ (WholeHour h (Says (pos k) f.hours) × FirstExceeded h (f.is_excluded k) i)
derate_of_an_hour_exactly_when_exceeded f kind e k i h x =
    rw (an_hour_of_a_day_is_its_blocks f kind e k 30 (omega arith))
    (block_derate_exactly_when_exceeded (piece k f.body) h (f.is_excluded k) (Says (pos k) f.hours) 30 i x)

-- Two days with the same headers, whose blocks differ in their curve lines only, are two such days.
pub days_with_the_same_headers_are_apart :
    (heads body other : List ℕ)
    → (front_of heads).fault ≡ clear
    → (front_of heads).body ≡ []
    → ((k : ℕ) → k < (front_of heads).hours → BlocksApart (piece k body) (piece k other))
    → rest_after (front_of heads).hours body ≡ rest_after (front_of heads).hours other
    → DaysApart (front_of (heads ++ body)) (front_of (heads ++ other))
days_with_the_same_headers_are_apart heads body other e alone blocks rest =
    let one = front_stays heads e body in
    let two = front_stays heads e other in
    let behind-one = front_behind heads e body alone in
    let behind-two = front_behind heads e other alone in
    record {
      one_kind = refl;
      other_kind = refl;
      one_read = one.fault ∙ e;
      other_read_lem = two.fault ∙ e;
      hours = one.hours ∙ sym two.hours;
      excluded = λ k u. one.is_excluded k (rw one.hours at u) ∙ sym (two.is_excluded k (rw one.hours at u));
      blocks = λ k u. rw (behind-one, behind-two) (blocks k (rw one.hours at u));
      surplus = (λ i. rest_after (one.hours i) (behind-one i)) ∙ rest ∙ (λ i. rest_after (sym two.hours i) (sym behind-two i));
    }

-- Only the prices of the kilowatts between D and the limit matter, and the points that the curve is asked for: two days whose blocks differ in
-- their curve lines only, and whose hours are the same, or refused by no check from 1 to 4, with the same points and with prices that agree on
-- every kilowatt that must be priced, have the same answers and the same total.
pub only_needed_prices_of_a_day_matter :
    (f g : Front)
    → DaysApart f g
    → BothRead f g (λ k h j. PricedAlike h j (f.is_excluded k) (Says (pos k) f.hours))
    → SettledAlike f g
only_needed_prices_of_a_day_matter f g d alike = hours_settled generator_answer generator_decides CurvesApart f g d (λ k u. blocks_alike _ _ _ _ (d.blocks k u) (alike k u))

-- Adding curve to a paid hour of a day never moves a cent, where the longer curves break no rule of checks 1 to 4 and leave each point that the
-- curve is asked for: with every price that its curves had, and perhaps more, it pays the same.
pub adding_curve_to_an_hour_changes_nothing :
    (f g : Front)
    → DaysApart f g
    → (k : ℕ)
    → k < f.hours
    → (h j : Hour)
    → block_of (piece k f.body) ≡ read h
    → block_of (piece k g.body) ≡ read j
    → Lawful j (Says (pos k) f.hours)
    → Extends h.da j.da
    → Extends h.rt j.rt
    → SamePoints h j (f.is_excluded k)
    → (sum cents : ℤ)
    → day_reply f k ≡ paid sum cents
    → day_reply g k ≡ paid sum cents
adding_curve_to_an_hour_changes_nothing f g d k u h j x y c da rt points sum cents p =
    other_hour generator_answer generator_decides CurvesApart f g d k u
    ∙ blocks_extended _ _ _ _ (d.blocks k u) h j x y sum cents (c, da, rt, points) (sym (one_hour_lem generator_answer generator_decides CurvesApart f g d k u) ∙ p)

-- So adding curve to any hours of a day whose hours are all paid changes no answer and not the total.
pub adding_curve_to_a_day_changes_nothing :
    (f g : Front)
    → DaysApart f g
    → ((k : ℕ) → k < f.hours → Pays (day_reply f k))
    → BothRead f g (λ k h j. Lawful j (Says (pos k) f.hours) × Extends h.da j.da × Extends h.rt j.rt × SamePoints h j (f.is_excluded k))
    → SettledAlike f g
adding_curve_to_a_day_changes_nothing f g d pays longer =
    hours_settled generator_answer generator_decides CurvesApart f g d
    (λ k u. blocks_added _ _ _ _ (d.blocks k u) (rw (one_hour_lem generator_answer generator_decides CurvesApart f g d k u) at (pays k u)) (longer k u))

-- ---- the total

-- A total is given exactly when every hour is paid and no byte follows the last block, and it is the sum of the cents that are printed.
pub the_total_is_the_sum_of_what_is_printed :
    (f : Front) (c : ℤ)
    → (day_total f ≡ total c)
    ↔ (((k : ℕ) → k < f.hours → Pays (day_reply f k)) × (c ≡ sum_to (λ k. paid_cents (day_reply f k)) f.hours) × (surplus f ≡ []))
the_total_is_the_sum_of_what_is_printed f c =
    let it = total_paid (day_reply f) f.hours (is_some (surplus f)) c in
    (λ e. let p = it.0 e in (p.0, p.1, nothing_left (surplus f) p.2), λ p. it.1 (p.0, p.1, ap is_some p.2))

-- A refused hour withholds the total.
pub a_refused_hour_withholds_the_total :
    (f : Front) (k number place : ℕ)
    → k < f.hours
    → day_reply f k ≡ refused number place
    → day_total f ≡ no_total
a_refused_hour_withholds_the_total f k number place = total_refused (day_reply f) f.hours k number place (is_some (surplus f))

-- So does a byte behind the last block.
pub what_follows_withholds_the_total : (f : Front) (b : ℕ) (t : List ℕ) → surplus f ≡ b ∷ t → day_total f ≡ no_total
what_follows_withholds_the_total f b t e = ap (λ (l : List ℕ). total_of (day_reply f) f.hours (is_some l)) e ∙ total_surplus (day_reply f) f.hours

-- ---- bounded memory

-- A day is settled alike from what is kept of its input, of any length: the three headers, with 32 digits of a longer run, and each block up to its
-- first bytes and its empty line, and a byte of what follows; and of no matter how many pieces more than the input has.
pub a_kept_day_is_settled_alike :
    (s : List ℕ) (pieces : ℕ)
    → (front_of s).hours + 3 ≤ pieces
    → SettledAlike (front_of (kept_of (at_first pieces) (squeezed 3 s))) (front_of s)
a_kept_day_is_settled_alike = kept_settled 3 front_of generator_answer sheet_laws

-- Where a byte stands behind the last block, those that follow it settle nothing: a program may stop reading there.
pub behind_a_surplus_byte_nothing_settles :
    (s t : List ℕ)
    → is_some (rest_after (3 + (front_of s).hours) s) ≡ true
    → SettledAlike (front_of (s ++ t)) (front_of s)
behind_a_surplus_byte_nothing_settles = append_settled 3 front_of generator_answer sheet_laws
