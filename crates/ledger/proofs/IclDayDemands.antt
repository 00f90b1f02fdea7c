-- The theorems of the day of an internal controllable line: what its hours are answered, which are eligible, demand 3, and bounded memory. What
-- DayDemands says of a front and names no kind, as of its total, holds of `icl_front_of s` as it stands.
use mathlib.Core.Path.{◌≡◌, refl, sym, ap, ◌∙◌}
use mathlib.Core.Bool.{false, true}
use mathlib.Core.List.{List, [], ◌++◌}
use mathlib.Core.Logic.{◌↔◌}
use Prim.Native.Nat.{ℕ, suc, ◌+◌, ◌≤◌, ◌<◌}
use native.Mathlib.Numerals.{one-add}
use native.Mathlib.Omega.{arith}
use lib.IntN.{ℤ, pos}
use Rattle.tariff.specs.declared.IclHour.{IclHour}
use Rattle.tariff.specs.declared.Expected.TheVariants.{Says}
use Rattle.tariff.specs.Sheet.{LONGEST_DAY}
use Rattle.tariff.specs.Reply.{paid, refused, ORDER, REACH, clear}
use Rattle.tariff.specs.Checks.{range_of}
use Rattle.tariff.specs.Controllable.{icl_parts, icl_reply}
use Rattle.tariff.specs.Demand.{Extends}
use Rattle.tariff.specs.ControllableDemand.{IclFirstUnpriced, IclSomeUnpriced, IclLawful, IclWholeHour}
use Rattle.tariff.specs.Total.{Pays}
use Rattle.tariff.proofs.IclDemands.{icl_order_exactly_when_another_hour}
use Rattle.lines.specs.Pieces.{rest_after, is_some, piece}
use Rattle.lines.specs.Squeezed.{squeezed}
use Rattle.intake.specs.Intake.{kept_of, at_first}
use Rattle.header.specs.IclHeader.{icl_mark}
use Rattle.iclblocks.specs.IclBlock.{IclBlock, read, icl_block_of}
use Rattle.iclblocks.specs.IclApart.{IclCurvesApart}
use Rattle.iclblocks.proofs.IclReads.{icl_read_sound}
use Rattle.iclsheet.specs.IclSettle.{icl_reply_to}
use Rattle.iclsheet.proofs.IclBlockDemands.{icl_block_reach_exactly_when_unpriced, icl_block_refused_for_reach_exactly_when_some_kilowatt_is_unpriced}
use Rattle.ledger.specs.Day.{Front, day_reply}
use Rattle.ledger.specs.IclDay.{icl_answer, icl_front_of}
use Rattle.ledger.specs.Demand.{SettledAlike}
use Rattle.ledger.specs.IclDemand.{IclBlocksApart, IclDaysApart, IclBothRead, IclPricedAlike}
use Rattle.ledger.proofs.HourOfDay.{hour_clear, own_icl_block}
use Rattle.ledger.proofs.AnyFront.{kept_settled, append_settled}
use Rattle.ledger.proofs.IclFront.{as_marked_icl, icl_decides, icl_laws, icl_clears, icl_count, icl_marked, icl_behind}
use Rattle.ledger.proofs.IclBlocksApart.{icl_blocks_alike, icl_blocks_extended, icl_blocks_added}
use Rattle.ledger.proofs.TwoDays.{one_hour_lem, other_hour, hours_settled}

-- ---- the hours of a day

-- No line's day has more than 25.
pub no_icl_day_is_longer : (s : List ℕ) → (icl_front_of s).hours ≤ LONGEST_DAY
no_icl_day_is_longer = icl_laws.few

-- Under a header that is read an hour is eligible exactly when its digit of `mark` is 1 or 2: marked (i) or (ii).
pub an_icl_hour_is_eligible_exactly_when_marked :
    (s : List ℕ)
    → (icl_front_of s).fault ≡ clear
    → (k : ℕ)
    → k < (icl_front_of s).hours
    → ((icl_front_of s).is_excluded k ≡ false) ↔ ((1 ≤ icl_mark s k) × (icl_mark s k ≤ 2))
an_icl_hour_is_eligible_exactly_when_marked = as_marked_icl

-- An hour of a day is its block's: the answer of the block call on that block's own bytes, excluded as the header says, with its place as the
-- expected hour, and with any lent row of 30 entries or more.
pub an_icl_hour_of_a_day_is_its_blocks :
    (f : Front)
    → f.answer ≡ icl_answer
    → f.fault ≡ clear
    → (k room : ℕ)
    → 30 ≤ room
    → day_reply f k ≡ icl_reply_to (icl_block_of (piece k f.body)) (f.is_excluded k) (Says (pos k) f.hours) room
an_icl_hour_of_a_day_is_its_blocks f kind e k room h = hour_clear f e k ∙ own_icl_block f kind k room h

-- ORDER is given exactly when block k says another hour than k and its numbers are in their ranges, at 1.
pub another_icl_hour_is_order :
    (f : Front)
    → f.answer ≡ icl_answer
    → f.fault ≡ clear
    → (k : ℕ) (h : IclHour)
    → icl_block_of (piece k f.body) ≡ read h
    → (place : ℕ)
    → (day_reply f k ≡ refused ORDER place) ↔ ((range_of (icl_parts h) (Says (pos k) f.hours) ≡ clear) × (place ≡ 1) × (h.hour ≡ pos k → ⊥))
another_icl_hour_is_order f kind e k h x place =
    let own : day_reply f k ≡ icl_reply h (f.is_excluded k) (Says (pos k) f.hours) 30 =
    an_icl_hour_of_a_day_is_its_blocks f kind e k 30 (omega arith) ∙ ap (λ (b : IclBlock). icl_reply_to b (f.is_excluded k) (Says (pos k) f.hours) 30) x
    in
    let it = icl_order_exactly_when_another_hour h (f.is_excluded k) (Says (pos k) f.hours) 30 place in (
      λ d. let w = it.0 (sym own ∙ d) in (w.1, w.2, λ q. w.3.other (let a = w.3.asked in cc)),
      λ w. own ∙ it.1 (icl_read_sound _ h x, w.0, w.1, record { hour = pos k; hours = f.hours; asked = refl; other = w.2 }),
    )

-- ---- demand 3

-- REACH is given exactly when no check from 1 to 5 refuses and a kilowatt between AEI and DASI has no price in an eligible hour: at the first
-- interval that has one.
pub reach_of_an_icl_hour_exactly_when_unpriced :
    (f : Front)
    → f.answer ≡ icl_answer
    → f.fault ≡ clear
    → (k i : ℕ) (h : IclHour)
    → icl_block_of (piece k f.body) ≡ read h
    → (day_reply f k ≡ refused REACH (i + 1)) ↔ (IclWholeHour h (Says (pos k) f.hours) × IclFirstUnpriced h (f.is_excluded k) i)
reach_of_an_icl_hour_exactly_when_unpriced f kind e k i h x =
    rw (an_icl_hour_of_a_day_is_its_blocks f kind e k 30 (omega arith))
    (icl_block_reach_exactly_when_unpriced (piece k f.body) h (f.is_excluded k) (Says (pos k) f.hours) 30 i x)

-- So an hour of a day is refused for reach exactly when no check from 1 to 5 refuses it and a kilowatt that some interval must price has no
-- price.
pub an_icl_hour_is_refused_for_reach_exactly_when_some_kilowatt_is_unpriced :
    (f : Front)
    → f.answer ≡ icl_answer
    → f.fault ≡ clear
    → (k : ℕ) (h : IclHour)
    → icl_block_of (piece k f.body) ≡ read h
    → ((place : ℕ) × (day_reply f k ≡ refused REACH place)) ↔ (IclWholeHour h (Says (pos k) f.hours) × IclSomeUnpriced h (f.is_excluded k))
an_icl_hour_is_refused_for_reach_exactly_when_some_kilowatt_is_unpriced f kind e k h x =
    rw (an_icl_hour_of_a_day_is_its_blocks f kind e k 30 (omega arith))
    (icl_block_refused_for_reach_exactly_when_some_kilowatt_is_unpriced (piece k f.body) h (f.is_excluded k) (Says (pos k) f.hours) 30 x)

-- Two texts with one header, whose blocks differ in their curve lines only, are two such days.
pub icl_days_with_one_header_are_apart :
    (head body other : List ℕ)
    → (icl_front_of head).fault ≡ clear
    → (icl_front_of head).body ≡ []
    → ((k : ℕ) → k < (icl_front_of head).hours → IclBlocksApart (piece k body) (piece k other))
    → rest_after (icl_front_of head).hours body ≡ rest_after (icl_front_of head).hours other
    → IclDaysApart (icl_front_of (head ++ body)) (icl_front_of (head ++ other))
icl_days_with_one_header_are_apart head body other e alone blocks rest =
    let one = icl_count head e alone body in
    let two = icl_count head e alone other in
    record {
      one_kind = refl;
      other_kind = refl;
      one_read = icl_clears head e alone body;
      other_read_lem = icl_clears head e alone other;
      hours = one ∙ sym two;
      excluded = λ k u. icl_marked head e alone body k (rw one at u) ∙ sym (icl_marked head e alone other k (rw one at u));
      blocks = λ k u. rw (icl_behind head e alone body, icl_behind head e alone other) (blocks k (rw one at u));
      surplus =
          (λ i. rest_after (one i) (icl_behind head e alone body i)) ∙ rest ∙ (λ i. rest_after (sym two i) (sym (icl_behind head e alone other) i));
    }

-- Only the prices of the kilowatts between AEI and DASI matter: two days whose blocks differ in their curve lines only, and whose hours are the
-- same, or refused by no check from 1 to 4 and with prices that agree on every kilowatt that must be priced, have the same answers and
-- the same total.
pub only_needed_prices_of_an_icl_day_matter :
    (f g : Front)
    → IclDaysApart f g
    → IclBothRead f g (λ k h j. IclPricedAlike h j (f.is_excluded k) (Says (pos k) f.hours))
    → SettledAlike f g
only_needed_prices_of_an_icl_day_matter f g d alike =
    hours_settled icl_answer icl_decides IclCurvesApart f g d (λ k u. icl_blocks_alike _ _ _ _ (d.blocks k u) (alike k u))

-- Adding curve to a paid hour of a day never moves a cent, where the longer curves break no rule of checks 1 to 4: with every price that
-- its curves had, and perhaps more, it pays the same.
pub adding_curve_to_an_icl_hour_changes_nothing :
    (f g : Front)
    → IclDaysApart f g
    → (k : ℕ)
    → k < f.hours
    → (h j : IclHour)
    → icl_block_of (piece k f.body) ≡ read h
    → icl_block_of (piece k g.body) ≡ read j
    → IclLawful j (Says (pos k) f.hours)
    → Extends h.da j.da
    → Extends h.rt j.rt
    → (sum cents : ℤ)
    → day_reply f k ≡ paid sum cents
    → day_reply g k ≡ paid sum cents
adding_curve_to_an_icl_hour_changes_nothing f g d k u h j x y c da rt sum cents p =
    other_hour icl_answer icl_decides IclCurvesApart f g d k u
    ∙ icl_blocks_extended _ _ _ _ (d.blocks k u) h j x y sum cents (c, da, rt) (sym (one_hour_lem icl_answer icl_decides IclCurvesApart f g d k u) ∙ p)

-- So adding curve to any hours of a day whose hours are all paid changes no answer and not the total.
pub adding_curve_to_an_icl_day_changes_nothing :
    (f g : Front)
    → IclDaysApart f g
    → ((k : ℕ) → k < f.hours → Pays (day_reply f k))
    → IclBothRead f g (λ k h j. IclLawful j (Says (pos k) f.hours) × Extends h.da j.da × Extends h.rt j.rt)
    → SettledAlike f g
adding_curve_to_an_icl_day_changes_nothing f g d pays longer =
    hours_settled icl_answer icl_decides IclCurvesApart f g d
    (λ k u. icl_blocks_added _ _ _ _ (d.blocks k u) (rw (one_hour_lem icl_answer icl_decides IclCurvesApart f g d k u) at (pays k u)) (longer k u))

-- ---- bounded memory

-- A day is settled alike from what is kept of its text, of any length, as a sheet is.
pub a_kept_icl_day_is_settled_alike :
    (s : List ℕ) (pieces : ℕ)
    → (icl_front_of s).hours < pieces
    → SettledAlike (icl_front_of (kept_of (at_first pieces) (squeezed 1 s))) (icl_front_of s)
a_kept_icl_day_is_settled_alike s pieces enough = kept_settled 1 icl_front_of icl_answer icl_laws s pieces (omega arith)

-- Where a byte stands behind the last block, those that follow it settle nothing: a program may stop reading there.
pub behind_a_surplus_byte_nothing_settles_an_icl_day :
    (s t : List ℕ)
    → is_some (rest_after (suc (icl_front_of s).hours) s) ≡ true
    → SettledAlike (icl_front_of (s ++ t)) (icl_front_of s)
behind_a_surplus_byte_nothing_settles_an_icl_day s t more = append_settled 1 icl_front_of icl_answer icl_laws s t (rw (one-add (icl_front_of s).hours) more)
