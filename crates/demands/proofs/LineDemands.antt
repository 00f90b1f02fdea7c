-- The demands for internal controllable lines, 25.3.5 and request 3 of document 02, on one page: of the program `line`, of the block call for
-- other programs, and of what they settle. A text is a list of bytes, any bytes. Each is proved by citing what proves it. LineWitness.antt has
-- small texts that meet the conditions of demand 3.
use mathlib.Core.Path.{◌≡◌, refl}
use mathlib.Core.Bool.{Bool, true, false}
use mathlib.Core.List.{List, [], ◌++◌}
use mathlib.Core.Logic.{◌↔◌}
use Prim.Native.Nat.{ℕ, suc, ◌+◌, ◌<◌, ◌≤◌}
use native.Mathlib.Numerals.{one-add}
use native.Mathlib.Omega.{arith}
use lib.IntN.{ℤ, pos}
use lib.ListN.{length, get_or}
use lib.Signed.{lt_z}
use Rattle.exact.specs.Whole.{sum_to}
use Rattle.figures.specs.Table.{Holds}
use Rattle.figures.specs.IclTable.{icl_figures, icl_figures_hold}
use Rattle.tariff.specs.declared.IclHour.{IclHour}
use Rattle.tariff.specs.declared.Expected.{Expected}
use Rattle.tariff.specs.declared.Expected.TheVariants.{Says}
use Rattle.tariff.specs.Units.{cents_of}
use Rattle.tariff.specs.Curve.{known, integral}
use Rattle.tariff.specs.Reply.{paid, refused, REACH, clear}
use Rattle.tariff.specs.Total.{total, Pays, paid_cents}
use Rattle.tariff.specs.Controllable.{icl_interval, icl_lower_grains, icl_upper_grains, icl_contribution}
use Rattle.tariff.specs.Demand.{Extends}
use Rattle.tariff.specs.ControllableDemand.{IclMustPrice, icl_price_in, IclFirstUnpriced, IclSomeUnpriced, IclLawful, IclWholeHour, IclPasses}
use Rattle.tariff.proofs.IclDemands.{icl_unmarked_contributes_nothing, icl_below_its_schedule, icl_at_or_above_its_schedule, icl_paid_row}
use Rattle.lines.specs.Pieces.{rest_after, piece, is_some}
use Rattle.lines.specs.Squeezed.{squeezed}
use Rattle.intake.specs.Intake.{PIECES, kept_of, at_first}
use Rattle.header.specs.IclHeader.{icl_mark}
use Rattle.iclblocks.specs.IclBlock.{read, icl_block_of}
use Rattle.iclblocks.specs.IclApart.{IclCurvesApart}
use Rattle.iclsheet.specs.IclSettle.{icl_reply_to, icl_row_to}
use Rattle.iclsheet.proofs.IclBlockDemands.{
  icl_only_needed_prices_of_blocks_matter,
  icl_block_reach_exactly_when_unpriced,
  icl_block_refused_for_reach_exactly_when_some_kilowatt_is_unpriced,
  icl_adding_curve_to_a_block_changes_nothing,
}
use Rattle.ledger.specs.Day.{day_reply, surplus, day_total}
use Rattle.ledger.specs.IclDay.{icl_answer, icl_front_of}
use Rattle.ledger.specs.IclDemand.{IclPricedAlike, IclDaysApart, IclBothRead}
use Rattle.ledger.proofs.DayDemands.{the_total_is_the_sum_of_what_is_printed}
use Rattle.ledger.proofs.IclFront.{icl_laws}
use Rattle.ledger.proofs.IclDayDemands.{
  an_icl_hour_is_eligible_exactly_when_marked,
  an_icl_hour_is_refused_for_reach_exactly_when_some_kilowatt_is_unpriced,
}
use Rattle.printed.specs.Printed.{plain_end, LONGEST, line_text}
use Rattle.printed.proofs.Fits.{line_fits}
use Rattle.iclsheet.proofs.settle_icl_block.Statement as block
use Rattle.iclsheet.proofs.settle_icl_block.Met as block_is
use Rattle.culvertjig.proofs.culvertjig_line_block.Statement as library
use Rattle.culvertjig.proofs.culvertjig_line_block.Met as library_is
use Rattle.printed.proofs.line_text.Statement as line
use Rattle.printed.proofs.line_text.Met as line_is
use Rattle.demands.proofs.Blocks.{line_paid_when, row_of_a_refused_line}
use Rattle.demands.proofs.Printed.{kept_page, append_page, line_days_printed_alike, curve_added_to_a_line_day}

-- ==== 1. Every text, good or bad, gets an answer and the program stops

-- `statement`: whatever it is lent, the call ends, and what it replies and leaves is what the `ensures` of its `pub fn` says. None has
-- a `requires`.
pub the_line_block_call_answers : {M : Type 1} → block.statement M
the_line_block_call_answers = block_is.met

-- `culvertjig_line_block`, which the export of that name makes, as the page of the exports (crates/culvertjig_c) says.
pub the_library_line_call_answers : {M : Type 1} → library.statement M
the_library_line_call_answers = library_is.met

pub line_answers : {M : Type 1} → line.statement M
line_answers = line_is.met

-- No answer is longer than the page that `line` lends for it, so none is cut.
pub no_line_answer_is_cut : (s : List ℕ) → length (line_text s) ≤ LONGEST
no_line_answer_is_cut = line_fits

-- However long a text is, the bounded part of it that the program keeps gives the same bytes.
pub what_is_kept_of_a_line_decides : (s : List ℕ) → line_text (kept_of (at_first PIECES) (squeezed 1 s)) ≡ line_text s
what_is_kept_of_a_line_decides = kept_page plain_end 1 icl_front_of icl_answer icl_laws (omega arith)

-- Once a byte stands behind the last block of the day that a text says, no further byte of it changes one that is printed.
pub behind_the_last_block_of_a_line_no_byte_matters :
    (s t : List ℕ) → is_some (rest_after (suc (icl_front_of s).hours) s) ≡ true → line_text (s ++ t) ≡ line_text s
behind_the_last_block_of_a_line_no_byte_matters s t more = append_page plain_end 1 icl_front_of icl_answer icl_laws s t (rw (one-add (icl_front_of s).hours) more)

-- A refusal leaves the lent row untouched.
pub a_refused_line_leaves_the_row :
    (s : List ℕ) (is_excluded : Bool) (expected : Expected) (row : List ℤ) (number place : ℕ)
    → icl_reply_to (icl_block_of s) is_excluded expected (length row) ≡ refused number place
    → icl_row_to (icl_block_of s) is_excluded expected row ≡ row
a_refused_line_leaves_the_row s = row_of_a_refused_line (icl_block_of s)

-- ==== 2. Every contribution and payment is 25.3.5's, in whole units, rounded only where document 01 says

-- The figures that were worked by hand.
pub the_line_figures_hold : Holds icl_figures
the_line_figures_hold = icl_figures_hold

-- An hour is eligible exactly when it is marked (i), by a 1, or (ii), by a 2;
pub a_line_hour_is_eligible_exactly_when_marked :
    (s : List ℕ)
    → (icl_front_of s).fault ≡ clear
    → (k : ℕ)
    → k < (icl_front_of s).hours
    → ((icl_front_of s).is_excluded k ≡ false) ↔ ((1 ≤ icl_mark s k) × (icl_mark s k ≤ 2))
a_line_hour_is_eligible_exactly_when_marked = an_icl_hour_is_eligible_exactly_when_marked

-- in any other no interval contributes.
pub an_unmarked_line_contributes_nothing : (h : IclHour) (i : ℕ) → icl_contribution h true i ≡ pos 0
an_unmarked_line_contributes_nothing = icl_unmarked_contributes_nothing

-- Those of an eligible one, by their real-time schedule: below DASI, less what the day-ahead curve costs from AEI to DASI;
pub below_its_schedule_a_line_gives :
    (h : IclHour) (i : ℕ) (cost : ℤ)
    → lt_z (icl_interval h i).en.0 h.dasi.0 ≡ true
    → integral h.da (icl_interval h i).aei.0 h.dasi.0 ≡ known cost
    → icl_contribution h false i ≡ icl_lower_grains h.dasi h.dasw (icl_interval h i) cost
below_its_schedule_a_line_gives = icl_below_its_schedule

-- at it or above, with what the real-time curve costs from DASI to AEI, and the whole capped at 0.
pub at_or_above_its_schedule_a_line_gives :
    (h : IclHour) (i : ℕ) (cost : ℤ)
    → lt_z (icl_interval h i).en.0 h.dasi.0 ≡ false
    → integral h.rt h.dasi.0 (icl_interval h i).aei.0 ≡ known cost
    → icl_contribution h false i ≡ icl_upper_grains h.dasi h.dasw (icl_interval h i) cost
at_or_above_its_schedule_a_line_gives = icl_at_or_above_its_schedule

-- An hour is paid exactly when its block is read and no check refuses it, with the sum of its contributions, which becomes cents once.
pub a_line_hour_pays_its_contributions :
    (s : List ℕ) (is_excluded : Bool) (expected : Expected) (room : ℕ) (sum cents : ℤ)
    → (icl_reply_to (icl_block_of s) is_excluded expected room ≡ paid sum cents)
    ↔ ((h : IclHour) × (icl_block_of s ≡ read h) × IclPasses h is_excluded expected room
    × (sum ≡ sum_to (icl_contribution h is_excluded) h.n) × (cents ≡ cents_of (sum_to (icl_contribution h is_excluded) h.n)))
a_line_hour_pays_its_contributions s is_excluded expected room sum cents = line_paid_when is_excluded expected room sum cents (icl_block_of s)

-- Then the first entries of the lent row, one per interval, are their contributions, and later ones are as before.
pub a_paid_line_row_holds_each_contribution :
    (s : List ℕ) (h : IclHour) (is_excluded : Bool) (expected : Expected) (row : List ℤ) (sum cents : ℤ)
    → icl_block_of s ≡ read h
    → icl_reply_to (icl_block_of s) is_excluded expected (length row) ≡ paid sum cents
    → ((i : ℕ) → i < h.n → get_or (icl_row_to (icl_block_of s) is_excluded expected row) i (pos 0) ≡ icl_contribution h is_excluded i)
    × ((i : ℕ) → h.n ≤ i → get_or (icl_row_to (icl_block_of s) is_excluded expected row) i (pos 0) ≡ get_or row i (pos 0))
    × (length (icl_row_to (icl_block_of s) is_excluded expected row) ≡ length row)
a_paid_line_row_holds_each_contribution s h is_excluded expected row sum cents x e = rw x (icl_paid_row h is_excluded expected row sum cents (rw x at e))

-- A day: the cents of its hours, where every hour is paid and nothing follows the last block.
pub a_line_day_pays_its_hours :
    (s : List ℕ) (c : ℤ)
    → (day_total (icl_front_of s) ≡ total c)
    ↔ (((k : ℕ) → k < (icl_front_of s).hours → Pays (day_reply (icl_front_of s) k))
    × (c ≡ sum_to (λ k. paid_cents (day_reply (icl_front_of s) k)) (icl_front_of s).hours) × (surplus (icl_front_of s) ≡ []))
a_line_day_pays_its_hours s = the_total_is_the_sum_of_what_is_printed (icl_front_of s)

-- ==== 3. Only the prices of the kilowatts between AEI and DASI, on the curve of the branch that is taken, matter

-- Two blocks that differ in their curve lines only, that no check from 1 to 4 refuses, and whose prices agree on every such kilowatt
-- have one answer and one row, however their curves are cut into steps.
pub only_those_prices_of_a_line_matter :
    (s t : List ℕ) (h g : IclHour) (is_excluded : Bool) (expected : Expected) (row : List ℤ)
    → IclCurvesApart s t
    → icl_block_of s ≡ read h
    → icl_block_of t ≡ read g
    → IclLawful h expected
    → IclLawful g expected
    → ((i : ℕ) (k : ℤ) → IclMustPrice h is_excluded i k → icl_price_in h i k ≡ icl_price_in g i k)
    → (icl_reply_to (icl_block_of s) is_excluded expected (length row) ≡ icl_reply_to (icl_block_of t) is_excluded expected (length row))
    × (icl_row_to (icl_block_of s) is_excluded expected row ≡ icl_row_to (icl_block_of t) is_excluded expected row)
only_those_prices_of_a_line_matter = icl_only_needed_prices_of_blocks_matter

-- And two days of such blocks are printed alike, byte for byte.
pub such_line_days_are_printed_alike :
    (s t : List ℕ)
    → IclDaysApart (icl_front_of s) (icl_front_of t)
    → IclBothRead (icl_front_of s) (icl_front_of t) (λ k h j. IclPricedAlike h j ((icl_front_of s).is_excluded k) (Says (pos k) (icl_front_of s).hours))
    → line_text s ≡ line_text t
such_line_days_are_printed_alike s t = line_days_printed_alike (icl_front_of s) (icl_front_of t)

-- An hour is refused for reach exactly when no check from 1 to 5 refuses it and such a kilowatt has no price in some interval.
pub a_line_is_refused_for_reach_exactly_when_some_interval_lacks_such_a_price :
    (s : List ℕ) (h : IclHour) (is_excluded : Bool) (expected : Expected) (room : ℕ)
    → icl_block_of s ≡ read h
    → ((place : ℕ) × (icl_reply_to (icl_block_of s) is_excluded expected room ≡ refused REACH place)) ↔ (IclWholeHour h expected × IclSomeUnpriced h is_excluded)
a_line_is_refused_for_reach_exactly_when_some_interval_lacks_such_a_price =
    icl_block_refused_for_reach_exactly_when_some_kilowatt_is_unpriced

-- So is hour k of a day.
pub a_line_is_refused_for_reach_in_a_day_exactly_when_some_interval_lacks_such_a_price :
    (s : List ℕ)
    → (icl_front_of s).fault ≡ clear
    → (k : ℕ) (h : IclHour)
    → icl_block_of (piece k (icl_front_of s).body) ≡ read h
    → ((place : ℕ) × (day_reply (icl_front_of s) k ≡ refused REACH place))
    ↔ (IclWholeHour h (Says (pos k) (icl_front_of s).hours) × IclSomeUnpriced h ((icl_front_of s).is_excluded k))
a_line_is_refused_for_reach_in_a_day_exactly_when_some_interval_lacks_such_a_price s =
    an_icl_hour_is_refused_for_reach_exactly_when_some_kilowatt_is_unpriced (icl_front_of s) refl

-- Its place is the first interval with such a kilowatt, from 1.
pub reach_of_a_line_exactly_when_such_a_kilowatt_has_no_price :
    (s : List ℕ) (h : IclHour) (is_excluded : Bool) (expected : Expected) (room i : ℕ)
    → icl_block_of s ≡ read h
    → (icl_reply_to (icl_block_of s) is_excluded expected room ≡ refused REACH (i + 1)) ↔ (IclWholeHour h expected × IclFirstUnpriced h is_excluded i)
reach_of_a_line_exactly_when_such_a_kilowatt_has_no_price = icl_block_reach_exactly_when_unpriced

-- Adding curve to a paid hour never moves a cent, where the longer curves break no rule of checks 1 to 4.
pub adding_curve_to_a_line_never_moves_a_cent :
    (s t : List ℕ) (h g : IclHour) (is_excluded : Bool) (expected : Expected) (row : List ℤ)
    → IclCurvesApart s t
    → icl_block_of s ≡ read h
    → icl_block_of t ≡ read g
    → (sum cents : ℤ)
    → IclLawful g expected
    → Extends h.da g.da
    → Extends h.rt g.rt
    → icl_reply_to (icl_block_of s) is_excluded expected (length row) ≡ paid sum cents
    → (icl_reply_to (icl_block_of t) is_excluded expected (length row) ≡ paid sum cents)
    × (icl_row_to (icl_block_of t) is_excluded expected row ≡ icl_row_to (icl_block_of s) is_excluded expected row)
adding_curve_to_a_line_never_moves_a_cent = icl_adding_curve_to_a_block_changes_nothing

-- Nor to a day whose hours are all paid: every byte that is printed stays.
pub adding_curve_to_a_line_day_never_moves_a_cent :
    (s t : List ℕ)
    → IclDaysApart (icl_front_of s) (icl_front_of t)
    → ((k : ℕ) → k < (icl_front_of s).hours → Pays (day_reply (icl_front_of s) k))
    → IclBothRead (icl_front_of s) (icl_front_of t) (λ k h j. IclLawful j (Says (pos k) (icl_front_of s).hours) × Extends h.da j.da × Extends h.rt j.rt)
    → line_text s ≡ line_text t
adding_curve_to_a_line_day_never_moves_a_cent s t = curve_added_to_a_line_day (icl_front_of s) (icl_front_of t)
