-- The theorems of the definitions of an internal controllable line's block: demand 3 as it speaks of texts, and where a block ends.
use mathlib.Core.Path.{◌≡◌, refl, sym, ◌∙◌}
use mathlib.Core.Bool.{Bool}
use mathlib.Core.List.{List, [], ◌∷◌, ◌++◌}
use mathlib.Core.Logic.{◌↔◌}
use Prim.Native.Nat.{ℕ, ◌+◌}
use lib.IntN.{ℤ}
use lib.ListN.{length, take}
use Rattle.tariff.specs.declared.IclHour.{IclHour}
use Rattle.tariff.specs.declared.Expected.{Expected}
use Rattle.tariff.specs.Reply.{paid, refused, FORM, REACH}
use Rattle.tariff.specs.Demand.{Extends}
use Rattle.tariff.specs.ControllableDemand.{IclMustPrice, icl_price_in, IclFirstUnpriced, IclSomeUnpriced, IclLawful, IclWholeHour, IclAlike}
use Rattle.tariff.proofs.Checks.{never_clear}
use Rattle.tariff.proofs.IclDemands.{
  icl_only_needed_prices_matter,
  icl_reach_exactly_when_unpriced,
  icl_refused_for_reach_exactly_when_some_kilowatt_is_unpriced,
  icl_adding_curve_changes_nothing,
  icl_form_comes_first,
}
use Rattle.lines.specs.Pieces.{PIECE}
use Rattle.curves.specs.Closed.{Closed}
use Rattle.curves.proofs.Frames.{form_when_broken}
use Rattle.iclblocks.specs.IclBlock.{IclBlock, broken, read, icl_block_of}
use Rattle.iclblocks.specs.IclApart.{IclCurvesApart}
use Rattle.iclblocks.proofs.IclClosing.{icl_decided, icl_closed_or_ended, icl_not_read}
use Rattle.iclblocks.proofs.IclReads.{icl_read_sound}
use Rattle.iclblocks.proofs.IclApart.{icl_apart_alike, icl_apart_broken}
use Rattle.iclsheet.specs.IclSettle.{icl_reply_to, icl_row_to}

-- ---- texts whose first three lines are as printed, and that differ in lines 2 and 3 only

-- Their hours are alike in all but their curves.
pub icl_curves_apart_are_alike :
    (s t : List ℕ) → IclCurvesApart s t → (h g : IclHour) → icl_block_of s ≡ read h → icl_block_of t ≡ read g → IclAlike h g
icl_curves_apart_are_alike = icl_apart_alike

-- Where a line of one of them is not as printed, the same line of the other is not.
pub icl_curves_apart_break_alike : (s t : List ℕ) → IclCurvesApart s t → (line : ℕ) → icl_block_of s ≡ broken line → icl_block_of t ≡ broken line
icl_curves_apart_break_alike = icl_apart_broken

-- ---- demand 3

-- Only the prices of the kilowatts between AEI and DASI matter: two blocks that differ in their curve lines only, that no check from 1 to 4
-- refuses, and whose prices agree on every kilowatt that must be priced, have one reply and one row.
pub icl_only_needed_prices_of_blocks_matter :
    (s t : List ℕ) (h g : IclHour) (is_excluded : Bool) (expected : Expected) (row : List ℤ)
    → IclCurvesApart s t
    → icl_block_of s ≡ read h
    → icl_block_of t ≡ read g
    → IclLawful h expected
    → IclLawful g expected
    → ((i : ℕ) (k : ℤ) → IclMustPrice h is_excluded i k → icl_price_in h i k ≡ icl_price_in g i k)
    → (icl_reply_to (icl_block_of s) is_excluded expected (length row) ≡ icl_reply_to (icl_block_of t) is_excluded expected (length row)) × (icl_row_to (icl_block_of s) is_excluded expected row ≡ icl_row_to (icl_block_of t) is_excluded expected row)
icl_only_needed_prices_of_blocks_matter s t h g is_excluded expected row o x y f f' prices =
    rw (x, y) (icl_only_needed_prices_matter h g is_excluded expected row (icl_curves_apart_are_alike s t o h g x y) f f' prices)

-- REACH is given exactly when no check from 1 to 5 refuses and a kilowatt that must be priced has no price: at the first interval that has one.
pub icl_block_reach_exactly_when_unpriced :
    (s : List ℕ) (h : IclHour) (is_excluded : Bool) (expected : Expected) (room i : ℕ)
    → icl_block_of s ≡ read h
    → (icl_reply_to (icl_block_of s) is_excluded expected room ≡ refused REACH (i + 1)) ↔ (IclWholeHour h expected × IclFirstUnpriced h is_excluded i)
icl_block_reach_exactly_when_unpriced s h is_excluded expected room i x = rw x (icl_reach_exactly_when_unpriced h is_excluded expected room i)

-- So a block is refused for reach exactly when no check from 1 to 5 refuses it and a kilowatt that some interval must price has no price.
pub icl_block_refused_for_reach_exactly_when_some_kilowatt_is_unpriced :
    (s : List ℕ) (h : IclHour) (is_excluded : Bool) (expected : Expected) (room : ℕ)
    → icl_block_of s ≡ read h
    → ((place : ℕ) × (icl_reply_to (icl_block_of s) is_excluded expected room ≡ refused REACH place)) ↔ (IclWholeHour h expected × IclSomeUnpriced h is_excluded)
icl_block_refused_for_reach_exactly_when_some_kilowatt_is_unpriced s h is_excluded expected room x =
    rw x (icl_refused_for_reach_exactly_when_some_kilowatt_is_unpriced h is_excluded expected room)

-- Adding curve to a paid block never moves a cent, where the longer curves break no rule of checks 1 to 4: with every price that its
-- curves had, and perhaps more, it pays the same and leaves the same row.
pub icl_adding_curve_to_a_block_changes_nothing :
    (s t : List ℕ) (h g : IclHour) (is_excluded : Bool) (expected : Expected) (row : List ℤ)
    → IclCurvesApart s t
    → icl_block_of s ≡ read h
    → icl_block_of t ≡ read g
    → (sum cents : ℤ)
    → IclLawful g expected
    → Extends h.da g.da
    → Extends h.rt g.rt
    → icl_reply_to (icl_block_of s) is_excluded expected (length row) ≡ paid sum cents
    → (icl_reply_to (icl_block_of t) is_excluded expected (length row) ≡ paid sum cents) × (icl_row_to (icl_block_of t) is_excluded expected row ≡ icl_row_to (icl_block_of s) is_excluded expected row)
icl_adding_curve_to_a_block_changes_nothing s t h g is_excluded expected row o x y sum cents f da rt e =
    rw (x, y) (icl_adding_curve_changes_nothing h g is_excluded expected row sum cents (icl_curves_apart_are_alike s t o h g x y) f da rt (rw x at e))

-- ---- the end of a block, and its lines

-- What stands behind an empty line never changes what a text is read as.
pub icl_behind_the_close : (s behind : List ℕ) → Closed s → icl_block_of (s ++ behind) ≡ icl_block_of s
icl_behind_the_close = icl_not_read

-- The end of input closes a block as an empty line does.
pub icl_the_end_closes : (front behind : List ℕ) → icl_block_of (front ++ (10 ∷ 10 ∷ behind)) ≡ icl_block_of (front ++ (10 ∷ []))
icl_the_end_closes = icl_closed_or_ended

-- FORM is given exactly when a line is not as printed, and its place is that line.
pub icl_form_exactly_when_broken :
    (s : List ℕ) (is_excluded : Bool) (expected : Expected) (room line : ℕ)
    → (icl_reply_to (icl_block_of s) is_excluded expected room ≡ refused FORM line) ↔ (icl_block_of s ≡ broken line)
icl_form_exactly_when_broken s is_excluded expected room line =
    form_when_broken (λ (b : IclBlock). icl_reply_to b is_excluded expected room) (icl_block_of s) line (λ l. refl)
    (λ h e q. never_clear (sym ((icl_form_comes_first h is_excluded expected room line).0 q) ∙ icl_read_sound s h e))

-- A block is decided by its first 10,640 bytes: a program that reads no more of a block of any length has its exact answer.
pub icl_first_bytes_decide : (s : List ℕ) → icl_block_of (take PIECE s) ≡ icl_block_of s
icl_first_bytes_decide = icl_decided
