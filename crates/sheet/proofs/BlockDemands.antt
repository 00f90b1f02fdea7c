-- The theorems of the definitions of a block: demand 3 as it speaks of texts, where a block ends, and the text of a record.
use mathlib.Core.Path.{◌≡◌, refl, sym, ◌∙◌}
use mathlib.Core.Bool.{Bool}
use mathlib.Core.List.{List, [], ◌∷◌, ◌++◌}
use mathlib.Core.Logic.{◌↔◌}
use Prim.Native.Nat.{ℕ, ◌+◌}
use lib.IntN.{ℤ}
use lib.ListN.{length, take}
use Rattle.tariff.specs.declared.Hour.{Hour}
use Rattle.tariff.specs.declared.Expected.{Expected}
use Rattle.tariff.specs.Reply.{clear, paid, refused, FORM, DERATE, REACH}
use Rattle.tariff.specs.Hour.{form, range}
use Rattle.tariff.specs.Demand.{MustPrice, price_in, FirstUnpriced, SomeUnpriced, FirstExceeded, SomeExceeded, SamePoints, Alike, Lawful, WholeHour, Extends}
use Rattle.tariff.proofs.Checks.{never_clear}
use Rattle.tariff.proofs.Demands.{
  only_needed_prices_matter,
  reach_exactly_when_unpriced,
  derate_exactly_when_exceeded,
  refused_for_reach_exactly_when_some_kilowatt_is_unpriced,
  refused_for_derate_exactly_when_some_reduction_exceeds,
  adding_curve_changes_nothing,
  form_comes_first,
}
use Rattle.lines.specs.Pieces.{PIECE}
use Rattle.curves.specs.Closed.{Closed}
use Rattle.curves.proofs.Frames.{form_when_broken}
use Rattle.blocks.specs.Block.{Block, block_of, broken, read}
use Rattle.sheet.specs.Settle.{reply_to, row_to}
use Rattle.sheet.specs.Apart.{CurvesApart}
use Rattle.sheet.specs.Print.{text_of, Plain}
use Rattle.sheet.proofs.Apart.{apart_alike, apart_broken}
use Rattle.sheet.proofs.ReadHours.{read_sound}
use Rattle.sheet.proofs.Closing.{decided, closed_or_ended, not_read}
use Rattle.sheet.proofs.ReadsBack.{text_read, read_again}

-- ---- texts whose first three lines are as printed, and that differ in lines 2 and 3 only

-- Their hours are alike in all but their curves.
pub curves_apart_are_alike : (s t : List ℕ) → CurvesApart s t → (h g : Hour) → block_of s ≡ read h → block_of t ≡ read g → Alike h g
curves_apart_are_alike = apart_alike

-- Where a line of one of them is not as printed, the same line of the other is not.
pub curves_apart_break_alike : (s t : List ℕ) → CurvesApart s t → (line : ℕ) → block_of s ≡ broken line → block_of t ≡ broken line
curves_apart_break_alike = apart_broken

-- ---- demand 3

-- Only the prices of the kilowatts between D and the limit matter, and the points that the curve is asked for: two blocks that differ in their
-- curve lines only, that no check from 1 to 4 refuses, that share the point of each eligible interval with `eop=-`, or both lack it, and whose
-- prices agree on every kilowatt that must be priced, have one reply and one row.
pub only_needed_prices_of_blocks_matter :
    (s t : List ℕ) (h g : Hour) (is_excluded : Bool) (expected : Expected) (row : List ℤ)
    → CurvesApart s t
    → block_of s ≡ read h
    → block_of t ≡ read g
    → Lawful h expected
    → Lawful g expected
    → SamePoints h g is_excluded
    → ((i : ℕ) (k : ℤ) → MustPrice h is_excluded i k → price_in h i k ≡ price_in g i k)
    → (reply_to (block_of s) is_excluded expected (length row) ≡ reply_to (block_of t) is_excluded expected (length row)) × (row_to (block_of s) is_excluded expected row ≡ row_to (block_of t) is_excluded expected row)
only_needed_prices_of_blocks_matter s t h g is_excluded expected row o x y f f' points prices =
    rw (x, y) (only_needed_prices_matter h g is_excluded expected row (curves_apart_are_alike s t o h g x y) f f' points prices)

-- REACH is given exactly when no check from 1 to 5 refuses and a kilowatt that must be priced has no price: at the first interval that
-- has one, and where no POINT and no DERATE comes first.
pub block_reach_exactly_when_unpriced :
    (s : List ℕ) (h : Hour) (is_excluded : Bool) (expected : Expected) (room i : ℕ)
    → block_of s ≡ read h
    → (reply_to (block_of s) is_excluded expected room ≡ refused REACH (i + 1)) ↔ (WholeHour h expected × FirstUnpriced h is_excluded i)
block_reach_exactly_when_unpriced s h is_excluded expected room i x = rw x (reach_exactly_when_unpriced h is_excluded expected room i)

-- DERATE is given exactly when no check from 1 to 5 refuses and the reduction of an eligible interval exceeds the room for it: at the
-- first such interval, and where no POINT and no REACH comes first.
pub block_derate_exactly_when_exceeded :
    (s : List ℕ) (h : Hour) (is_excluded : Bool) (expected : Expected) (room i : ℕ)
    → block_of s ≡ read h
    → (reply_to (block_of s) is_excluded expected room ≡ refused DERATE (i + 1)) ↔ (WholeHour h expected × FirstExceeded h is_excluded i)
block_derate_exactly_when_exceeded s h is_excluded expected room i x = rw x (derate_exactly_when_exceeded h is_excluded expected room i)

-- So a block is refused for reach exactly when no check from 1 to 5 refuses it, a kilowatt that some interval must price has no price, and
-- no point or derate refusal comes before that interval.
pub block_refused_for_reach_exactly_when_some_kilowatt_is_unpriced :
    (s : List ℕ) (h : Hour) (is_excluded : Bool) (expected : Expected) (room : ℕ)
    → block_of s ≡ read h
    → ((place : ℕ) × (reply_to (block_of s) is_excluded expected room ≡ refused REACH place)) ↔ (WholeHour h expected × SomeUnpriced h is_excluded)
block_refused_for_reach_exactly_when_some_kilowatt_is_unpriced s h is_excluded expected room x =
    rw x (refused_for_reach_exactly_when_some_kilowatt_is_unpriced h is_excluded expected room)

-- And for derate exactly when no check from 1 to 5 refuses it, the reduction of some eligible interval exceeds the room for it, and no
-- point or reach refusal comes before that interval.
pub block_refused_for_derate_exactly_when_some_reduction_exceeds :
    (s : List ℕ) (h : Hour) (is_excluded : Bool) (expected : Expected) (room : ℕ)
    → block_of s ≡ read h
    → ((place : ℕ) × (reply_to (block_of s) is_excluded expected room ≡ refused DERATE place)) ↔ (WholeHour h expected × SomeExceeded h is_excluded)
block_refused_for_derate_exactly_when_some_reduction_exceeds s h is_excluded expected room x =
    rw x (refused_for_derate_exactly_when_some_reduction_exceeds h is_excluded expected room)

-- Adding curve to a paid block never moves a cent, where the longer curves break no rule of checks 1 to 4 and leave each point that the curve
-- is asked for: with every price that its curves had, and perhaps more, it pays the same and leaves the same row.
pub adding_curve_to_a_block_changes_nothing :
    (s t : List ℕ) (h g : Hour) (is_excluded : Bool) (expected : Expected) (row : List ℤ)
    → CurvesApart s t
    → block_of s ≡ read h
    → block_of t ≡ read g
    → (sum cents : ℤ)
    → Lawful g expected
    → Extends h.da g.da
    → Extends h.rt g.rt
    → SamePoints h g is_excluded
    → reply_to (block_of s) is_excluded expected (length row) ≡ paid sum cents
    → (reply_to (block_of t) is_excluded expected (length row) ≡ paid sum cents) × (row_to (block_of t) is_excluded expected row ≡ row_to (block_of s) is_excluded expected row)
adding_curve_to_a_block_changes_nothing s t h g is_excluded expected row o x y sum cents f da rt points e =
    rw (x, y) (adding_curve_changes_nothing h g is_excluded expected row sum cents (curves_apart_are_alike s t o h g x y) f da rt points (rw x at e))

-- ---- the end of a block, and its lines

-- What stands behind an empty line never changes what a text is read as.
pub behind_the_close : (s behind : List ℕ) → Closed s → block_of (s ++ behind) ≡ block_of s
behind_the_close = not_read

-- The end of input closes a block as an empty line does.
pub the_end_closes : (front behind : List ℕ) → block_of (front ++ (10 ∷ 10 ∷ behind)) ≡ block_of (front ++ (10 ∷ []))
the_end_closes = closed_or_ended

-- FORM is given exactly when a line is not as printed, and its place is that line.
pub form_exactly_when_broken :
    (s : List ℕ) (is_excluded : Bool) (expected : Expected) (room line : ℕ)
    → (reply_to (block_of s) is_excluded expected room ≡ refused FORM line) ↔ (block_of s ≡ broken line)
form_exactly_when_broken s is_excluded expected room line =
    form_when_broken (λ (b : Block). reply_to b is_excluded expected room) (block_of s) line (λ l. refl)
    (λ h e q. never_clear (sym ((form_comes_first h is_excluded expected room line).0 q) ∙ (read_sound s h e).form))

-- ---- the text of a record

-- Every hour's record within the ranges of any day, with blanks past its counts, has a text that is read to exactly that record.
pub reads_back : (h : Hour) (expected : Expected) → form h ≡ clear → range h expected ≡ clear → Plain h → block_of (text_of h) ≡ read h
reads_back = text_read

-- So has every record in the ranges that is read.
pub reads_again : (s : List ℕ) (h : Hour) (expected : Expected) → block_of s ≡ read h → range h expected ≡ clear → block_of (text_of h) ≡ read h
reads_again = read_again

-- A block is decided by its first 10,640 bytes: a program that reads no more of a block of any length has its exact answer.
pub first_bytes_decide : (s : List ℕ) → block_of (take PIECE s) ≡ block_of s
first_bytes_decide = decided
