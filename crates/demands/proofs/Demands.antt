-- The demands, on one page: of the programs `hour`, `day` and `import`, of the block call for other programs, and of what they settle. The promises of
-- document 02's requests that are none of the three have pages of their own.
-- A text is a list of bytes, any bytes. Each demand is proved by citing what proves it; the words are the documents', in specs/ of each crate.
-- Witness.antt has small texts, and for curve that is added to a day a day of one hour, that meet the conditions, so that none is empty.
use mathlib.Core.Path.{◌≡◌, refl, sym, ◌∙◌}
use mathlib.Core.Bool.{Bool, true, false}
use mathlib.Core.List.{List, [], ◌++◌}
use mathlib.Core.Logic.{◌↔◌}
use Prim.Native.Nat.{ℕ, suc, ◌+◌, ◌*◌, ◌<◌, ◌≤◌}
use native.Mathlib.Omega.{arith}
use lib.IntN.{ℤ, pos}
use lib.ListN.{length, take, get_or}
use Rattle.exact.specs.Whole.{sum_to}
use Rattle.figures.specs.Table.{Holds, figures}
use Rattle.figures.proofs.Table.{figures_hold}
use Rattle.tariff.specs.declared.Hour.{Hour}
use Rattle.tariff.specs.declared.Expected.{Expected}
use Rattle.tariff.specs.declared.Expected.TheVariants.{Any, Says}
use Rattle.tariff.specs.Units.{cents_of}
use Rattle.tariff.specs.Reply.{paid, refused, DERATE, REACH, clear}
use Rattle.tariff.specs.Hour.{contribution}
use Rattle.tariff.specs.Eligible.{excluded}
use Rattle.tariff.specs.Demand.{MustPrice, price_in, FirstUnpriced, SomeUnpriced, FirstExceeded, SomeExceeded, SamePoints, Lawful, WholeHour, Passes, Extends}
use Rattle.tariff.specs.Import as import
use Rattle.tariff.proofs.Demands.{paid_row}
use Rattle.text.specs.Text.{bytes}
use Rattle.lines.specs.Pieces.{PIECE, rest_after, piece, is_some}
use Rattle.lines.specs.Squeezed.{squeezed}
use Rattle.intake.specs.declared.Intake.{Intake}
use Rattle.intake.specs.Intake.{PIECES, kept_of, after_all, store_all, at_first}
use Rattle.intake.specs.declared.squeeze.Squeeze.{Squeeze}
use Rattle.intake.specs.Squeeze.{squeezed_by, squeeze_after}
use Rattle.intake.proofs.Kept.{parts, room_store}
use Rattle.intake.proofs.Squeezes.{split}
use Rattle.blocks.specs.Block.{block_of, read}
use Rattle.sheet.specs.Settle.{reply_to, row_to}
use Rattle.sheet.specs.Apart.{CurvesApart}
use Rattle.curves.specs.Closed.{Closed}
use Rattle.sheet.specs.Print.{text_of}
use Rattle.spelling.specs.Spelt.{Bytes, IsText}
use Rattle.spelling.proofs.Spelling.{a_block_that_is_read_is_its_text}
use Rattle.sheet.proofs.BlockDemands.{
  only_needed_prices_of_blocks_matter,
  block_reach_exactly_when_unpriced,
  block_derate_exactly_when_exceeded,
  block_refused_for_reach_exactly_when_some_kilowatt_is_unpriced,
  block_refused_for_derate_exactly_when_some_reduction_exceeds,
  adding_curve_to_a_block_changes_nothing,
  behind_the_close,
}
use Rattle.ledger.specs.Headers.{day_said, neighbour_of}
use Rattle.ledger.specs.Day.{generator_answer, front_of, day_reply, surplus, day_total}
use Rattle.tariff.specs.Total.{total, Pays, paid_cents}
use Rattle.ledger.specs.Demand.{PricedAlike, DaysApart, BothRead}
use Rattle.ledger.proofs.SheetFront.{sheet_laws}
use Rattle.ledger.proofs.DayDemands.{
  an_hour_is_refused_for_reach_exactly_when_some_kilowatt_is_unpriced,
  an_hour_is_refused_for_derate_exactly_when_some_reduction_exceeds,
  reach_of_an_hour_exactly_when_unpriced,
  derate_of_an_hour_exactly_when_exceeded,
  the_total_is_the_sum_of_what_is_printed,
}
use Rattle.imports.specs.Import.{hours_in, import_reply}
use Rattle.imports.specs.Demand.{PaidBy}
use Rattle.imports.proofs.ImportDemands.{paid_exactly_when_unrefused}
use Rattle.printed.specs.Printed.{LONGEST, header_end, hour_text, day_text, import_text}
use Rattle.printed.proofs.Fits.{hour_fits, day_fits, import_fits}
use Rattle.sheet.proofs.settle_block.Statement as block
use Rattle.sheet.proofs.settle_block.Met as block_is
use Rattle.culvertjig.proofs.culvertjig_block.Statement as library
use Rattle.culvertjig.proofs.culvertjig_block.Met as library_is
use Rattle.printed.proofs.hour_text.Statement as hour
use Rattle.printed.proofs.hour_text.Met as hour_is
use Rattle.printed.proofs.day_text.Statement as day
use Rattle.printed.proofs.day_text.Met as day_is
use Rattle.printed.proofs.import_text.Statement as import_day
use Rattle.printed.proofs.import_text.Met as import_is
use Rattle.demands.specs.Listing.{listing}
use Rattle.demands.proofs.Blocks.{block_paid_when, row_of_a_refused}
use Rattle.demands.proofs.Printed.{lent, kept_hour, kept_page, kept_import, append_page, append_import, same_hour_lem, same_answer, days_printed_alike, curve_added_to_a_day}
use Rattle.demands.proofs.Listing.{listing_printed, short_printed}

-- ==== 1. Every sheet, good or bad, gets an answer and the program stops

-- `statement`: whatever it is lent, the call ends, and what it replies and leaves is what the `ensures` of its `pub fn` says. None has
-- a `requires`.
pub the_block_call_answers : {M : Type 1} → block.statement M
the_block_call_answers = block_is.met

-- `culvertjig_block`, which the export of that name makes: programs in C and Rust link that, and the page of the exports (crates/culvertjig_c) says the same of it.
pub the_library_call_answers : {M : Type 1} → library.statement M
the_library_call_answers = library_is.met

pub hour_answers : {M : Type 1} → hour.statement M
hour_answers = hour_is.met

pub day_answers : {M : Type 1} → day.statement M
day_answers = day_is.met

pub import_answers : {M : Type 1} → import_day.statement M
import_answers = import_is.met

-- No answer is longer than the page of 2,048 bytes that a program lends for it, so none is cut.
pub no_answer_is_cut : (s : List ℕ) → (length (hour_text s) ≤ LONGEST) × (length (day_text s) ≤ LONGEST) × (length (import_text s) ≤ LONGEST)
no_answer_is_cut s = (hour_fits s, day_fits s, import_fits s)

-- Of texts, not of reading: however long a text is, the bounded part of it that a program keeps gives the same bytes.
pub what_is_kept_decides :
    (s : List ℕ)
    → (hour_text (take PIECE s) ≡ hour_text s)
    × (day_text (kept_of (at_first PIECES) (squeezed 3 s)) ≡ day_text s)
    × (import_text (kept_of (at_first PIECES) s) ≡ import_text s)
what_is_kept_decides s = (kept_hour s, kept_page header_end 3 front_of generator_answer sheet_laws (omega arith) s, kept_import s)

-- Once a byte stands behind the last block of the day that a text says, no further byte of it changes one that `day` or `import` prints.
pub behind_the_last_block_no_byte_matters :
    (s t : List ℕ)
    → (is_some (rest_after (3 + (front_of s).hours) s) ≡ true → day_text (s ++ t) ≡ day_text s)
    × (is_some (rest_after (suc (hours_in s)) s) ≡ true → import_text (s ++ t) ≡ import_text s)
behind_the_last_block_no_byte_matters s t = (append_page header_end 3 front_of generator_answer sheet_laws s t, append_import s t)

-- What follows in a text behind the empty line that closes its first block never changes a byte of `hour`'s answer to it.
pub hour_stops_at_the_empty_line : (s behind : List ℕ) → Closed s → hour_text (s ++ behind) ≡ hour_text s
hour_stops_at_the_empty_line s behind c = same_hour_lem (s ++ behind) s (behind_the_close s behind c)

-- A text that is taken in byte by byte leaves what is kept of it in a row of 298,008 bytes or more, in whatever parts the text comes.
pub the_row_holds_what_is_kept :
    (row s : List ℕ)
    → PIECES * (PIECE + 3) + 4 ≤ length row
    → take (after_all row (at_first PIECES) s).n (store_all row (at_first PIECES) s) ≡ kept_of (at_first PIECES) s
the_row_holds_what_is_kept row s room = room_store row s PIECES room

pub no_matter_in_which_parts :
    (row a b : List ℕ) (i : Intake)
    → (after_all row i (a ++ b) ≡ after_all (store_all row i a) (after_all row i a) b) × (store_all row i (a ++ b) ≡ store_all (store_all row i a) (after_all row i a) b)
no_matter_in_which_parts row a b i = parts a b row i

pub nor_for_the_header : (state : Squeeze) (a b : List ℕ) → squeezed_by state (a ++ b) ≡ squeezed_by state a ++ squeezed_by (squeeze_after state a) b
nor_for_the_header state a b = (split a b state).0

-- A refusal leaves the lent row untouched.
pub a_refusal_leaves_the_row :
    (s : List ℕ) (is_excluded : Bool) (expected : Expected) (row : List ℤ) (number place : ℕ)
    → reply_to (block_of s) is_excluded expected (length row) ≡ refused number place
    → row_to (block_of s) is_excluded expected row ≡ row
a_refusal_leaves_the_row s = row_of_a_refused (block_of s)

-- What is accepted is what is printed: a block that is read is the printed text of its record, closed by the end or by an empty line.
pub what_is_read_is_what_is_printed : (s : List ℕ) (h : Hour) → Bytes s → block_of s ≡ read h → IsText s (text_of h)
what_is_read_is_what_is_printed = a_block_that_is_read_is_its_text

-- ==== 2. Every contribution and payment is Attachment J's, in whole units, rounded only where document 01 says

-- The figures P1 to P10, P8 as request 6 amends it.
pub the_figures_hold : Holds figures
the_figures_hold = figures_hold

-- From end to end: document 01's listing, as bytes, prints document 01's five lines, as bytes; and with `to=99999` in line 2, the refusal.
pub the_listing_prints_its_five_lines :
    hour_text (listing (bytes "100000")) ≡ bytes "i=1 grains=27000000000\ni=2 grains=72900000000\ni=3 grains=-9000000000\ni=4 grains=0\nhour=14 pay=25250\n"
the_listing_prints_its_five_lines = listing_printed

pub the_listing_cut_short_prints_its_refusal : hour_text (listing (bytes "99999")) ≡ bytes "refused=7 at=1\n"
the_listing_cut_short_prints_its_refusal = short_printed

-- An hour: it is paid exactly when its block is read and no check refuses it, with the sum of its contributions, which becomes cents once.
pub an_hour_pays_its_contributions :
    (s : List ℕ) (is_excluded : Bool) (expected : Expected) (room : ℕ) (sum cents : ℤ)
    → (reply_to (block_of s) is_excluded expected room ≡ paid sum cents)
    ↔ ((h : Hour) × (block_of s ≡ read h) × Passes h is_excluded expected room
    × (sum ≡ sum_to (contribution h is_excluded) h.n) × (cents ≡ cents_of (sum_to (contribution h is_excluded) h.n)))
an_hour_pays_its_contributions s is_excluded expected room sum cents = block_paid_when is_excluded expected room sum cents (block_of s)

-- Then the first entries of the lent row, one per interval, are their contributions, and later ones are as before.
pub a_paid_row_holds_each_contribution :
    (s : List ℕ) (h : Hour) (is_excluded : Bool) (expected : Expected) (row : List ℤ) (sum cents : ℤ)
    → block_of s ≡ read h
    → reply_to (block_of s) is_excluded expected (length row) ≡ paid sum cents
    → ((i : ℕ) → i < h.n → get_or (row_to (block_of s) is_excluded expected row) i (pos 0) ≡ contribution h is_excluded i)
    × ((i : ℕ) → h.n ≤ i → get_or (row_to (block_of s) is_excluded expected row) i (pos 0) ≡ get_or row i (pos 0))
    × (length (row_to (block_of s) is_excluded expected row) ≡ length row)
a_paid_row_holds_each_contribution s h is_excluded expected row sum cents x e = rw x (paid_row h is_excluded expected row sum cents (rw x at e))

-- A day: the cents of its hours, where every hour is paid and nothing follows the last block.
pub a_day_pays_its_hours :
    (s : List ℕ) (c : ℤ)
    → (day_total (front_of s) ≡ total c)
    ↔ (((k : ℕ) → k < (front_of s).hours → Pays (day_reply (front_of s) k))
    × (c ≡ sum_to (λ k. paid_cents (day_reply (front_of s) k)) (front_of s).hours) × (surplus (front_of s) ≡ []))
a_day_pays_its_hours s = the_total_is_the_sum_of_what_is_printed (front_of s)

-- A curtailed import: the sum of its hours' parts, which becomes cents once, where nothing refuses it.
pub an_import_pays_its_hours : (s : List ℕ) (name g c : ℤ) → (import_reply s ≡ import.paid name g c) ↔ PaidBy s name g c
an_import_pays_its_hours = paid_exactly_when_unrefused

-- ==== 3. Only the prices of the kilowatts that eligible intervals must price matter, and where `eop=-` asks the curve for its point, that point

-- Two blocks that differ in their curve lines only, that no check from 1 to 4 refuses, that in each eligible interval with `eop=-` share the
-- point or both have none, and whose prices agree on every such kilowatt, have one answer and one row, however their curves are cut into steps.
pub only_those_prices_matter :
    (s t : List ℕ) (h g : Hour) (is_excluded : Bool) (expected : Expected) (row : List ℤ)
    → CurvesApart s t
    → block_of s ≡ read h
    → block_of t ≡ read g
    → Lawful h expected
    → Lawful g expected
    → SamePoints h g is_excluded
    → ((i : ℕ) (k : ℤ) → MustPrice h is_excluded i k → price_in h i k ≡ price_in g i k)
    → (reply_to (block_of s) is_excluded expected (length row) ≡ reply_to (block_of t) is_excluded expected (length row)) × (row_to (block_of s) is_excluded expected row ≡ row_to (block_of t) is_excluded expected row)
only_those_prices_matter = only_needed_prices_of_blocks_matter

-- So `hour` prints the same bytes of them, contributions included.
pub such_blocks_are_printed_alike :
    (s t : List ℕ) (h g : Hour)
    → CurvesApart s t
    → block_of s ≡ read h
    → block_of t ≡ read g
    → Lawful h Any
    → Lawful g Any
    → SamePoints h g false
    → ((i : ℕ) (k : ℤ) → MustPrice h false i k → price_in h i k ≡ price_in g i k)
    → hour_text s ≡ hour_text t
such_blocks_are_printed_alike s t h g o x y f f' points e =
    let same = only_those_prices_matter s t h g false Any lent o x y f f' points e in same_answer s t h g o x y same.0 same.1

-- And two days of such blocks are printed alike, byte for byte.
pub such_days_are_printed_alike :
    (s t : List ℕ)
    → DaysApart (front_of s) (front_of t)
    → BothRead (front_of s) (front_of t) (λ k h j. PricedAlike h j ((front_of s).is_excluded k) (Says (pos k) (front_of s).hours))
    → day_text s ≡ day_text t
such_days_are_printed_alike s t = days_printed_alike (front_of s) (front_of t)

-- An hour is refused for reach exactly when no check from 1 to 5 refuses it, such a kilowatt has no price in some interval, and no point or
-- derate refusal comes before that interval. An interval that either refuses must price nothing.
pub refused_for_reach_exactly_when_some_interval_lacks_such_a_price :
    (s : List ℕ) (h : Hour) (is_excluded : Bool) (expected : Expected) (room : ℕ)
    → block_of s ≡ read h
    → ((place : ℕ) × (reply_to (block_of s) is_excluded expected room ≡ refused REACH place)) ↔ (WholeHour h expected × SomeUnpriced h is_excluded)
refused_for_reach_exactly_when_some_interval_lacks_such_a_price = block_refused_for_reach_exactly_when_some_kilowatt_is_unpriced

-- So is hour k of a day. It is excluded as the marks of the day's own header say, and those of its neighbours' that reach over midnight.
pub an_hour_is_excluded_as_the_marks_say :
    (s : List ℕ) (k : ℕ) → (front_of s).is_excluded k ≡ excluded (neighbour_of s) (day_said (rest_after 1 s)) (neighbour_of (rest_after 2 s)) k
an_hour_is_excluded_as_the_marks_say s k = refl

pub refused_for_reach_in_a_day_exactly_when_some_interval_lacks_such_a_price :
    (s : List ℕ)
    → (front_of s).fault ≡ clear
    → (k : ℕ) (h : Hour)
    → block_of (piece k (front_of s).body) ≡ read h
    → ((place : ℕ) × (day_reply (front_of s) k ≡ refused REACH place))
    ↔ (WholeHour h (Says (pos k) (front_of s).hours) × SomeUnpriced h ((front_of s).is_excluded k))
refused_for_reach_in_a_day_exactly_when_some_interval_lacks_such_a_price s =
    an_hour_is_refused_for_reach_exactly_when_some_kilowatt_is_unpriced (front_of s) refl

-- Its place is the first interval with such a kilowatt, from 1.
pub reach_exactly_when_such_a_kilowatt_has_no_price :
    (s : List ℕ) (h : Hour) (is_excluded : Bool) (expected : Expected) (room i : ℕ)
    → block_of s ≡ read h
    → (reply_to (block_of s) is_excluded expected room ≡ refused REACH (i + 1)) ↔ (WholeHour h expected × FirstUnpriced h is_excluded i)
reach_exactly_when_such_a_kilowatt_has_no_price = block_reach_exactly_when_unpriced

-- So in a day.
pub reach_in_a_day_exactly_when_such_a_kilowatt_has_no_price :
    (s : List ℕ)
    → (front_of s).fault ≡ clear
    → (k i : ℕ) (h : Hour)
    → block_of (piece k (front_of s).body) ≡ read h
    → (day_reply (front_of s) k ≡ refused REACH (i + 1)) ↔ (WholeHour h (Says (pos k) (front_of s).hours) × FirstUnpriced h ((front_of s).is_excluded k) i)
reach_in_a_day_exactly_when_such_a_kilowatt_has_no_price s = reach_of_an_hour_exactly_when_unpriced (front_of s) refl

-- An hour is refused for derate exactly when no check from 1 to 5 refuses it, the reduction of some eligible interval exceeds the room for
-- it, and no point or reach refusal comes before that interval. POINT has the like in PointDemands.
pub refused_for_derate_exactly_when_some_reduction_exceeds_its_room :
    (s : List ℕ) (h : Hour) (is_excluded : Bool) (expected : Expected) (room : ℕ)
    → block_of s ≡ read h
    → ((place : ℕ) × (reply_to (block_of s) is_excluded expected room ≡ refused DERATE place)) ↔ (WholeHour h expected × SomeExceeded h is_excluded)
refused_for_derate_exactly_when_some_reduction_exceeds_its_room = block_refused_for_derate_exactly_when_some_reduction_exceeds

-- So is hour k of a day.
pub refused_for_derate_in_a_day_exactly_when_some_reduction_exceeds_its_room :
    (s : List ℕ)
    → (front_of s).fault ≡ clear
    → (k : ℕ) (h : Hour)
    → block_of (piece k (front_of s).body) ≡ read h
    → ((place : ℕ) × (day_reply (front_of s) k ≡ refused DERATE place))
    ↔ (WholeHour h (Says (pos k) (front_of s).hours) × SomeExceeded h ((front_of s).is_excluded k))
refused_for_derate_in_a_day_exactly_when_some_reduction_exceeds_its_room s =
    an_hour_is_refused_for_derate_exactly_when_some_reduction_exceeds (front_of s) refl

-- Its place is the first such interval, from 1.
pub derate_exactly_when_a_reduction_exceeds_its_room :
    (s : List ℕ) (h : Hour) (is_excluded : Bool) (expected : Expected) (room i : ℕ)
    → block_of s ≡ read h
    → (reply_to (block_of s) is_excluded expected room ≡ refused DERATE (i + 1)) ↔ (WholeHour h expected × FirstExceeded h is_excluded i)
derate_exactly_when_a_reduction_exceeds_its_room = block_derate_exactly_when_exceeded

-- So in a day.
pub derate_in_a_day_exactly_when_a_reduction_exceeds_its_room :
    (s : List ℕ)
    → (front_of s).fault ≡ clear
    → (k i : ℕ) (h : Hour)
    → block_of (piece k (front_of s).body) ≡ read h
    → (day_reply (front_of s) k ≡ refused DERATE (i + 1)) ↔ (WholeHour h (Says (pos k) (front_of s).hours) × FirstExceeded h ((front_of s).is_excluded k) i)
derate_in_a_day_exactly_when_a_reduction_exceeds_its_room s = derate_of_an_hour_exactly_when_exceeded (front_of s) refl

-- Adding curve to a paid hour never moves a cent, where the longer curves break no rule of checks 1 to 4 and leave the points that they are
-- asked for.
pub adding_curve_never_moves_a_cent :
    (s t : List ℕ) (h g : Hour) (is_excluded : Bool) (expected : Expected) (row : List ℤ)
    → CurvesApart s t
    → block_of s ≡ read h
    → block_of t ≡ read g
    → (sum cents : ℤ)
    → Lawful g expected
    → Extends h.da g.da
    → Extends h.rt g.rt
    → SamePoints h g is_excluded
    → reply_to (block_of s) is_excluded expected (length row) ≡ paid sum cents
    → (reply_to (block_of t) is_excluded expected (length row) ≡ paid sum cents) × (row_to (block_of t) is_excluded expected row ≡ row_to (block_of s) is_excluded expected row)
adding_curve_never_moves_a_cent = adding_curve_to_a_block_changes_nothing

-- Every byte that `hour` prints stays.
pub adding_curve_changes_no_byte_of_an_hour :
    (s t : List ℕ) (h g : Hour)
    → CurvesApart s t
    → block_of s ≡ read h
    → block_of t ≡ read g
    → Lawful g Any
    → Extends h.da g.da
    → Extends h.rt g.rt
    → SamePoints h g false
    → Pays (reply_to (block_of s) false Any 30)
    → hour_text s ≡ hour_text t
adding_curve_changes_no_byte_of_an_hour s t h g o x y f d r points e =
    let same = adding_curve_never_moves_a_cent s t h g false Any lent o x y e.sum e.cents f d r points e.pays in
    same_answer s t h g o x y (e.pays ∙ sym same.0) (sym same.1)

-- Nor to a day whose hours are all paid: every byte that is printed stays.
pub adding_curve_to_a_day_never_moves_a_cent :
    (s t : List ℕ)
    → DaysApart (front_of s) (front_of t)
    → ((k : ℕ) → k < (front_of s).hours → Pays (day_reply (front_of s) k))
    → BothRead (front_of s) (front_of t)
    (λ k h j. Lawful j (Says (pos k) (front_of s).hours) × Extends h.da j.da × Extends h.rt j.rt × SamePoints h j ((front_of s).is_excluded k))
    → day_text s ≡ day_text t
adding_curve_to_a_day_never_moves_a_cent s t = curve_added_to_a_day (front_of s) (front_of t)
