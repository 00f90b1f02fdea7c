-- Inputs that request 5's page speaks of: hours that the day before excludes, a neighbour that refuses the day and is named, neighbours that differ in
-- their categories, and a sheet that moves beside another.
use mathlib.Core.Path.{◌≡◌, refl}
use mathlib.Core.Bool.{true, false}
use mathlib.Core.List.{List, ◌++◌}
use Prim.Native.Nat.{ℕ, ◌+◌}
use lib.ListN.{replicate}
use Rattle.tariff.specs.Reply.{RANGE, clear}
use Rattle.text.specs.Text.{ZERO, bytes}
use Rattle.text.specs.Decimal.{natural}
use Rattle.lines.specs.Pieces.{rest_after, first_piece}
use Rattle.marks.specs.Alone.{excluded_alone}
use Rattle.header.specs.Header.{header_fault}
use Rattle.ledger.specs.Headers.{day_said}
use Rattle.ledger.specs.Day.{front_of}
use Rattle.ledger.specs.Stored.{lacking, day_input}
use Rattle.ledger.specs.Midnight.{Refuses}
use Rattle.ledger.proofs.MidnightDemands.{an_empty_line_is_one_piece}
use Rattle.archive.specs.declared.Way.TheVariants.{Up}
use Rattle.archive.specs.Examples.{one, two, goes_up}
use Rattle.printed.specs.Printed.{day_text}
use Rattle.demands.specs.Small.{header}
use Rattle.demands.proofs.Opened.{cutting, judging}
use Rattle.demands.proofs.NeighbourDemands.{a_refused_header_is_named, cat_and_x1_to_x3_of_a_neighbour_change_no_byte, a_moved_neighbour_is_printed_alike}

-- ---- a day of 25 hours, with x4 in its last hour and one digit of `cat` in each, before the small day of 23, which has no exception

abbrev before : (unit : List ℕ) → (cat : ℕ) → List ℕ
before unit cat = bytes "form=2\nhours=25\nunit=" ++ unit ++ bytes "\nrtc=0\ncat=" ++ replicate 25 cat
    ++ bytes "\nx1=0000000000000000000000000\nx2=0000000000000000000000000\nx3=0000000000000000000000000\n"
    ++ bytes "x4=0000000000000000000000001\nx5=0000000000000000000000000\nx6=0000000000000000000000000\n\n"

abbrev days : (unit : List ℕ) → (cat : ℕ) → List ℕ
days unit cat = before unit cat ++ header ++ bytes "\n"

-- without a category and of category (i)
abbrev without : List ℕ
without = days (bytes "1") ZERO

abbrev within : List ℕ
within = days (bytes "1") (ZERO + 1)

-- its marks reach over midnight, though its own hours have no category
pub these_hours_are_excluded_by_the_day_before :
    ((front_of without).fault ≡ clear)
    × ((front_of without).is_excluded 0 ≡ true)
    × ((front_of without).is_excluded 1 ≡ true)
    × ((front_of without).is_excluded 2 ≡ false)
    × (excluded_alone (day_said (rest_after 1 without)) 0 ≡ false)
unfolding judging cutting excluded_alone
these_hours_are_excluded_by_the_day_before = (refl, refl, refl, refl, refl)

-- and its categories change nothing
pub these_categories_change_no_byte : day_text without ≡ day_text within
unfolding judging cutting
these_categories_change_no_byte =
    cat_and_x1_to_x3_of_a_neighbour_change_no_byte without within
    (record {
      blocks = record { one_read = refl; other_read_lem = refl; hours = refl; body = refl };
      own = refl;
      before = (refl, record { rtc = refl; x4 = refl; x5 = refl; x6 = refl });
      after = (refl, record { rtc = refl; x4 = refl; x5 = refl; x6 = refl });
    })

-- of another unit it refuses the day
this_neighbour_refuses : Refuses (days (bytes "2") ZERO) 0 RANGE 3
unfolding judging cutting
this_neighbour_refuses = (refl, refl)

pub this_refusal_names_its_header : day_text (days (bytes "2") ZERO) ≡ bytes "refused=2 at=3 header=0\n"
unfolding natural
this_refusal_names_its_header = a_refused_header_is_named (days (bytes "2") ZERO) 0 RANGE 3 this_neighbour_refuses

-- ---- a sheet that moves up, beside another of its unit

read : header_fault one ≡ clear
unfolding judging
read = refl

pub this_moved_neighbour_is_printed_alike :
    (day_text (day_input (first_piece one) one lacking) ≡ day_text (day_input (first_piece two) one lacking))
    × (day_text (day_input lacking one (first_piece one)) ≡ day_text (day_input lacking one (first_piece two)))
this_moved_neighbour_is_printed_alike =
    let alike = a_moved_neighbour_is_printed_alike Up one two goes_up one read refl in
    (alike.0 lacking an_empty_line_is_one_piece, alike.1 lacking an_empty_line_is_one_piece)
