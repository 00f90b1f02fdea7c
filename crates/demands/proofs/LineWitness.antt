-- Small texts of an internal controllable line that meet the conditions of its page's theorems on two texts and on bytes behind the last block, and
-- these theorems said of them: none is empty. Their curves differ (Witness.antt). Adding curve to a day is said of a day of one hour, since all the
-- hours of a text would have to be paid. Both branches and REACH are met in figures/specs/IclTable.antt.
use mathlib.Core.Path.{◌≡◌, refl, sym, ap, ◌∙◌}
use mathlib.Core.Bool.{true, false}
use mathlib.Core.List.{List, [], ◌++◌}
use Prim.Native.Nat.{ℕ, zero, suc, ◌<◌}
use native.Mathlib.Omega.{arith}
use lib.IntN.{ℤ, pos}
use lib.ListN.{replicate}
use Rattle.exact.specs.Whole.{min_z, max_z, span, sum_to, up_to}
use Rattle.exact.proofs.Apart.{impossible}
use Rattle.figures.specs.Sample.{empty_curve}
use Rattle.tariff.specs.declared.Curve.{Curve}
use Rattle.tariff.specs.declared.IclHour.{IclHour}
use Rattle.tariff.specs.declared.Expected.{Expected}
use Rattle.tariff.specs.declared.Expected.TheVariants.{Any, Says}
use Rattle.tariff.specs.Units.{cents_of}
use Rattle.tariff.specs.Sheet.{is_hour, all_to, curve_in_range, curve_keeps}
use Rattle.tariff.specs.Curve.{quote, quote_from, sum_up, integral}
use Rattle.tariff.specs.Reply.{paid, clear, first_of}
use Rattle.tariff.specs.Checks.{form_in, range_in, order_in, curves_in, seconds_in, hours_around, order_of}
use Rattle.tariff.specs.Outcome.{first_stop}
use Rattle.tariff.specs.Contributions.{energy_by}
use Rattle.tariff.specs.Total.{Pays}
use Rattle.tariff.specs.Controllable.{icl_ahead_in_range, icl_interval_in_range, icl_parts, icl_energy, icl_outcome_at, icl_reply}
use Rattle.tariff.specs.ControllableDemand.{IclMustPrice, icl_price_in, IclLawful}
use Rattle.tariff.proofs.IclDemands.{icl_paid_exactly_when_nothing_refuses}
use Rattle.text.specs.Text.{LF, key_at}
use Rattle.text.specs.Number.{digit_at, more_digits, natural_at, number_at}
use Rattle.lines.specs.Cut.{behind}
use Rattle.lines.specs.Line.{value_at, field_at, after_fields, value_in, line_at, closes}
use Rattle.lines.specs.Pieces.{rest_after, is_some, first_piece, piece}
use Rattle.lines.specs.Series.{series_place, series_in, series_at}
use Rattle.curves.specs.CurveLine.{curve_line, curve_said}
use Rattle.iclblocks.specs.IclBlock.{IclBlock, read, icl_block_at, icl_block_of}
use Rattle.iclblocks.specs.IclApart.{IclInThree, IclCurvesApart}
use Rattle.iclsheet.specs.IclSettle.{icl_reply_to}
use Rattle.header.specs.Layout.{digits_at, row_at, said_at, header_line, line_place, line_in_range, layout_form, layout_range, number_on, digit_on}
use Rattle.ledger.specs.Day.{Front, day_reply}
use Rattle.ledger.specs.IclDay.{icl_answer, icl_front_of}
use Rattle.ledger.specs.Demand.{same, apart, priced}
use Rattle.ledger.specs.IclDemand.{IclBlocksApart, IclDaysApart, IclBothRead}
use Rattle.ledger.proofs.IclFront.{icl_count, icl_marked, icl_behind}
use Rattle.ledger.proofs.IclDayDemands.{an_icl_hour_of_a_day_is_its_blocks, icl_days_with_one_header_are_apart}
use Rattle.printed.specs.Printed.{plain_end, day_page, line_text}
use Rattle.demands.specs.Small.{curves, plain, other, longer, plain_read, other_read, longer_read}
use Rattle.demands.specs.LineSmall.{line_first, line_rest, line_block, line_hour, line_header, line_day}
use Rattle.demands.proofs.Opened.{cutting}
use Rattle.demands.proofs.Printed.{lent, curve_added_to_a_line_day}
use Rattle.demands.proofs.Witness.{only_2, extended, unchanged}
use Rattle.demands.proofs.LineDemands.{
  behind_the_last_block_of_a_line_no_byte_matters,
  only_those_prices_of_a_line_matter,
  such_line_days_are_printed_alike,
  adding_curve_to_a_line_never_moves_a_cent,
}

-- ---- what a proof by computation opens: reading a block, judging a header, the checks, and what an interval gives

reading : List ℕ → IclBlock
unfolding icl_block_of icl_block_at series_at series_in series_place curve_said curve_line closes line_at value_in after_fields field_at value_at key_at number_at natural_at more_digits digit_at up_to
reading s = icl_block_of s

judging : List ℕ → Front
unfolding
    layout_form layout_range line_in_range number_on digit_on line_place header_line said_at row_at digits_at value_in after_fields field_at
    value_at key_at number_at natural_at more_digits digit_at all_to first_of
judging s = icl_front_of s

checking : IclHour → Curve → Curve
unfolding form_in range_in icl_ahead_in_range curve_in_range icl_interval_in_range all_to first_of order_in curves_in curve_keeps seconds_in sum_to
checking h c = c

settling : IclHour → Curve → Curve
unfolding checking icl_outcome_at icl_energy energy_by min_z max_z integral span sum_up quote quote_from first_stop sum_to cents_of
settling h c = c

-- ---- the texts: where the curve lines stand, what the block is read to, and that a day's body of this block is one piece

record Stands (da : List ℕ) (c : Curve) : Type 0 where
  pub three : IclInThree (line_block da) line_first (curves da) line_rest
  pub reads : icl_block_of (line_block da) ≡ read (line_hour c)
  pub whole : piece 0 (line_block da) ≡ line_block da
  pub ends : rest_after 1 (line_block da) ≡ []

plain_stands : Stands plain plain_read
unfolding reading cutting
plain_stands = record { three = record { parts = refl; line1 = refl; lines23 = refl }; reads = refl; whole = refl; ends = refl }

other_stands : Stands other other_read
unfolding reading cutting
other_stands = record { three = record { parts = refl; line1 = refl; lines23 = refl }; reads = refl; whole = refl; ends = refl }

longer_stands : Stands longer longer_read
unfolding reading cutting
longer_stands = record { three = record { parts = refl; line1 = refl; lines23 = refl }; reads = refl; whole = refl; ends = refl }

header_clear : (icl_front_of line_header).fault ≡ clear
unfolding judging
header_clear = refl

header_alone : (icl_front_of line_header).body ≡ []
unfolding judging
header_alone = refl

header_hours : (icl_front_of line_header).hours ≡ 23
unfolding judging
header_hours = refl

-- ---- no check from 1 to 4 refuses them, as any block or as block 0 of a day, and the first is paid

module _ (expected : Expected) (said : is_hour (hours_around expected) (pos 0) ≡ true) (asked : (c : Curve) → order_of (icl_parts (line_hour c)) expected ≡ clear) where
  plain_clear : IclLawful (line_hour plain_read) expected
  unfolding checking
  plain_clear = record { form = refl; range = rw said; order = asked plain_read; curves = refl }

  other_clear : IclLawful (line_hour other_read) expected
  unfolding checking
  other_clear = record { form = refl; range = rw said; order = asked other_read; curves = refl }

  longer_clear : IclLawful (line_hour longer_read) expected
  unfolding checking
  longer_clear = record { form = refl; range = rw said; order = asked longer_read; curves = refl }

  plain_paid : icl_reply (line_hour plain_read) false expected 30 ≡ paid (pos 10800000) (pos 3)
  unfolding settling
  plain_paid =
      (icl_paid_exactly_when_nothing_refuses (line_hour plain_read) false expected 30 (pos 10800000) (pos 3)).1
      (record { whole = record { lawful = plain_clear; seconds = refl }; intervals = refl; fits = omega arith }, refl, refl)

any_hour_lem : (c : Curve) → order_of (icl_parts (line_hour c)) Any ≡ clear
unfolding checking
any_hour_lem c = refl

hour_0 : (hours : ℕ) (c : Curve) → order_of (icl_parts (line_hour c)) (Says (pos 0) hours) ≡ clear
unfolding checking
hour_0 hours c = refl

-- ---- the prices: kilowatt 2 must be priced and no other

pub a_kilowatt_of_a_line_must_be_priced : IclMustPrice (line_hour plain_read) false 0 (pos 2)
unfolding settling
a_kilowatt_of_a_line_must_be_priced =
    record { counted = omega arith; eligible = refl; needed = record { low = record { le = tt }; high = record { lt = tt } } }

agree : (i : ℕ) (k : ℤ) → IclMustPrice (line_hour plain_read) false i k → icl_price_in (line_hour plain_read) i k ≡ icl_price_in (line_hour other_read) i k
agree zero k m = only_2 k m.needed
agree (suc zero) k m = only_2 k m.needed
agree (suc (suc zero)) k m = only_2 k m.needed
agree (suc (suc (suc zero))) k m = only_2 k m.needed
agree (suc (suc (suc (suc i)))) k m = let u : suc (suc (suc (suc i))) < 4 = m.counted in absurd (omega arith)

-- ---- two blocks, and two days that have one

no_block : (h : IclHour) → icl_block_of [] ≡ read h → ⊥
unfolding reading
no_block h e = impossible cc

same_read : (h g : IclHour) → ◌≡◌ {A = IclBlock} (read h) (read g) → h ≡ g
same_read h g e = cc

-- a day of one hour, which is eligible
abbrev one_hour : (da : List ℕ) → Front
one_hour da = record { fault = clear; header = 0; hours = 1; is_excluded = λ k. false; body = line_block da; answer = icl_answer }

module _ {da : List ℕ} {c : Curve} (t : Stands da c) where
  lines_apart : IclCurvesApart (line_block plain) (line_block da)
  lines_apart = record { first = line_first; curves = curves plain; others = curves da; rest = line_rest; one = plain_stands.three; other = t.three }

  -- behind the block stands nothing
  none_behind : (k : ℕ) → rest_after (suc k) (line_block da) ≡ []
  unfolding cutting
  none_behind zero = t.ends
  none_behind (suc k) = ap behind (none_behind k)

module _ {da : List ℕ} {c : Curve} (t : Stands da c) where
  pieces_apart : (k : ℕ) → IclBlocksApart (piece k (line_block plain)) (piece k (line_block da))
  pieces_apart zero = rw (plain_stands.whole, t.whole) (apart (lines_apart t))
  pieces_apart (suc k) = same (ap first_piece (none_behind plain_stands k ∙ sym (none_behind t k)))

  -- what holds of the two records holds of what the blocks of two such days are read to
  module _ (f g : Front) (one : f.body ≡ line_block plain) (two : g.body ≡ line_block da) where
    as_read : (P : ℕ → IclHour → IclHour → Type 0) → P 0 (line_hour plain_read) (line_hour c) → IclBothRead f g P
    unfolding cutting
    as_read P p zero u h j x y =
        let e : line_hour plain_read ≡ h = same_read _ _ (sym plain_stands.reads ∙ ap icl_block_of (sym plain_stands.whole) ∙ rw one at x) in
        let q : line_hour c ≡ j = same_read _ _ (sym t.reads ∙ ap icl_block_of (sym t.whole) ∙ rw two at y) in
        rw (← e, ← q) p
    as_read P p (suc k) u h j x y = absurd (no_block h (rw (one, none_behind plain_stands k) at x))

-- ---- the theorems of the page, of these

pub this_line_block_is_paid : Pays (icl_reply_to (icl_block_of (line_block plain)) false Any 30)
this_line_block_is_paid = record {
  sum = pos 10800000;
  cents = pos 3;
  pays = ap (λ (b : IclBlock). icl_reply_to b false Any 30) plain_stands.reads ∙ plain_paid Any refl any_hour_lem;
}

pub these_line_blocks_are_answered_alike :
    icl_reply_to (icl_block_of (line_block plain)) false Any 30 ≡ icl_reply_to (icl_block_of (line_block other)) false Any 30
these_line_blocks_are_answered_alike =
    (only_those_prices_of_a_line_matter (line_block plain) (line_block other) (line_hour plain_read) (line_hour other_read) false Any lent
    (lines_apart other_stands) plain_stands.reads other_stands.reads (plain_clear Any refl any_hour_lem) (other_clear Any refl any_hour_lem) agree).0

pub curve_is_added_to_this_line_block : icl_reply_to (icl_block_of (line_block longer)) false Any 30 ≡ paid (pos 10800000) (pos 3)
unfolding this_line_block_is_paid
curve_is_added_to_this_line_block =
    (adding_curve_to_a_line_never_moves_a_cent (line_block plain) (line_block longer) (line_hour plain_read) (line_hour longer_read) false Any lent
    (lines_apart longer_stands) plain_stands.reads longer_stands.reads _ _ (longer_clear Any refl any_hour_lem) extended (unchanged empty_curve)
    this_line_block_is_paid.pays).0

-- hour 0 is marked (i)
eligible : (icl_front_of (line_day plain)).is_excluded 0 ≡ false
unfolding judging
eligible = icl_marked line_header header_clear header_alone (line_block plain) 0 (rw header_hours (omega arith))

pub these_line_days_are_printed_alike : line_text (line_day plain) ≡ line_text (line_day other)
these_line_days_are_printed_alike =
    such_line_days_are_printed_alike (line_day plain) (line_day other)
    (icl_days_with_one_header_are_apart line_header (line_block plain) (line_block other) header_clear header_alone
    (λ k u. pieces_apart other_stands k)
    (rw header_hours (none_behind plain_stands 22 ∙ sym (none_behind other_stands 22))))
    (as_read other_stands (icl_front_of (line_day plain)) (icl_front_of (line_day other)) (body plain) (body other) _
    (rw (eligible, hours) (priced (plain_clear (Says (pos 0) 23) refl (hour_0 23)) (other_clear (Says (pos 0) 23) refl (hour_0 23)) tt agree)))
  where
    body : (da : List ℕ) → (icl_front_of (line_day da)).body ≡ line_block da
    body da = icl_behind line_header header_clear header_alone (line_block da)

    hours : (icl_front_of (line_day plain)).hours ≡ 23
    hours = icl_count line_header header_clear header_alone (line_block plain) ∙ header_hours

-- a day of 23 empty blocks, and a line feed behind the last
abbrev long_line : List ℕ
long_line = line_header ++ replicate 24 LF

behind_this_line : is_some (rest_after 24 long_line) ≡ true
unfolding cutting
behind_this_line = refl

pub no_byte_matters_behind_this_line : (t : List ℕ) → line_text (long_line ++ t) ≡ line_text long_line
no_byte_matters_behind_this_line =
    let hours = icl_count line_header header_clear header_alone (replicate 24 LF) ∙ header_hours in
    λ t. behind_the_last_block_of_a_line_no_byte_matters long_line t (rw hours behind_this_line)

this_line_day_is_paid : (k : ℕ) → k < 1 → Pays (day_reply (one_hour plain) k)
this_line_day_is_paid zero u = record {
  sum = pos 10800000;
  cents = pos 3;
  pays =
      an_icl_hour_of_a_day_is_its_blocks (one_hour plain) refl refl 0 30 (omega arith)
      ∙ ap (λ (b : IclBlock). icl_reply_to b false (Says (pos 0) 1) 30) (ap icl_block_of plain_stands.whole ∙ plain_stands.reads)
      ∙ plain_paid (Says (pos 0) 1) refl (hour_0 1);
}
this_line_day_is_paid (suc k) u = absurd (omega arith)

pub curve_is_added_to_this_line_day : day_page plain_end (one_hour plain) ≡ day_page plain_end (one_hour longer)
curve_is_added_to_this_line_day =
    curve_added_to_a_line_day (one_hour plain) (one_hour longer) days_apart this_line_day_is_paid
    (as_read longer_stands (one_hour plain) (one_hour longer) refl refl _
    (longer_clear (Says (pos 0) 1) refl (hour_0 1), extended, unchanged empty_curve))
  where
    days_apart : IclDaysApart (one_hour plain) (one_hour longer)
    days_apart = record {
      one_kind = refl;
      other_kind = refl;
      one_read = refl;
      other_read_lem = refl;
      hours = refl;
      excluded = λ k u. refl;
      blocks = λ k u. pieces_apart longer_stands k;
      surplus = none_behind plain_stands 0 ∙ sym (none_behind longer_stands 0);
    }
