-- Small texts that meet the conditions of the front page, with curves that differ, and its theorems said of them: none is empty. They are
-- specs/Small.antt's: a block with a plain curve, with another price where none is needed, and with a longer curve.
use Rattle.std.specs.Prelude.{None}
use mathlib.Core.Path.{◌≡◌, refl, sym, ap, ◌∙◌}
use mathlib.Core.Bool.{true, false}
use mathlib.Core.List.{List, [], ◌++◌}
use Prim.Native.Nat.{ℕ, zero, suc, ◌<◌}
use native.Mathlib.Omega.{arith}
use lib.IntN.{ℤ, pos}
use lib.ListN.{replicate}
use lib.Signed.{◌≤ℤ◌, ◌<ℤ◌}
use Rattle.exact.proofs.Apart.{impossible}
use Rattle.exact.proofs.Parts.{arithℤ}
use Rattle.figures.specs.Sample.{empty_curve}
use Rattle.tariff.specs.declared.Curve.{Curve}
use Rattle.tariff.specs.declared.Hour.{Hour}
use Rattle.tariff.specs.declared.Expected.{Expected}
use Rattle.tariff.specs.declared.Expected.TheVariants.{Any, Says}
use Rattle.tariff.specs.Point.{point_of}
use Rattle.tariff.specs.Derate.{reduced}
use Rattle.tariff.specs.Contributions.{limit_in}
use Rattle.tariff.specs.Sheet.{is_hour, end_of, price_of}
use Rattle.tariff.specs.Curve.{known, quote}
use Rattle.tariff.specs.Reply.{paid, clear}
use Rattle.tariff.specs.Checks.{hours_around}
use Rattle.tariff.specs.Hour.{interval, order, reply}
use Rattle.tariff.specs.Total.{Pays}
use Rattle.tariff.specs.Demand.{Between, MustPrice, price_in, SamePoints, PointsGiven, Lawful, Extends}
use Rattle.tariff.proofs.PointDemands.{given_points_are_shared}
use Rattle.tariff.proofs.Demands.{paid_exactly_when_nothing_refuses, more_steps_extend}
use Rattle.text.specs.Text.{LF, bytes}
use Rattle.lines.specs.Cut.{behind}
use Rattle.lines.specs.Pieces.{rest_after, first_piece, piece, is_some}
use Rattle.blocks.specs.Block.{Block, block_of, read}
use Rattle.sheet.specs.Settle.{reply_to}
use Rattle.sheet.specs.Apart.{InThree, CurvesApart}
use Rattle.ledger.specs.Day.{generator_answer, Front, front_of, day_reply}
use Rattle.ledger.specs.Demand.{BlocksApart, same, apart, priced, DaysApart, BothRead}
use Rattle.ledger.proofs.HourOfDay.{read_reply}
use Rattle.ledger.proofs.AnyFront.{SameFront}
use Rattle.ledger.proofs.FrontAlone.{front_stays, front_behind}
use Rattle.ledger.proofs.DayDemands.{days_with_the_same_headers_are_apart}
use Rattle.imports.specs.Import.{count_in, hours_in}
use Rattle.printed.specs.Printed.{header_end, hour_text, day_page, day_text, import_text}
use Rattle.demands.specs.Small.{first, curves, rest, block, hour, headers, day, plain, other, longer, plain_read, other_read, longer_read}
use Rattle.demands.proofs.Opened.{reading, cutting, judging, pricing, checking, settling}
use Rattle.demands.proofs.Demands.{
  behind_the_last_block_no_byte_matters,
  such_blocks_are_printed_alike,
  such_days_are_printed_alike,
  adding_curve_changes_no_byte_of_an_hour,
}
use Rattle.demands.proofs.Printed.{curve_added_to_a_day}

-- ---- the texts: where the curve lines stand, what the block is read to, and that a day's body of this block is one piece

record Stands (da : List ℕ) (c : Curve) : Type 0 where
  pub three : InThree (block da) first (curves da) rest
  pub reads : block_of (block da) ≡ read (hour c)
  pub whole : piece 0 (block da) ≡ block da
  pub ends : rest_after 1 (block da) ≡ []

plain_stands : Stands plain plain_read
unfolding reading cutting
plain_stands = record { three = record { parts = refl; line1 = refl; lines23 = refl }; reads = refl; whole = refl; ends = refl }

other_stands : Stands other other_read
unfolding reading cutting
other_stands = record { three = record { parts = refl; line1 = refl; lines23 = refl }; reads = refl; whole = refl; ends = refl }

longer_stands : Stands longer longer_read
unfolding reading cutting
longer_stands = record { three = record { parts = refl; line1 = refl; lines23 = refl }; reads = refl; whole = refl; ends = refl }

headers_clear : (front_of headers).fault ≡ clear
unfolding judging cutting
headers_clear = refl

headers_alone : (front_of headers).body ≡ []
unfolding judging cutting
headers_alone = refl

headers_hours : (front_of headers).hours ≡ 23
unfolding judging cutting
headers_hours = refl

headers_eligible : (front_of headers).is_excluded 0 ≡ false
unfolding judging cutting
headers_eligible = refl

-- ---- no check from 1 to 4 refuses them, in `hour` or as block 0 of a day, and the first is paid

module _ (expected : Expected) (said : is_hour (hours_around expected) (pos 0) ≡ true) (asked : (c : Curve) → order (hour c) expected ≡ clear) where
  plain_clear : Lawful (hour plain_read) expected
  unfolding checking
  plain_clear = record { form = refl; range = rw said; order = asked plain_read; curves = refl }

  other_clear : Lawful (hour other_read) expected
  unfolding checking
  other_clear = record { form = refl; range = rw said; order = asked other_read; curves = refl }

  longer_clear : Lawful (hour longer_read) expected
  unfolding checking
  longer_clear = record { form = refl; range = rw said; order = asked longer_read; curves = refl }

  plain_paid : reply (hour plain_read) false expected 30 ≡ paid (pos 10800000) (pos 3)
  unfolding settling
  plain_paid =
      (paid_exactly_when_nothing_refuses (hour plain_read) false expected 30 (pos 10800000) (pos 3)).1
      (record { whole = record { lawful = plain_clear; seconds = refl }; intervals = refl; fits = omega arith }, refl, refl)

any_hour_lem : (c : Curve) → order (hour c) Any ≡ clear
unfolding checking
any_hour_lem c = refl

hour_0 : (hours : ℕ) (c : Curve) → order (hour c) (Says (pos 0) hours) ≡ clear
unfolding checking
hour_0 hours c = refl

-- ---- the prices: kilowatt 2 must be priced and no other, and its price is one; that of kilowatt 0 is not

pub a_kilowatt_must_be_priced : MustPrice (hour plain_read) false 0 (pos 2)
unfolding pricing
a_kilowatt_must_be_priced = record {
  eligible = record { counted = omega arith; not_excluded = refl; not_lagging = refl };
  E = pos 2;
  found = refl;
  no_derate = refl;
  needed = record { low = record { le = tt }; high = record { lt = tt } };
}

pub only_2 : (k : ℤ) → Between (pos 3) (pos 2) k → quote plain_read k ≡ quote other_read k
unfolding pricing
only_2 k b =
    let low : pos 2 ≤ℤ k = b.low in
    let high : k <ℤ pos 3 = b.high in
    let same : k ≡ pos 2 = omega arithℤ in
    rw same

-- each interval gives its `eop`, and so the points are shared with any other curve
given : PointsGiven (hour plain_read) false
given i m = go i m.eligible.counted m.not_given
  where
    go : (i : ℕ) → i < 4 → (interval (hour plain_read) i).eop ≡ None → ⊥
    go zero u e = impossible cc
    go (suc zero) u e = impossible cc
    go (suc (suc zero)) u e = impossible cc
    go (suc (suc (suc zero))) u e = impossible cc
    go (suc (suc (suc (suc i)))) u e = absurd (omega arith)

points : (c : Curve) → SamePoints (hour plain_read) (hour c) false
points c = given_points_are_shared (hour plain_read) (hour c) false given

agree : (i : ℕ) (k : ℤ) → MustPrice (hour plain_read) false i k → price_in (hour plain_read) i k ≡ price_in (hour other_read) i k
unfolding pricing
agree i k m = go i m.eligible.counted m.E m.found m.needed
  where
    go : (i : ℕ) → i < 4 → (E : ℤ) → point_of empty_curve (interval (hour plain_read) i) ≡ known E
        → Between (reduced (hour plain_read).ahead (interval (hour plain_read) i) 0) (limit_in (hour plain_read).ahead (interval (hour plain_read) i) E) k
        → price_in (hour plain_read) i k ≡ price_in (hour other_read) i k
    go zero u E p b = let e : pos 2 ≡ E = cc in only_2 k (rw (← e) at b)
    go (suc zero) u E p b = let e : pos 2 ≡ E = cc in only_2 k (rw (← e) at b)
    go (suc (suc zero)) u E p b = let e : pos 2 ≡ E = cc in only_2 k (rw (← e) at b)
    go (suc (suc (suc zero))) u E p b = let e : pos 2 ≡ E = cc in only_2 k (rw (← e) at b)
    go (suc (suc (suc (suc i)))) u E p b = absurd (omega arith)

pub the_curves_differ : quote plain_read (pos 0) ≡ quote other_read (pos 0) → ⊥
unfolding pricing
the_curves_differ e =
    let prices : known (pos 2000) ≡ known (pos 7) = e in
    let z : ◌≡◌ {A = ℕ} 2000 7 = cc in
    omega arith

pub extended : Extends plain_read longer_read
extended = more_steps_extend plain_read longer_read refl (omega arith) steps
  where
    steps : (j : ℕ) → j < 1 → (end_of plain_read j ≡ end_of longer_read j) × (price_of plain_read j ≡ price_of longer_read j)
    steps zero u = (refl, refl)
    steps (suc j) u = absurd (omega arith)

pub unchanged : (c : Curve) → Extends c c
unchanged c = record { keeps = λ k p e. e }

no_block : (h : Hour) → block_of [] ≡ read h → ⊥
unfolding reading
no_block h e = impossible cc

-- ---- two blocks, two days of 23 hours that have one, and two days of one hour

same_read : (h g : Hour) → read h ≡ read g → h ≡ g
same_read h g e = cc

-- the headers stand in front of every day that begins with them
same_headers : (body : List ℕ) → SameFront (front_of (headers ++ body)) (front_of headers)
same_headers = front_stays headers headers_clear

day_hours : (body : List ℕ) → (front_of (headers ++ body)).hours ≡ 23
day_hours body = (same_headers body).hours ∙ headers_hours

day_body : (da : List ℕ) → (front_of (day da)).body ≡ block da
day_body da = front_behind headers headers_clear (block da) headers_alone

eligible : (front_of (day plain)).is_excluded 0 ≡ false
eligible = (same_headers (block plain)).is_excluded 0 (rw headers_hours (omega arith)) ∙ headers_eligible

-- a day of one hour, which is eligible
abbrev one_hour : (da : List ℕ) → Front
one_hour da = record { fault = clear; header = 0; hours = 1; is_excluded = λ k. false; body = block da; answer = generator_answer }

module _ {da : List ℕ} {c : Curve} (t : Stands da c) where
  lines_apart : CurvesApart (block plain) (block da)
  lines_apart = record { first = first; curves = curves plain; others = curves da; rest = rest; one = plain_stands.three; other = t.three }

  -- behind the block stands nothing
  none_behind : (k : ℕ) → rest_after (suc k) (block da) ≡ []
  unfolding cutting
  none_behind zero = t.ends
  none_behind (suc k) = ap behind (none_behind k)

module _ {da : List ℕ} {c : Curve} (t : Stands da c) where
  pieces_apart : (k : ℕ) → BlocksApart (piece k (block plain)) (piece k (block da))
  pieces_apart zero = rw (plain_stands.whole, t.whole) (apart (lines_apart t))
  pieces_apart (suc k) = same (ap first_piece (none_behind plain_stands k ∙ sym (none_behind t k)))

  -- what holds of the two records holds of what the blocks of two such days are read to
  module _ (f g : Front) (one : f.body ≡ block plain) (other : g.body ≡ block da) where
    as_read : (P : ℕ → Hour → Hour → Type 0) → P 0 (hour plain_read) (hour c) → BothRead f g P
    unfolding cutting
    as_read P p zero u h j x y =
        let e : hour plain_read ≡ h = same_read _ _ (sym plain_stands.reads ∙ ap block_of (sym plain_stands.whole) ∙ rw one at x) in
        let q : hour c ≡ j = same_read _ _ (sym t.reads ∙ ap block_of (sym t.whole) ∙ rw other at y) in
        rw (← e, ← q) p
    as_read P p (suc k) u h j x y = absurd (no_block h (rw (one, none_behind plain_stands k) at x))

-- ---- a block that is paid, a day whose headers are clear and whose block is read, and a day that is paid

pub this_block_is_paid : Pays (reply_to (block_of (block plain)) false Any 30)
this_block_is_paid = record {
  sum = pos 10800000;
  cents = pos 3;
  pays = ap (λ (b : Block). reply_to b false Any 30) plain_stands.reads ∙ plain_paid Any refl any_hour_lem;
}

pub this_day_is_read : ((front_of (day plain)).fault ≡ clear) × ((front_of (day plain)).hours ≡ 23)
this_day_is_read = ((same_headers (block plain)).fault ∙ headers_clear, day_hours (block plain))

this_day_is_paid : (k : ℕ) → k < 1 → Pays (day_reply (one_hour plain) k)
this_day_is_paid zero u = record {
  sum = pos 10800000;
  cents = pos 3;
  pays =
      read_reply (one_hour plain) refl refl 0 (hour plain_read) (ap block_of plain_stands.whole ∙ plain_stands.reads)
      ∙ plain_paid (Says (pos 0) 1) refl (hour_0 1);
}
this_day_is_paid (suc k) u = absurd (omega arith)

-- ---- the theorems of the page, of these

pub these_blocks_are_printed_alike : hour_text (block plain) ≡ hour_text (block other)
these_blocks_are_printed_alike =
    such_blocks_are_printed_alike (block plain) (block other) (hour plain_read) (hour other_read)
    (lines_apart other_stands) plain_stands.reads other_stands.reads (plain_clear Any refl any_hour_lem) (other_clear Any refl any_hour_lem) (points other_read) agree

pub these_days_are_printed_alike : day_text (day plain) ≡ day_text (day other)
these_days_are_printed_alike =
    such_days_are_printed_alike (day plain) (day other)
    (days_with_the_same_headers_are_apart headers (block plain) (block other) headers_clear headers_alone
    (λ k u. pieces_apart other_stands k)
    (rw headers_hours (none_behind plain_stands 22 ∙ sym (none_behind other_stands 22))))
    (as_read other_stands (front_of (day plain)) (front_of (day other)) (day_body plain) (day_body other) _
    (rw (eligible, this_day_is_read.1) (priced (plain_clear (Says (pos 0) 23) refl (hour_0 23)) (other_clear (Says (pos 0) 23) refl (hour_0 23)) (points other_read) agree)))

pub curve_is_added_to_this_block : hour_text (block plain) ≡ hour_text (block longer)
curve_is_added_to_this_block =
    adding_curve_changes_no_byte_of_an_hour (block plain) (block longer) (hour plain_read) (hour longer_read)
    (lines_apart longer_stands) plain_stands.reads longer_stands.reads (longer_clear Any refl any_hour_lem) extended (unchanged empty_curve) (points longer_read)
    this_block_is_paid

pub curve_is_added_to_this_day : day_page header_end (one_hour plain) ≡ day_page header_end (one_hour longer)
curve_is_added_to_this_day =
    curve_added_to_a_day (one_hour plain) (one_hour longer) days_apart this_day_is_paid
    (as_read longer_stands (one_hour plain) (one_hour longer) refl refl _
    (longer_clear (Says (pos 0) 1) refl (hour_0 1), extended, unchanged empty_curve, points longer_read))
  where
    days_apart : DaysApart (one_hour plain) (one_hour longer)
    days_apart = record {
      one_kind = refl;
      other_kind = refl;
      one_read = refl;
      other_read_lem = refl;
      hours = refl;
      excluded = λ k u. refl;
      blocks = λ k u. pieces_apart longer_stands k;
      surplus = none_behind plain_stands 0 ∙ sym (none_behind longer_stands 0);
    }

-- a day of 23 empty blocks and an import of 24, and a line feed behind the last
abbrev long_day : List ℕ
long_day = headers ++ replicate 24 LF

abbrev long_import : List ℕ
long_import = bytes "import=1 cts=0\n\n" ++ replicate 25 LF

behind_this_day : is_some (rest_after 26 long_day) ≡ true
unfolding cutting
behind_this_day = refl

pub no_byte_matters_behind_this_day : (t : List ℕ) → day_text (long_day ++ t) ≡ day_text long_day
no_byte_matters_behind_this_day t = (behind_the_last_block_no_byte_matters long_day t).0 (rw (day_hours (replicate 24 LF)) behind_this_day)

behind_this_import : is_some (rest_after (suc (hours_in long_import)) long_import) ≡ true
unfolding cutting reading hours_in count_in
behind_this_import = refl

pub no_byte_matters_behind_this_import : (t : List ℕ) → import_text (long_import ++ t) ≡ import_text long_import
no_byte_matters_behind_this_import t = (behind_the_last_block_no_byte_matters long_import t).1 behind_this_import
