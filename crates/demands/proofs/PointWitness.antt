-- Small texts with `eop=-` in every interval, specs/Pointed.antt's, and what the pages say of such texts said of them: demand 3 in its new wording, any
-- cutting, and POINT. And a pair of them by which demand 3 without the request's condition is false. Hours that give `eop` are Witness.antt's.
use mathlib.Core.Path.{◌≡◌, refl, sym, ap, ◌∙◌}
use mathlib.Core.Bool.{true, false}
use mathlib.Core.List.{List}
use Prim.Native.Nat.{ℕ, zero, suc, ◌<◌}
use native.Mathlib.Omega.{arith}
use lib.IntN.{ℤ, pos}
use lib.Signed.{lt_z}
use Rattle.std.specs.Prelude.{if◌then◌else◌}
use Rattle.exact.proofs.Parts.{arithℤ, by_test}
use Rattle.tariff.specs.declared.Curve.{Curve}
use Rattle.tariff.specs.declared.Hour.{Hour}
use Rattle.tariff.specs.declared.Expected.TheVariants.{Any}
use Rattle.tariff.specs.Sheet.{end_of, price_of}
use Rattle.tariff.specs.Curve.{known, none, quote}
use Rattle.tariff.specs.Point.{point_on}
use Rattle.tariff.specs.Reply.{paid}
use Rattle.tariff.specs.Hour.{interval, reply}
use Rattle.tariff.specs.Demand.{MustFind, MustPrice, price_in, PointRefused, SamePoints, SamePrices, Lawful, Extends}
use Rattle.tariff.proofs.Demands.{paid_exactly_when_nothing_refuses, more_steps_extend}
use Rattle.text.specs.Text.{bytes}
use Rattle.blocks.specs.Block.{Block, block_of, read}
use Rattle.sheet.specs.Settle.{reply_to}
use Rattle.sheet.specs.Apart.{InThree, CurvesApart}
use Rattle.answers.specs.Examples as answers
use Rattle.printed.specs.Printed.{hour_text}
use Rattle.demands.specs.Pointed.{first, curves, rest, block, hour, plain, recut, dearer, cheaper, nothing, plain_read, recut_read, dearer_read, cheaper_read, nothing_read}
use Rattle.demands.proofs.Opened.{reading, pricing, checking, settling}
use Rattle.demands.proofs.Demands.{such_blocks_are_printed_alike, adding_curve_changes_no_byte_of_an_hour}
use Rattle.demands.proofs.PointDemands.{any_cutting_is_printed_alike, an_interval_without_its_point_is_printed}
use Rattle.demands.proofs.Witness.{unchanged}

-- ---- the texts, what they are read to, and that no check from 1 to 4 refuses them

record Stands (rt : List ℕ) (c : Curve) : Type 0 where
  pub three : InThree (block rt) first (curves rt) rest
  pub reads : block_of (block rt) ≡ read (hour c)
  pub lawful : Lawful (hour c) Any

plain_stands : Stands plain plain_read
unfolding reading checking
plain_stands = record { three = record { parts = refl; line1 = refl; lines23 = refl }; reads = refl; lawful = record { form = refl; range = refl; order = refl; curves = refl } }

recut_stands : Stands recut recut_read
unfolding reading checking
recut_stands = record { three = record { parts = refl; line1 = refl; lines23 = refl }; reads = refl; lawful = record { form = refl; range = refl; order = refl; curves = refl } }

dearer_stands : Stands dearer dearer_read
unfolding reading checking
dearer_stands = record { three = record { parts = refl; line1 = refl; lines23 = refl }; reads = refl; lawful = record { form = refl; range = refl; order = refl; curves = refl } }

cheaper_stands : Stands cheaper cheaper_read
unfolding reading checking
cheaper_stands = record { three = record { parts = refl; line1 = refl; lines23 = refl }; reads = refl; lawful = record { form = refl; range = refl; order = refl; curves = refl } }

nothing_stands : Stands nothing nothing_read
unfolding reading checking
nothing_stands = record { three = record { parts = refl; line1 = refl; lines23 = refl }; reads = refl; lawful = record { form = refl; range = refl; order = refl; curves = refl } }

apart : {rt : List ℕ} {c : Curve} → Stands rt c → CurvesApart (block plain) (block rt)
apart {rt} t = record { first = first; curves = curves plain; others = curves rt; rest = rest; one = plain_stands.three; other = t.three }

-- ---- the points: 60 kW, which a dearer step leaves and a cheaper one moves to 90

pub the_points : (point_on plain_read (pos 5000) ≡ known (pos 60))
    × (point_on recut_read (pos 5000) ≡ known (pos 60))
    × (point_on dearer_read (pos 5000) ≡ known (pos 60))
    × (point_on cheaper_read (pos 5000) ≡ known (pos 90))
    × (point_on nothing_read (pos 5000) ≡ none)
unfolding pricing
the_points = (refl, refl, refl, refl, refl)

-- each interval has `pen` 5000
same_points : (c : Curve) → point_on plain_read (pos 5000) ≡ point_on c (pos 5000) → SamePoints (hour plain_read) (hour c) false
same_points c e i m = go i m.eligible.counted
  where
    go : (i : ℕ) → i < 4 → point_on plain_read (interval (hour plain_read) i).pen.0 ≡ point_on c (interval (hour plain_read) i).pen.0
    go zero u = e
    go (suc zero) u = e
    go (suc (suc zero)) u = e
    go (suc (suc (suc zero))) u = e
    go (suc (suc (suc (suc i)))) u = absurd (omega arith)

pub this_interval_must_find_its_point : MustFind (hour plain_read) false 0
this_interval_must_find_its_point = record { eligible = record { counted = omega arith; not_excluded = refl; not_lagging = refl }; not_given = refl }

-- ---- prices that nobody needs: the intervals are settled by the day-ahead curve, which is the same

agree : (c : Curve) (i : ℕ) (k : ℤ) → MustPrice (hour plain_read) false i k → price_in (hour plain_read) i k ≡ price_in (hour c) i k
unfolding pricing
agree c i k m = go i m.eligible.counted
  where
    go : (i : ℕ) → i < 4 → price_in (hour plain_read) i k ≡ price_in (hour c) i k
    go zero u = refl
    go (suc zero) u = refl
    go (suc (suc zero)) u = refl
    go (suc (suc (suc zero))) u = refl
    go (suc (suc (suc (suc i)))) u = absurd (omega arith)

pub these_blocks_share_their_points : hour_text (block plain) ≡ hour_text (block dearer)
these_blocks_share_their_points =
    such_blocks_are_printed_alike (block plain) (block dearer) (hour plain_read) (hour dearer_read)
    (apart dearer_stands) plain_stands.reads dearer_stands.reads plain_stands.lawful dearer_stands.lawful
    (same_points dearer_read (the_points.0 ∙ sym the_points.2)) (agree dearer_read)

-- ---- curve that is added

longer : (c : Curve) → plain_read.start ≡ c.start → 1 < c.n → (end_of c 0 ≡ pos 60) → (price_of c 0 ≡ pos 2000) → Extends plain_read c
longer c s u e p = more_steps_extend plain_read c s (omega arith) steps
  where
    steps : (j : ℕ) → j < 1 → (end_of plain_read j ≡ end_of c j) × (price_of plain_read j ≡ price_of c j)
    steps zero v = (sym e, sym p)
    steps (suc j) v = absurd (omega arith)

plain_paid : reply (hour plain_read) false Any 30 ≡ paid (pos 432000000) (pos 120)
unfolding settling
plain_paid =
    (paid_exactly_when_nothing_refuses (hour plain_read) false Any 30 (pos 432000000) (pos 120)).1
    (record { whole = record { lawful = plain_stands.lawful; seconds = refl }; intervals = refl; fits = omega arith }, refl, refl)

cheaper_paid : reply (hour cheaper_read) false Any 30 ≡ paid (pos 216000000) (pos 60)
unfolding settling
cheaper_paid =
    (paid_exactly_when_nothing_refuses (hour cheaper_read) false Any 30 (pos 216000000) (pos 60)).1
    (record { whole = record { lawful = cheaper_stands.lawful; seconds = refl }; intervals = refl; fits = omega arith }, refl, refl)

block_paid : {rt : List ℕ} {c : Curve} {sum cents : ℤ} → Stands rt c → reply (hour c) false Any 30 ≡ paid sum cents → reply_to (block_of (block rt)) false Any 30 ≡ paid sum cents
block_paid t e = ap (λ (b : Block). reply_to b false Any 30) t.reads ∙ e

-- a step above `pen` leaves the point, and so every byte
pub curve_above_pen_is_added_to_this_block : hour_text (block plain) ≡ hour_text (block dearer)
curve_above_pen_is_added_to_this_block =
    adding_curve_changes_no_byte_of_an_hour (block plain) (block dearer) (hour plain_read) (hour dearer_read)
    (apart dearer_stands) plain_stands.reads dearer_stands.reads dearer_stands.lawful
    (unchanged (hour plain_read).da) (longer dearer_read refl (omega arith) refl refl)
    (same_points dearer_read (the_points.0 ∙ sym the_points.2))
    (record { sum = pos 432000000; cents = pos 120; pays = block_paid plain_stands plain_paid })

-- demand 3's last sentence without the request's condition
abbrev AddingAnyCurve : Type 0
AddingAnyCurve =
    (s t : List ℕ) (h g : Hour)
    → CurvesApart s t
    → block_of s ≡ read h
    → block_of t ≡ read g
    → (sum cents : ℤ)
    → Lawful g Any
    → Extends h.da g.da
    → Extends h.rt g.rt
    → reply_to (block_of s) false Any 30 ≡ paid sum cents
    → reply_to (block_of t) false Any 30 ≡ paid sum cents

-- is false: with a step below `pen` more of curve this block pays 60 cents, where it paid 120
pub without_the_condition_adding_curve_moves_cents : AddingAnyCurve → ⊥
without_the_condition_adding_curve_moves_cents claim =
    let as_before =
    claim (block plain) (block cheaper) (hour plain_read) (hour cheaper_read)
    (apart cheaper_stands) plain_stands.reads cheaper_stands.reads (pos 432000000) (pos 120) cheaper_stands.lawful
    (unchanged (hour plain_read).da) (longer cheaper_read refl (omega arith) refl refl)
    (block_paid plain_stands plain_paid) in
    let both : paid (pos 432000000) (pos 120) ≡ paid (pos 216000000) (pos 60) = sym as_before ∙ block_paid cheaper_stands cheaper_paid in
    let cents : ◌≡◌ {A = ℕ} 120 60 = cc in
    omega arith

-- ---- the same curve in two steps

recut_prices : SamePrices plain_read recut_read
unfolding pricing
recut_prices = record { each = each }
  where
    each : (k : ℤ) → quote plain_read k ≡ quote recut_read k
    each k =
        by_test (lt_z k (pos 20))
        (λ t.
        (if lt_z k (pos 0) then none else (if lt_z k (pos 60) then known (pos 2000) else none))
        ≡ (if lt_z k (pos 0) then none else (if t then known (pos 2000) else (if lt_z k (pos 60) then known (pos 2000) else none))))
        (λ e. let below : lt_z k (pos 60) ≡ true = omega arithℤ in rw below)
        (λ e. refl)

pub this_block_is_cut_into_other_steps : hour_text (block plain) ≡ hour_text (block recut)
this_block_is_cut_into_other_steps =
    any_cutting_is_printed_alike (block plain) (block recut) (hour plain_read) (hour recut_read)
    (apart recut_stands) plain_stands.reads recut_stands.reads plain_stands.lawful recut_stands.lawful
    (record { each = λ k. refl }) recut_prices

-- ---- no curve at all

pub this_interval_finds_no_point : PointRefused (hour nothing_read) false 0
this_interval_finds_no_point =
    record {
      asked = record { eligible = record { counted = omega arith; not_excluded = refl; not_lagging = refl }; not_given = refl };
      empty = refl;
    }

pub this_block_is_refused_for_its_point : hour_text (block nothing) ≡ bytes "refused=10 at=1\n"
unfolding checking
this_block_is_refused_for_its_point =
    an_interval_without_its_point_is_printed (block nothing) (hour nothing_read) 0 nothing_stands.reads
    (record { lawful = nothing_stands.lawful; seconds = refl })
    (record {
      here = this_interval_finds_no_point;
      first = λ j u w. absurd (omega arith);
      no_second_before = λ j u w. absurd (omega arith);
      no_third_before = λ j u w. absurd (omega arith);
    })
    ∙ answers.point_at_1
