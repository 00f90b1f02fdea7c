-- The theorems of the definitions: demand 3, when an hour is refused and what it pays, the lent row, the one answer to a reply, the curve.
use mathlib.Core.Path.{◌≡◌, refl, sym, ◌∙◌, ap}
use mathlib.Core.Bool.{Bool, true, false}
use mathlib.Core.List.{List}
use mathlib.Core.Logic.Iff
use mathlib.Core.Logic.{◌↔◌}
use Prim.Native.Nat.{ℕ, ◌+◌, ◌-◌, ◌<◌, ◌≤◌}
use lib.ListN.{length, get_or}
use lib.IntN.{ℤ, pos, neg_ℤ}
use lib.Signed.{◌≤ℤ◌, ◌<ℤ◌}
use Rattle.exact.specs.Whole.{sum_to}
use Rattle.exact.proofs.Apart.{impossible}
use Rattle.exact.proofs.Sums.{sum_zeros}
use Rattle.tariff.specs.declared.Curve.{Curve}
use Rattle.tariff.specs.declared.Hour.{Hour}
use Rattle.tariff.specs.declared.Expected.{Expected}
use Rattle.tariff.specs.declared.Answer.{Answer}
use Rattle.tariff.specs.Units.{cents_of}
use Rattle.tariff.specs.Sheet.{end_of, price_of, begin_of, curve_keeps}
use Rattle.tariff.specs.Curve.{known, quote, change, integral}
use Rattle.tariff.specs.Reply.{Reply, paid, refused, FORM, RANGE, ORDER, CURVE, SECONDS, DERATE, REACH, ROOM, Verdict, told, shown, clear, fault, Found}
use Rattle.tariff.specs.Eligible.{lags}
use Rattle.tariff.specs.Hour.{interval, parts_of, outcome, outcome_at, contribution, block_fault, reply, row_after, form, range, order, intervals}
use Rattle.tariff.specs.Outcome.{gives}
use Rattle.tariff.specs.Demand.{MustPrice, price_in, FirstUnpriced, SomeUnpriced, FirstExceeded, SomeExceeded, SamePoints}
use Rattle.tariff.specs.Demand.{FirstOutOfRange, FirstCurveBroken, SaysAnotherHour, Alike, Lawful, WholeHour, Passes, Extends}
use Rattle.tariff.proofs.Turns.{of_three, of_four}
use Rattle.tariff.proofs.Stops.{none_stopped}
use Rattle.tariff.proofs.AnyHour.{paid_when, row_paid_lem, row_refused}
use Rattle.tariff.proofs.Given.{turn_given, stop_given, some_given, room_given}
use Rattle.tariff.proofs.Ordered.{past_lawful, whole_when, generator}
use Rattle.tariff.proofs.Finds.{range_finds, order_finds, curves_find, seconds_find}
use Rattle.tariff.proofs.ByInterval.{first_unpriced, some_unpriced, first_exceeded, some_exceeded}
use Rattle.tariff.proofs.Alike.{alike_outcome, alike_same, extended_price}
use Rattle.tariff.proofs.Curves.{turned}
use Rattle.tariff.proofs.Steps.{more_quoted, priced_when, when_priced, step_quoted}
use Rattle.tariff.proofs.Answers.{answer_of, answer_back, finding_of, finding_back}

-- ---- demand 3

-- Only the prices of the kilowatts between D and the limit matter, and in an interval with `eop=-` the point: two hours that are alike in all but
-- their curves, that no check from 1 to 4 refuses, that share the point of each eligible interval with `eop=-`, or both lack it, and whose prices
-- agree on every kilowatt that must be priced, have one reply and one row.
pub only_needed_prices_matter :
    (h g : Hour) (is_excluded : Bool) (expected : Expected) (row : List ℤ)
    → Alike h g
    → Lawful h expected
    → Lawful g expected
    → SamePoints h g is_excluded
    → ((i : ℕ) (k : ℤ) → MustPrice h is_excluded i k → price_in h i k ≡ price_in g i k)
    → (reply h is_excluded expected (length row) ≡ reply g is_excluded expected (length row)) × (row_after h is_excluded expected row ≡ row_after g is_excluded expected row)
only_needed_prices_matter h g is_excluded expected row a f f' points prices =
    alike_same h g a is_excluded expected row f f' (λ i u. alike_outcome h g a is_excluded i u points (prices i))

-- REACH is given exactly when no check from 1 to 5 refuses and a kilowatt that must be priced has no price: at the first interval that
-- has one, and where no POINT and no DERATE comes first.
pub reach_exactly_when_unpriced :
    (h : Hour) (is_excluded : Bool) (expected : Expected) (room i : ℕ)
    → (reply h is_excluded expected room ≡ refused REACH (i + 1)) ↔ (WholeHour h expected × FirstUnpriced h is_excluded i)
reach_exactly_when_unpriced h is_excluded expected room i =
    Iff.trans (stop_given (generator h is_excluded expected) room REACH refl i) (Iff.and (whole_when (parts_of h) expected) (first_unpriced h is_excluded i))

-- So an hour is refused for reach exactly when no check from 1 to 5 refuses it, a kilowatt that some interval must price has no price,
-- and no point or derate refusal comes before that interval, which itself must price only where neither refuses it.
pub refused_for_reach_exactly_when_some_kilowatt_is_unpriced :
    (h : Hour) (is_excluded : Bool) (expected : Expected) (room : ℕ)
    → ((place : ℕ) × (reply h is_excluded expected room ≡ refused REACH place)) ↔ (WholeHour h expected × SomeUnpriced h is_excluded)
refused_for_reach_exactly_when_some_kilowatt_is_unpriced h is_excluded expected room =
    Iff.trans (some_given (generator h is_excluded expected) room REACH refl) (Iff.and (whole_when (parts_of h) expected) (some_unpriced h is_excluded))

-- Adding curve to a paid hour never moves a cent, where the longer curves break no rule of checks 1 to 4 and leave each point that the curve is
-- asked for: with every price that its curves had, and perhaps more, it pays the same and leaves the same row.
pub adding_curve_changes_nothing :
    (h g : Hour) (is_excluded : Bool) (expected : Expected) (row : List ℤ) (sum cents : ℤ)
    → Alike h g
    → Lawful g expected
    → Extends h.da g.da
    → Extends h.rt g.rt
    → SamePoints h g is_excluded
    → reply h is_excluded expected (length row) ≡ paid sum cents
    → (reply g is_excluded expected (length row) ≡ paid sum cents) × (row_after g is_excluded expected row ≡ row_after h is_excluded expected row)
adding_curve_changes_nothing h g is_excluded expected row sum cents a f da rt points e =
    let passes = (paid_when (block_fault h expected) (outcome_at h is_excluded) h.n (length row) sum cents).0 e in
    let same = only_needed_prices_matter h g is_excluded expected row a ((whole_when (parts_of h) expected).0 passes.0).lawful f points (extended_price h g a is_excluded da rt passes.1) in
    (sym same.0 ∙ e, sym same.1)

-- A curve with further steps at its end has every price that it had.
pub more_steps_extend :
    (c d : Curve)
    → c.start ≡ d.start
    → c.n ≤ d.n
    → ((j : ℕ) → j < c.n → (end_of c j ≡ end_of d j) × (price_of c j ≡ price_of d j))
    → Extends c d
unfolding quote
more_steps_extend c d s u same =
    record { keeps = λ k. rw (← s) (more_quoted (end_of c) (price_of c) (end_of d) (price_of d) c.n d.n c.start.0 k u same) }

-- ---- what an hour pays

-- An interval with `ae` at or below `lim` contributes 0 for all products and skips checks 10, 6 and 7: its loss offsets nothing, and no
-- POINT, DERATE or REACH stands at it.
pub lagging_asks_nothing : (h : Hour) (is_excluded : Bool) (i : ℕ) → lags (interval h i) ≡ true → outcome_at h is_excluded i ≡ gives (pos 0)
unfolding outcome_at outcome
lagging_asks_nothing h true i e = refl
lagging_asks_nothing h false i e = rw e

-- All contributions of an excluded hour are 0.
pub excluded_contributes_nothing : (h : Hour) (i : ℕ) → contribution h true i ≡ pos 0
unfolding outcome_at
excluded_contributes_nothing h i = refl

-- An excluded hour that none of the checks 1 to 5 and 8 refuses pays 0.
pub excluded_pays_nothing :
    (h : Hour) (expected : Expected) (room : ℕ)
    → WholeHour h expected
    → h.n ≤ room
    → reply h true expected room ≡ paid (pos 0) (pos 0)
unfolding outcome_at cents_of
excluded_pays_nothing h expected room f u =
    let none = sum_zeros (contribution h true) h.n (λ i v. refl) in
    let unstopped = (none_stopped (outcome_at h true) h.n).1 (λ i v number e. impossible cc) in
    (paid_when (block_fault h expected) (outcome_at h true) h.n room (pos 0) (pos 0)).1 ((whole_when (parts_of h) expected).1 f, unstopped, u, sym none, rw none)

-- An hour is paid exactly when no check refuses it, and then with the sum of its contributions and that sum's cents.
pub paid_exactly_when_nothing_refuses :
    (h : Hour) (is_excluded : Bool) (expected : Expected) (room : ℕ) (sum cents : ℤ)
    → (reply h is_excluded expected room ≡ paid sum cents)
    ↔ (Passes h is_excluded expected room
    × (sum ≡ sum_to (contribution h is_excluded) h.n)
    × (cents ≡ cents_of (sum_to (contribution h is_excluded) h.n)))
paid_exactly_when_nothing_refuses h is_excluded expected room sum cents =
    let it = paid_when (block_fault h expected) (outcome_at h is_excluded) h.n room sum cents in (
      λ e. let w = it.0 e in (record { whole = (whole_when (parts_of h) expected).0 w.0; intervals = w.1; fits = w.2 }, w.3, w.4),
      λ w. it.1 ((whole_when (parts_of h) expected).1 w.0.whole, w.0.intervals, w.0.fits, w.1, w.2),
    )

-- S is the sum of contributions; its cents are the nearest, rounded once.
pub rounded_once :
    (h : Hour) (is_excluded : Bool) (expected : Expected) (room : ℕ) (sum cents : ℤ)
    → reply h is_excluded expected room ≡ paid sum cents
    → (sum ≡ sum_to (contribution h is_excluded) h.n) × (cents ≡ cents_of (sum_to (contribution h is_excluded) h.n))
rounded_once h is_excluded expected room sum cents e = let w = (paid_exactly_when_nothing_refuses h is_excluded expected room sum cents).0 e in (w.1, w.2)

-- ---- the checks, in their order over the whole block: each exactly when none before it refuses, whatever a later one would find

-- FORM of a record: a curve has more than 12 steps, at its line, or a block more than 30 intervals, at line 34.
pub form_comes_first :
    (h : Hour) (is_excluded : Bool) (expected : Expected) (room line : ℕ)
    → (reply h is_excluded expected room ≡ refused FORM line) ↔ (form h ≡ fault FORM line)
form_comes_first h is_excluded expected room line = turn_given (generator h is_excluded expected) room FORM 0 line refl refl refl Iff.rfl

-- RANGE is given exactly when a number is outside its range, at the first such line.
pub range_exactly_when_outside :
    (h : Hour) (is_excluded : Bool) (expected : Expected) (room line : ℕ)
    → (reply h is_excluded expected room ≡ refused RANGE line) ↔ ((form h ≡ clear) × FirstOutOfRange (parts_of h) expected line)
range_exactly_when_outside h is_excluded expected room line = turn_given (generator h is_excluded expected) room RANGE 1 line refl refl refl (range_finds (parts_of h) expected line)

-- ORDER is given exactly when an hour is expected and the block says another, at 1.
pub order_exactly_when_another_hour :
    (h : Hour) (is_excluded : Bool) (expected : Expected) (room place : ℕ)
    → (reply h is_excluded expected room ≡ refused ORDER place) ↔ ((form h ≡ clear) × (range h expected ≡ clear) × (place ≡ 1) × SaysAnotherHour h.hour expected)
order_exactly_when_another_hour h is_excluded expected room place =
    Iff.trans (turn_given (generator h is_excluded expected) room ORDER 2 place refl refl refl (order_finds (parts_of h) place expected)) of_four

-- CURVE is given exactly when a curve rule is broken, at line 2 or 3, the first.
pub curve_exactly_when_broken :
    (h : Hour) (is_excluded : Bool) (expected : Expected) (room line : ℕ)
    → (reply h is_excluded expected room ≡ refused CURVE line) ↔ ((form h ≡ clear) × (range h expected ≡ clear) × (order h expected ≡ clear) × FirstCurveBroken (parts_of h) line)
curve_exactly_when_broken h is_excluded expected room line =
    Iff.trans (turn_given (generator h is_excluded expected) room CURVE 3 line refl refl refl (curves_find (parts_of h) line)) of_four

-- SECONDS is given exactly when the seconds do not sum to 3600, at 0.
pub seconds_exactly_when_not_3600 :
    (h : Hour) (is_excluded : Bool) (expected : Expected) (room place : ℕ)
    → (reply h is_excluded expected room ≡ refused SECONDS place)
    ↔ (Lawful h expected × (place ≡ 0) × (sum_to (λ i. (interval h i).s.0) h.n ≡ pos 3600 → ⊥))
seconds_exactly_when_not_3600 h is_excluded expected room place =
    Iff.trans (turn_given (generator h is_excluded expected) room SECONDS 4 place refl refl refl (seconds_find (parts_of h) place)) (Iff.trans (past_lawful (parts_of h) expected) of_three)

-- DERATE is given exactly when no check from 1 to 5 refuses and the reduction of an eligible interval exceeds the room for it: at the
-- first such interval, and where no POINT and no REACH comes first. REACH has the like, above, and POINT in PointDemands.
pub derate_exactly_when_exceeded :
    (h : Hour) (is_excluded : Bool) (expected : Expected) (room i : ℕ)
    → (reply h is_excluded expected room ≡ refused DERATE (i + 1)) ↔ (WholeHour h expected × FirstExceeded h is_excluded i)
derate_exactly_when_exceeded h is_excluded expected room i =
    Iff.trans (stop_given (generator h is_excluded expected) room DERATE refl i) (Iff.and (whole_when (parts_of h) expected) (first_exceeded h is_excluded i))

-- So an hour is refused for derate exactly when no check from 1 to 5 refuses it, the reduction of some eligible interval exceeds the room
-- for it, and no point or reach refusal comes before that interval, which itself has its point.
pub refused_for_derate_exactly_when_some_reduction_exceeds :
    (h : Hour) (is_excluded : Bool) (expected : Expected) (room : ℕ)
    → ((place : ℕ) × (reply h is_excluded expected room ≡ refused DERATE place)) ↔ (WholeHour h expected × SomeExceeded h is_excluded)
refused_for_derate_exactly_when_some_reduction_exceeds h is_excluded expected room =
    Iff.trans (some_given (generator h is_excluded expected) room DERATE refl) (Iff.and (whole_when (parts_of h) expected) (some_exceeded h is_excluded))

-- ROOM is given exactly when no other check refuses and the lent row is shorter than the interval count, at 0.
pub room_exactly_when_short :
    (h : Hour) (is_excluded : Bool) (expected : Expected) (room place : ℕ)
    → (reply h is_excluded expected room ≡ refused ROOM place)
    ↔ (WholeHour h expected × (intervals h is_excluded ≡ clear) × (place ≡ 0) × (room < h.n))
room_exactly_when_short h is_excluded expected room place =
    let it = room_given (generator h is_excluded expected) room place refl refl in
    (λ e. let w = it.0 e in ((whole_when (parts_of h) expected).0 w.0, w.1, w.2, w.3), λ w. it.1 ((whole_when (parts_of h) expected).1 w.0, w.1, w.2, w.3))

-- ---- the lent row

-- Paid: the first entries, one per interval, are the contributions, and later ones are as before.
pub paid_row :
    (h : Hour) (is_excluded : Bool) (expected : Expected) (row : List ℤ) (sum cents : ℤ)
    → reply h is_excluded expected (length row) ≡ paid sum cents
    → ((i : ℕ) → i < h.n → get_or (row_after h is_excluded expected row) i (pos 0) ≡ contribution h is_excluded i)
    × ((i : ℕ) → h.n ≤ i → get_or (row_after h is_excluded expected row) i (pos 0) ≡ get_or row i (pos 0))
    × (length (row_after h is_excluded expected row) ≡ length row)
paid_row h is_excluded expected = row_paid_lem (block_fault h expected) (outcome_at h is_excluded) h.n

-- Refused: no entry is changed.
pub refused_row :
    (h : Hour) (is_excluded : Bool) (expected : Expected) (row : List ℤ) (number place : ℕ)
    → reply h is_excluded expected (length row) ≡ refused number place
    → row_after h is_excluded expected row ≡ row
refused_row h is_excluded expected = row_refused (block_fault h expected) (outcome_at h is_excluded) h.n

-- ---- no two different replies satisfy a contract

pub one_reply : (a b : Answer) (r : Reply) → told a ≡ r → told b ≡ r → a ≡ b
one_reply a b r p q = sym (answer_back a) ∙ ap answer_of (p ∙ sym q) ∙ answer_back b

pub one_finding : (a b : Found) (v : Verdict) → shown a ≡ v → shown b ≡ v → a ≡ b
one_finding a b v p q = sym (finding_back a) ∙ ap finding_of (p ∙ sym q) ∙ finding_back b

-- ---- the curve: the price of a kilowatt, and the integral

-- Kilowatt k has a price when start ≤ k < last end.
pub priced_between :
    (c : Curve)
    → curve_keeps c ≡ true
    → (k : ℤ)
    → ((p : ℤ) × (quote c k ≡ known p)) ↔ ((c.start.0 ≤ℤ k) × (0 < c.n) × (k <ℤ end_of c (c.n - 1)))
priced_between c keeps k = (λ w. priced_when c keeps k w.0 w.1, when_priced c keeps k)

-- Each step runs to its end at its price.
pub price_of_step :
    (c : Curve)
    → curve_keeps c ≡ true
    → (j : ℕ) (k : ℤ)
    → j < c.n
    → begin_of c j ≤ℤ k
    → k <ℤ end_of c j
    → quote c k ≡ known (price_of c j)
price_of_step = step_quoted

-- An integral taken downward is the negative of the upward one.
pub downward_is_the_negative : (c : Curve) (a b : ℤ) → integral c a b ≡ change neg_ℤ (integral c b a)
unfolding integral
downward_is_the_negative c = turned (quote c)
