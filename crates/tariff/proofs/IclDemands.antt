-- The theorems of an internal controllable line's hour: demand 3 with the kilowatts between AEI and DASI, when it is refused, what it pays, and
-- the lent row.
use mathlib.Core.Path.{◌≡◌, refl, sym, ◌∙◌, ap}
use mathlib.Core.Bool.{Bool, true, false}
use mathlib.Core.List.{List}
use mathlib.Core.Logic.Iff
use mathlib.Core.Logic.{◌↔◌}
use Prim.Native.Nat.{ℕ, ◌+◌, ◌<◌, ◌≤◌}
use native.Mathlib.Omega.{arith}
use lib.ListN.{length, get_or}
use lib.IntN.{ℤ, pos}
use lib.Signed.{lt_z}
use Rattle.exact.specs.Whole.{sum_to}
use Rattle.exact.proofs.Apart.{impossible}
use Rattle.exact.proofs.Sums.{sum_zeros}
use Rattle.tariff.specs.declared.IclHour.{IclHour}
use Rattle.tariff.specs.declared.Expected.{Expected}
use Rattle.tariff.specs.Units.{cents_of}
use Rattle.tariff.specs.Curve.{known, integral}
use Rattle.tariff.specs.Contributions.{energy_by}
use Rattle.tariff.specs.Reply.{paid, refused, FORM, RANGE, ORDER, CURVE, SECONDS, DERATE, REACH, ROOM, POINT, clear, fault}
use Rattle.tariff.specs.Checks.{form_of, range_of, order_of, seconds_of}
use Rattle.tariff.specs.Controllable.{icl_interval, icl_parts, icl_fault, icl_lower_grains, icl_upper_grains, icl_energy, icl_outcome_at, icl_intervals, icl_contribution, icl_reply, icl_row_after}
use Rattle.tariff.specs.Demand.{FirstOutOfRange, FirstCurveBroken, SaysAnotherHour, Extends}
use Rattle.tariff.specs.ControllableDemand.{IclMustPrice, icl_price_in, IclFirstUnpriced, IclSomeUnpriced, IclLawful, IclWholeHour, IclPasses, IclAlike}
use Rattle.tariff.proofs.Turns.{of_three, of_four}
use Rattle.tariff.proofs.Stops.{none_stopped}
use Rattle.tariff.proofs.AnyHour.{paid_when, row_paid_lem, row_refused, same_both}
use Rattle.tariff.proofs.Given.{turn_given, stop_given, some_given, room_given}
use Rattle.tariff.proofs.Ordered.{past_lawful, whole_when, lawful_same, controllable}
use Rattle.tariff.proofs.Finds.{range_finds, order_finds, curves_find, seconds_find}
use Rattle.tariff.proofs.IclNeeded.{icl_stops_are, icl_first_unpriced, icl_some_unpriced, icl_path, icl_alike_outcome, icl_extended_price}

-- ---- demand 3

-- Only the prices of the kilowatts between AEI and DASI matter: two hours that are alike in all but their curves, that no check from 1 to 4
-- refuses, and whose prices agree on every kilowatt that must be priced, have one reply and one row.
pub icl_only_needed_prices_matter :
    (h g : IclHour) (is_excluded : Bool) (expected : Expected) (row : List ℤ)
    → IclAlike h g
    → IclLawful h expected
    → IclLawful g expected
    → ((i : ℕ) (k : ℤ) → IclMustPrice h is_excluded i k → icl_price_in h i k ≡ icl_price_in g i k)
    → (icl_reply h is_excluded expected (length row) ≡ icl_reply g is_excluded expected (length row))
    × (icl_row_after h is_excluded expected row ≡ icl_row_after g is_excluded expected row)
icl_only_needed_prices_matter h g is_excluded expected row a f f' prices =
    same_both _ _ (icl_outcome_at h is_excluded) (icl_outcome_at g is_excluded) h.n g.n
    (lawful_same (icl_parts h) (icl_parts g) expected f f' (ap (λ (x : IclHour). seconds_of (icl_parts x)) (icl_path h g a)))
    a.n (λ i u. icl_alike_outcome h g a is_excluded i u (prices i)) row

-- REACH is given exactly when no check from 1 to 5 refuses and a kilowatt that must be priced has no price: at the first interval that has one.
pub icl_reach_exactly_when_unpriced :
    (h : IclHour) (is_excluded : Bool) (expected : Expected) (room i : ℕ)
    → (icl_reply h is_excluded expected room ≡ refused REACH (i + 1)) ↔ (IclWholeHour h expected × IclFirstUnpriced h is_excluded i)
icl_reach_exactly_when_unpriced h is_excluded expected room i =
    Iff.trans (stop_given (controllable h is_excluded expected) room REACH refl i) (Iff.and (whole_when (icl_parts h) expected) (icl_first_unpriced h is_excluded i))

-- So an hour is refused for reach exactly when no check from 1 to 5 refuses it and a kilowatt that some interval must price has no price.
pub icl_refused_for_reach_exactly_when_some_kilowatt_is_unpriced :
    (h : IclHour) (is_excluded : Bool) (expected : Expected) (room : ℕ)
    → ((place : ℕ) × (icl_reply h is_excluded expected room ≡ refused REACH place)) ↔ (IclWholeHour h expected × IclSomeUnpriced h is_excluded)
icl_refused_for_reach_exactly_when_some_kilowatt_is_unpriced h is_excluded expected room =
    Iff.trans (some_given (controllable h is_excluded expected) room REACH refl) (Iff.and (whole_when (icl_parts h) expected) (icl_some_unpriced h is_excluded))

-- Adding curve to a paid hour never moves a cent, where the longer curves break no rule of checks 1 to 4: with every price that its
-- curves had, and perhaps more, it pays the same and leaves the same row.
pub icl_adding_curve_changes_nothing :
    (h g : IclHour) (is_excluded : Bool) (expected : Expected) (row : List ℤ) (sum cents : ℤ)
    → IclAlike h g
    → IclLawful g expected
    → Extends h.da g.da
    → Extends h.rt g.rt
    → icl_reply h is_excluded expected (length row) ≡ paid sum cents
    → (icl_reply g is_excluded expected (length row) ≡ paid sum cents) × (icl_row_after g is_excluded expected row ≡ icl_row_after h is_excluded expected row)
icl_adding_curve_changes_nothing h g is_excluded expected row sum cents a f da rt e =
    let passes = (paid_when (icl_fault h expected) (icl_outcome_at h is_excluded) h.n (length row) sum cents).0 e in
    let same =
    icl_only_needed_prices_matter h g is_excluded expected row a ((whole_when (icl_parts h) expected).0 passes.0).lawful f
    (icl_extended_price h g a is_excluded da rt passes.1)
    in
    (sym same.0 ∙ e, sym same.1)

-- ---- what an interval contributes, and what an hour pays

-- The real-time schedule below the day-ahead one: less what the day-ahead curve costs from AEI to DASI.
pub icl_below_its_schedule :
    (h : IclHour) (i : ℕ) (cost : ℤ)
    → lt_z (icl_interval h i).en.0 h.dasi.0 ≡ true
    → integral h.da (icl_interval h i).aei.0 h.dasi.0 ≡ known cost
    → icl_contribution h false i ≡ icl_lower_grains h.dasi h.dasw (icl_interval h i) cost
unfolding icl_outcome_at icl_energy energy_by
icl_below_its_schedule h i cost below costs = rw (below, costs)

-- At it or above: with what the real-time curve costs from DASI to AEI, and the whole capped at 0.
pub icl_at_or_above_its_schedule :
    (h : IclHour) (i : ℕ) (cost : ℤ)
    → lt_z (icl_interval h i).en.0 h.dasi.0 ≡ false
    → integral h.rt h.dasi.0 (icl_interval h i).aei.0 ≡ known cost
    → icl_contribution h false i ≡ icl_upper_grains h.dasi h.dasw (icl_interval h i) cost
unfolding icl_outcome_at icl_energy energy_by
icl_at_or_above_its_schedule h i cost above costs = rw (above, costs)

-- An hour is paid exactly when no check refuses it, and then with the sum of its contributions and that sum's cents.
pub icl_paid_exactly_when_nothing_refuses :
    (h : IclHour) (is_excluded : Bool) (expected : Expected) (room : ℕ) (sum cents : ℤ)
    → (icl_reply h is_excluded expected room ≡ paid sum cents)
    ↔ (IclPasses h is_excluded expected room
    × (sum ≡ sum_to (icl_contribution h is_excluded) h.n)
    × (cents ≡ cents_of (sum_to (icl_contribution h is_excluded) h.n)))
icl_paid_exactly_when_nothing_refuses h is_excluded expected room sum cents =
    let it = paid_when (icl_fault h expected) (icl_outcome_at h is_excluded) h.n room sum cents in (
      λ e. let w = it.0 e in (record { whole = (whole_when (icl_parts h) expected).0 w.0; intervals = w.1; fits = w.2 }, w.3, w.4),
      λ w. it.1 ((whole_when (icl_parts h) expected).1 w.0.whole, w.0.intervals, w.0.fits, w.1, w.2),
    )

-- In an hour that is not marked no interval contributes.
pub icl_unmarked_contributes_nothing : (h : IclHour) (i : ℕ) → icl_contribution h true i ≡ pos 0
unfolding icl_outcome_at
icl_unmarked_contributes_nothing h i = refl

-- An hour that is not marked, and that none of the checks 1 to 5 and 8 refuses, pays 0.
pub icl_unmarked_pays_nothing :
    (h : IclHour) (expected : Expected) (room : ℕ)
    → IclWholeHour h expected
    → h.n ≤ room
    → icl_reply h true expected room ≡ paid (pos 0) (pos 0)
unfolding icl_outcome_at cents_of
icl_unmarked_pays_nothing h expected room f u =
    let none = sum_zeros (icl_contribution h true) h.n (λ i v. refl) in
    let unstopped = (none_stopped (icl_outcome_at h true) h.n).1 (λ i v number e. impossible cc) in
    (paid_when (icl_fault h expected) (icl_outcome_at h true) h.n room (pos 0) (pos 0)).1 ((whole_when (icl_parts h) expected).1 f, unstopped, u, sym none, rw none)

-- ---- the checks, in their order over the whole block: each exactly when none before it refuses, whatever a later one would find

pub icl_form_comes_first :
    (h : IclHour) (is_excluded : Bool) (expected : Expected) (room line : ℕ)
    → (icl_reply h is_excluded expected room ≡ refused FORM line) ↔ (form_of (icl_parts h) ≡ fault FORM line)
icl_form_comes_first h is_excluded expected room line = turn_given (controllable h is_excluded expected) room FORM 0 line refl refl refl Iff.rfl

pub icl_range_exactly_when_outside :
    (h : IclHour) (is_excluded : Bool) (expected : Expected) (room line : ℕ)
    → (icl_reply h is_excluded expected room ≡ refused RANGE line) ↔ ((form_of (icl_parts h) ≡ clear) × FirstOutOfRange (icl_parts h) expected line)
icl_range_exactly_when_outside h is_excluded expected room line =
    turn_given (controllable h is_excluded expected) room RANGE 1 line refl refl refl (range_finds (icl_parts h) expected line)

pub icl_order_exactly_when_another_hour :
    (h : IclHour) (is_excluded : Bool) (expected : Expected) (room place : ℕ)
    → (icl_reply h is_excluded expected room ≡ refused ORDER place)
    ↔ ((form_of (icl_parts h) ≡ clear) × (range_of (icl_parts h) expected ≡ clear) × (place ≡ 1) × SaysAnotherHour h.hour expected)
icl_order_exactly_when_another_hour h is_excluded expected room place =
    Iff.trans (turn_given (controllable h is_excluded expected) room ORDER 2 place refl refl refl (order_finds (icl_parts h) place expected)) of_four

pub icl_curve_exactly_when_broken :
    (h : IclHour) (is_excluded : Bool) (expected : Expected) (room line : ℕ)
    → (icl_reply h is_excluded expected room ≡ refused CURVE line)
    ↔ ((form_of (icl_parts h) ≡ clear) × (range_of (icl_parts h) expected ≡ clear) × (order_of (icl_parts h) expected ≡ clear) × FirstCurveBroken (icl_parts h) line)
icl_curve_exactly_when_broken h is_excluded expected room line =
    Iff.trans (turn_given (controllable h is_excluded expected) room CURVE 3 line refl refl refl (curves_find (icl_parts h) line)) of_four

pub icl_seconds_exactly_when_not_3600 :
    (h : IclHour) (is_excluded : Bool) (expected : Expected) (room place : ℕ)
    → (icl_reply h is_excluded expected room ≡ refused SECONDS place)
    ↔ (IclLawful h expected × (place ≡ 0) × (sum_to (λ i. (icl_interval h i).s.0) h.n ≡ pos 3600 → ⊥))
icl_seconds_exactly_when_not_3600 h is_excluded expected room place =
    Iff.trans (turn_given (controllable h is_excluded expected) room SECONDS 4 place refl refl refl (seconds_find (icl_parts h) place))
    (Iff.trans (past_lawful (icl_parts h) expected) of_three)

-- DERATE is never given, at no place: no 25.5 applies. Nor is POINT: there is no operating point.
pub icl_never_derate :
    (h : IclHour) (is_excluded : Bool) (expected : Expected) (room place : ℕ)
    → icl_reply h is_excluded expected room ≡ refused DERATE place
    → ⊥
icl_never_derate h is_excluded expected room place e =
    let w = ((some_given (controllable h is_excluded expected) room DERATE refl).0 (place, e)).1 in
    let same = icl_stops_are h is_excluded w.at DERATE w.here in
    absurd (omega arith)

pub icl_never_point :
    (h : IclHour) (is_excluded : Bool) (expected : Expected) (room place : ℕ)
    → icl_reply h is_excluded expected room ≡ refused POINT place
    → ⊥
icl_never_point h is_excluded expected room place e =
    let w = ((some_given (controllable h is_excluded expected) room POINT refl).0 (place, e)).1 in
    let same = icl_stops_are h is_excluded w.at POINT w.here in
    absurd (omega arith)

pub icl_room_exactly_when_short :
    (h : IclHour) (is_excluded : Bool) (expected : Expected) (room place : ℕ)
    → (icl_reply h is_excluded expected room ≡ refused ROOM place)
    ↔ (IclWholeHour h expected × (icl_intervals h is_excluded ≡ clear) × (place ≡ 0) × (room < h.n))
icl_room_exactly_when_short h is_excluded expected room place =
    let it = room_given (controllable h is_excluded expected) room place refl refl in
    (λ e. let w = it.0 e in ((whole_when (icl_parts h) expected).0 w.0, w.1, w.2, w.3), λ w. it.1 ((whole_when (icl_parts h) expected).1 w.0, w.1, w.2, w.3))

-- ---- the lent row

-- Paid: the first entries, one per interval, are the contributions, and later ones are as before.
pub icl_paid_row :
    (h : IclHour) (is_excluded : Bool) (expected : Expected) (row : List ℤ) (sum cents : ℤ)
    → icl_reply h is_excluded expected (length row) ≡ paid sum cents
    → ((i : ℕ) → i < h.n → get_or (icl_row_after h is_excluded expected row) i (pos 0) ≡ icl_contribution h is_excluded i)
    × ((i : ℕ) → h.n ≤ i → get_or (icl_row_after h is_excluded expected row) i (pos 0) ≡ get_or row i (pos 0))
    × (length (icl_row_after h is_excluded expected row) ≡ length row)
icl_paid_row h is_excluded expected = row_paid_lem (icl_fault h expected) (icl_outcome_at h is_excluded) h.n

-- Refused: no entry is changed.
pub icl_refused_row :
    (h : IclHour) (is_excluded : Bool) (expected : Expected) (row : List ℤ) (number place : ℕ)
    → icl_reply h is_excluded expected (length row) ≡ refused number place
    → icl_row_after h is_excluded expected row ≡ row
icl_refused_row h is_excluded expected = row_refused (icl_fault h expected) (icl_outcome_at h is_excluded) h.n
