-- The checks of an hour in their order: FORM, RANGE, ORDER, CURVE and SECONDS over the block, each in its turn, and then POINT, DERATE
-- and REACH, which stop an interval. The block's are one list of turns for every kind of hour.
use mathlib.Core.Path.{◌≡◌, sym, ap, ◌∙◌}
use mathlib.Core.Bool.{Bool, true}
use mathlib.Core.List.{List, [], ◌∷◌}
use mathlib.Core.Logic.{◌↔◌, ⊎_elim}
use Prim.Native.Nat.{ℕ}
use lib.ListN.{take}
use Rattle.tariff.specs.declared.Hour.{Hour}
use Rattle.tariff.specs.declared.IclHour.{IclHour}
use Rattle.tariff.specs.declared.Expected.{Expected}
use Rattle.tariff.specs.Reply.{FORM, RANGE, ORDER, CURVE, SECONDS, DERATE, REACH, POINT, Verdict, clear, ◌then◌}
use Rattle.tariff.specs.Checks.{Parts, form_of, range_of, order_of, curves_of, seconds_of, fault_of}
use Rattle.tariff.specs.Outcome.{Outcome, stops}
use Rattle.tariff.specs.Hour.{parts_of, outcome_at}
use Rattle.tariff.specs.Controllable.{icl_parts, icl_outcome_at}
use Rattle.tariff.specs.Demand.{LawfulBlock, WholeBlock}
use Rattle.tariff.proofs.Checks.{then_nothing}
use Rattle.tariff.proofs.Turns.{Turn, is_in, in_turn, Past, turns_clear}
use Rattle.tariff.proofs.Given.{AnyHour}
use Rattle.tariff.proofs.Numbers.{form_only, range_only, order_only, curves_only, seconds_only}
use Rattle.tariff.proofs.Needed.{stops_are}
use Rattle.tariff.proofs.IclNeeded.{icl_stops_are}

module _ (p : Parts) (expected : Expected) where
  abbrev pub turns : List Turn
  turns =
      record { number = FORM; finds = form_of p; own = form_only p }
      ∷ record { number = RANGE; finds = range_of p expected; own = range_only p expected }
      ∷ record { number = ORDER; finds = order_of p expected; own = order_only p expected }
      ∷ record { number = CURVE; finds = curves_of p; own = curves_only p }
      ∷ record { number = SECONDS; finds = seconds_of p; own = seconds_only p }
      ∷ []

  pub in_turn_lem : fault_of p expected ≡ in_turn turns
  unfolding in_turn
  in_turn_lem = ap (λ (v : Verdict). form_of p then range_of p expected then order_of p expected then curves_of p then v) (sym (then_nothing (seconds_of p)))

  -- ---- blocks that they do not refuse

  pub past_lawful : {P : Type 0} → Past (take 4 turns) P ↔ (LawfulBlock p expected × P)
  past_lawful = (
    λ w. (record { form = w.0; range = w.1.0; order = w.1.1.0; curves = w.1.1.1.0 }, w.1.1.1.1),
    λ w. (w.0.form, (w.0.range, (w.0.order, (w.0.curves, w.1)))),
  )

  pub whole_when : (fault_of p expected ≡ clear) ↔ WholeBlock p expected
  whole_when = (
    λ e. let w = past_lawful.0 ((turns_clear turns).0 (sym in_turn_lem ∙ e)) in record { lawful = w.0; seconds = w.1.0 },
    λ f. in_turn_lem ∙ (turns_clear turns).1 (past_lawful.1 (f.lawful, (f.seconds, tt))),
  )

-- two blocks that no check from 1 to 4 refuses are judged by their seconds
pub lawful_same : (p q : Parts) (expected : Expected) → LawfulBlock p expected → LawfulBlock q expected → seconds_of p ≡ seconds_of q
    → fault_of p expected ≡ fault_of q expected
lawful_same p q expected f g e = rw (f.form, f.range, f.order, f.curves, g.form, g.range, g.order, g.curves) e

-- ---- with what stops an interval: of a generator each of the three, of an internal controllable line REACH alone

abbrev pub causes : List ℕ
causes = POINT ∷ DERATE ∷ REACH ∷ []

abbrev pub any_hour : (p : Parts) → Expected → (outcome : ℕ → Outcome) → ((i number : ℕ) → outcome i ≡ stops number → is_in number causes ≡ true) → AnyHour
any_hour p expected outcome caused =
    record {
      block = fault_of p expected;
      turns = turns p expected;
      in_turn_lem = in_turn_lem p expected;
      n = p.n;
      outcome = outcome;
      causes = causes;
      caused = caused;
    }

abbrev pub generator : Hour → Bool → Expected → AnyHour
generator h is_excluded expected =
    any_hour (parts_of h) expected (outcome_at h is_excluded) (λ i number e. ⊎_elim (λ w. rw w) (λ w. ⊎_elim (λ q. rw q) (λ q. rw q) w) (stops_are h is_excluded i number e))

abbrev pub controllable : IclHour → Bool → Expected → AnyHour
controllable h is_excluded expected =
    any_hour (icl_parts h) expected (icl_outcome_at h is_excluded) (λ i number e. let w = icl_stops_are h is_excluded i number e in rw w)
