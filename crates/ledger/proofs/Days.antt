-- From a front that is read or refused to the day: its answers and its total.
use mathlib.Core.Path.{◌≡◌, refl, sym, ap, ◌∙◌}
use mathlib.Core.List.{List}
use Prim.Native.Nat.{ℕ, ◌<◌, ◌≤◌}
use native.Mathlib.Nat.{zero-add}
use native.Mathlib.Omega.{arith}
use lib.ListN.{replicate}
use Rattle.exact.specs.Whole.{up_to}
use Rattle.tariff.specs.declared.Answer.TheVariants.{Refused}
use Rattle.tariff.specs.declared.Check.{Check}
use Rattle.tariff.specs.Sheet.{LONGEST_DAY}
use Rattle.tariff.specs.Reply.{Verdict, clear, fault, otherwise, number_of, place_of, told}
use Rattle.tariff.specs.Total.{no_total, told_total, told_all}
use Rattle.tariff.proofs.HourAnswers.{told_same}
use Rattle.lines.specs.Pieces.{rest_after, is_some}
use Rattle.lines.specs.Line.{filled}
use Rattle.lines.proofs.Fill.{filled_same, fill_rest}
use Rattle.marks.specs.Word.{word}
use Rattle.marks.proofs.Rows.{marked_word}
use Rattle.ledger.specs.declared.hours.Settled.{Settled}
use Rattle.ledger.specs.Day.{BlockAnswer, Front, day_reply, day_total}
use Rattle.ledger.specs.Demand.{SettledAlike}
use Rattle.ledger.specs.Walk.{word_front, absent, held_replies, SettledTo}
use Rattle.ledger.proofs.HourOfDay.{refused_hour, no_total_lem, hour_same, settled_alike}

module _ (f : Front) where
  -- ---- a refused front
  module _ (check : Check) (e : f.fault ≡ fault (number_of check) (place_of check)) where
    pub all_refused : f.hours ≤ LONGEST_DAY → told_all (replicate LONGEST_DAY (Refused check)) ≡ held_replies f
    unfolding up_to
    all_refused few =
        let behind : otherwise f.fault absent ≡ told (Refused check) = ap (λ (v : Verdict). otherwise v absent) e in
        told_same (Refused check) LONGEST_DAY
        ∙ rw zero-add at (fill_rest (day_reply f) (told (Refused check)) 0 LONGEST_DAY f.hours (omega arith) (λ k u. refused_hour f _ _ e k))
        ∙ ap (filled f.hours LONGEST_DAY (day_reply f)) (sym behind)

    pub total_withheld : 0 < f.hours → no_total ≡ day_total f
    total_withheld u = sym (no_total_lem f _ _ e u)

  -- ---- a front that is read: the word of its excluded hours and the text behind it are settled as it is
  module _ (answer : BlockAnswer) (kind : answer ≡ f.answer)
      (e : f.fault ≡ clear) (w : ℕ) (says : w ≡ word f.hours f.is_excluded) (b : List ℕ) (body : b ≡ f.body) where
    abbrev walked : Front
    walked = word_front answer w b f.hours

    alike : SettledAlike walked f
    alike =
        settled_alike walked f refl e refl
        (λ k u. hour_same walked f k (sym e) refl (rw says (marked_word f.is_excluded f.hours k u))
        (λ i. kind i (rest_after k (body i))))
        (ap (λ (t : List ℕ). is_some (rest_after f.hours t)) body)

    module _ (r : Settled) (s : SettledTo walked r) where
      pub replies_are : told_all r.hours ≡ held_replies f
      replies_are =
          s.answers
          ∙ filled_same (day_reply walked) (day_reply f) absent f.hours LONGEST_DAY alike.answers
          ∙ ap (λ (v : Verdict). filled f.hours LONGEST_DAY (day_reply f) (otherwise v absent)) (sym e)

      pub total_is : told_total r.total ≡ day_total f
      total_is = s.sum ∙ alike.total
