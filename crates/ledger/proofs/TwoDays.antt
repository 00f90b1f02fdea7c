-- Two days of one kind whose blocks are the same or apart: an hour by its two blocks, and the days by their hours.
use mathlib.Core.Path.{◌≡◌, sym, ap, ◌∙◌}
use mathlib.Core.List.{List}
use Prim.Native.Nat.{ℕ, ◌<◌}
use lib.IntN.{pos}
use Rattle.tariff.specs.declared.Expected.TheVariants.{Says}
use Rattle.tariff.specs.Reply.{Reply}
use Rattle.lines.specs.Pieces.{rest_after, is_some, first_piece, piece}
use Rattle.ledger.specs.Day.{BlockAnswer, Front, day_reply}
use Rattle.ledger.specs.Demand.{SettledAlike, DaysOf}
use Rattle.ledger.proofs.HourOfDay.{hour_clear, hour_by, settled_alike}

module _ (answer : BlockAnswer) (decides : (s : List ℕ) → answer (first_piece s) ≡ answer s) (Apart : List ℕ → List ℕ → Type 0)
    (f g : Front) (d : DaysOf answer Apart f g) where
  module _ (k : ℕ) (u : k < f.hours) where
    abbrev reply_in : List ℕ → Reply
    reply_in body = answer (piece k body) (f.is_excluded k) (Says (pos k) f.hours)

    pub one_hour_lem : day_reply f k ≡ reply_in f.body
    one_hour_lem =
        hour_clear f d.one_read k
        ∙ hour_by f answer d.one_kind k
        ∙ (λ i. sym (decides (rest_after k f.body)) i (f.is_excluded k) (Says (pos k) f.hours))

    pub other_hour : day_reply g k ≡ reply_in g.body
    other_hour =
        hour_clear g d.other_read_lem k
        ∙ hour_by g answer d.other_kind k
        ∙ (λ i. sym (decides (rest_after k g.body)) i (sym (d.excluded k u) i) (Says (pos k) (sym d.hours i)))

  pub hours_settled : ((k : ℕ) (u : k < f.hours) → reply_in k u f.body ≡ reply_in k u g.body) → SettledAlike f g
  hours_settled same =
      settled_alike f g d.one_read d.other_read_lem d.hours
      (λ k u. one_hour_lem k u ∙ same k u ∙ sym (other_hour k u)) (ap is_some d.surplus)
