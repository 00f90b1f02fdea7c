-- The fronts of a kind of sheet, whatever stands in them: what is kept of a sheet, and a sheet with bytes more behind it, is settled alike.
use mathlib.Core.Path.{◌≡◌, refl, sym, ap, ◌∙◌}
use mathlib.Core.Bool.{true}
use mathlib.Core.List.{List, ◌++◌}
use Prim.Native.Nat.{ℕ, ◌+◌, ◌≤◌, ◌<◌}
use native.Mathlib.Omega.{arith}
use Rattle.tariff.specs.Sheet.{LONGEST_DAY}
use Rattle.tariff.specs.Reply.{Verdict, clear, fault}
use Rattle.lines.specs.Pieces.{rest_after, is_some, piece}
use Rattle.lines.specs.Squeezed.{squeezed}
use Rattle.lines.proofs.Appended.{pieces_append, follows_append}
use Rattle.lines.proofs.Pieces.{rest_rest}
use Rattle.lines.proofs.Squeezed.{rest_stands}
use Rattle.intake.specs.Intake.{kept_of, at_first}
use Rattle.intake.proofs.Kept.{FirstKept, short, some_kept, rests, piece_kept}
use Rattle.ledger.specs.Day.{BlockAnswer, Front, day_reply}
use Rattle.ledger.specs.Demand.{SettledAlike}
use Rattle.ledger.proofs.HourOfDay.{hour_same, settled_alike, both_refused}

-- two fronts that say the same of their hours
pub record SameFront (f g : Front) : Type 0 where
  pub fault : f.fault ≡ g.fault
  pub header : f.header ≡ g.header
  pub hours : f.hours ≡ g.hours
  pub is_excluded : (k : ℕ) → k < g.hours → f.is_excluded k ≡ g.is_excluded k

-- with the same blocks, answered in the same way, they are settled alike
pub same_settled : (f g : Front) → SameFront f g → f.answer ≡ g.answer → f.body ≡ g.body → 0 < g.hours → SettledAlike f g
same_settled f g o kind body some = go g.fault refl
  where
    go : (v : Verdict) → g.fault ≡ v → SettledAlike f g
    go clear e =
        settled_alike f g (o.fault ∙ e) e o.hours
        (λ k u. hour_same f g k o.fault o.hours (o.is_excluded k (rw o.hours at u)) (λ i. kind i (rest_after k (body i))))
        (λ i. is_some (rest_after (o.hours i) (body i)))
    go (fault number place) e = both_refused f g number place (o.fault ∙ e) e o.header o.hours some

-- what a kind of sheet has to keep, of which so many pieces are the front: a day has an hour and no more than the longest has, behind a front that is
-- read stand the blocks, its own pieces decide it, and so does what is kept of these; and a block is answered by its first piece or by its first bytes
pub record FrontLaws (heads : ℕ) (front : List ℕ → Front) (answer : BlockAnswer) : Type 0 where
  pub kind : (s : List ℕ) → (front s).answer ≡ answer
  pub some : (s : List ℕ) → 0 < (front s).hours
  pub few : (s : List ℕ) → (front s).hours ≤ LONGEST_DAY
  pub blocks : (s : List ℕ) → (front s).fault ≡ clear → (front s).body ≡ rest_after heads s
  pub by_first : (s t : List ℕ) → ((k : ℕ) → k < heads → piece k s ≡ piece k t) → SameFront (front s) (front t)
  pub by_kept : (got s : List ℕ) → ((k : ℕ) → k < heads → FirstKept (rest_after k got) (rest_after k (squeezed heads s))) → SameFront (front got) (front s)
  pub by_block : (got text : List ℕ) → FirstKept got text → answer got ≡ answer text

module _ (heads : ℕ) (front : List ℕ → Front) (answer : BlockAnswer) (laws : FrontLaws heads front answer) where
  -- behind a front that is read stands what stands behind its pieces
  rest_of : (s : List ℕ) → (front s).fault ≡ clear → (k : ℕ) → rest_after k (front s).body ≡ rest_after (heads + k) s
  rest_of s e k = ap (rest_after k) (laws.blocks s e) ∙ rest_rest heads k s

  -- ---- two sheets whose fronts say the same, of whose blocks enough is the same, and bytes follow the last of both or of neither
  module _ (got s : List ℕ) (fronts : SameFront (front got) (front s))
      (blocks : (k : ℕ) → k < (front s).hours → FirstKept (rest_after (heads + k) got) (rest_after (heads + k) s))
      (follow : is_some (rest_after (heads + (front s).hours) got) ≡ is_some (rest_after (heads + (front s).hours) s)) where
    module _ (e : (front s).fault ≡ clear) where
      own : (front got).fault ≡ clear
      own = fronts.fault ∙ e

      same_answer : (k : ℕ) → k < (front s).hours
          → (front got).answer (rest_after k (front got).body) ≡ (front s).answer (rest_after k (front s).body)
      same_answer k u =
          (λ i. laws.kind got i (rest_of got own k i))
          ∙ laws.by_block _ _ (blocks k u)
          ∙ (λ i. sym (laws.kind s) i (sym (rest_of s e k) i))

      each : (k : ℕ) → k < (front s).hours → day_reply (front got) k ≡ day_reply (front s) k
      each k u =
          hour_same (front got) (front s) k fronts.fault fronts.hours (fronts.is_excluded k u) (same_answer k u)

      last : is_some (rest_after (front got).hours (front got).body) ≡ is_some (rest_after (front s).hours (front s).body)
      last =
          ap (λ (n : ℕ). is_some (rest_after n (front got).body)) fronts.hours
          ∙ ap is_some (rest_of got own (front s).hours)
          ∙ follow
          ∙ ap is_some (sym (rest_of s e (front s).hours))

    pieces_settle : SettledAlike (front got) (front s)
    pieces_settle = go (front s).fault refl
      where
        go : (v : Verdict) → (front s).fault ≡ v → SettledAlike (front got) (front s)
        go clear e = settled_alike (front got) (front s) (own e) e fronts.hours (λ k u. each e k (rw fronts.hours at u)) (last e)
        go (fault number place) e = both_refused (front got) (front s) number place (fronts.fault ∙ e) e fronts.header fronts.hours (laws.some s)

  -- ---- so what is kept of a sheet settles it
  module _ (s : List ℕ) (pieces : ℕ) (enough : (front s).hours + heads ≤ pieces) where
    abbrev text : List ℕ
    text = squeezed heads s

    pub kept_settled : SettledAlike (front (kept_of (at_first pieces) text)) (front s)
    kept_settled =
        let hours = (front s).hours in
        pieces_settle (kept_of (at_first pieces) text) s
        (laws.by_kept _ s (λ k u. piece_kept pieces text k (omega arith)))
        (λ k u. rw (← rest_stands heads k s) (piece_kept pieces text (heads + k) (omega arith)))
        (ap is_some (rests (heads + hours) pieces text (omega arith)) ∙ some_kept _ _ ∙ ap is_some (rest_stands heads hours s))

  -- ---- and so does a sheet with bytes more, where one stands behind its last block already
  pub append_settled : (s t : List ℕ) → is_some (rest_after (heads + (front s).hours) s) ≡ true → SettledAlike (front (s ++ t)) (front s)
  append_settled s t more =
      let pieces = pieces_append s t (heads + (front s).hours) more in
      pieces_settle (s ++ t) s (laws.by_first (s ++ t) s (λ k u. pieces k (omega arith)))
      (λ k u. short (pieces (heads + k) (omega arith)))
      (follows_append s t (heads + (front s).hours) more)
