-- Which number an hour of any kind is refused for, and where: a check's over the block in its turn, a cause's at the first interval that is
-- stopped, and then ROOM.
use mathlib.Core.Path.{◌≡◌, sym, ◌∙◌}
use mathlib.Core.Bool.{true, false, false≢true}
use mathlib.Core.List.{List, ◌∷◌}
use mathlib.Core.Logic.Iff
use mathlib.Core.Logic.{◌↔◌}
use Prim.Native.Nat.{ℕ, suc, ◌+◌, ◌<◌}
use borrow.Author.Tests.{leb-false, lt-leb}
use lib.Dec.{leb}
use lib.ListN.{get_or, take, drop}
use Rattle.tariff.specs.Reply.{refused, ROOM, Verdict, clear, fault, unless, ◌then◌}
use Rattle.tariff.specs.Outcome.{Outcome, stops, first_stop, reply_by}
use Rattle.tariff.proofs.Checks.{unless_when, Without, without_unless, without_then}
use Rattle.tariff.proofs.Turns.{by_first, by_last, Turn, nothing, numbers, is_in, in_turn, Past, past_when, not_first, turns_without, turn_when, of_four}
use Rattle.tariff.proofs.Stops.{stops_without, FirstStopped, StoppedFor, stop_at, stop_some}
use Rattle.tariff.proofs.AnyHour.{given}

-- its block's checks in their turns, and the causes that stop an interval of it
pub record AnyHour : Type 0 where
  pub block : Verdict
  pub turns : List Turn
  pub in_turn_lem : block ≡ in_turn turns
  pub n : ℕ
  pub outcome : ℕ → Outcome
  pub causes : List ℕ
  pub caused : (i number : ℕ) → outcome i ≡ stops number → is_in number causes ≡ true

module _ (a : AnyHour) (room : ℕ) where
  abbrev stop : Verdict
  stop = first_stop a.outcome a.n

  abbrev short : Verdict
  short = unless (leb a.n room) ROOM 0

  abbrev Refused : (number place : ℕ) → Type 0
  Refused number place = reply_by a.block a.outcome a.n room ≡ refused number place

  by_checks : (number place : ℕ) → Refused number place ↔ ((a.block then stop then short) ≡ fault number place)
  by_checks = given a.block a.outcome a.n room

  without_block : (number : ℕ) → is_in number (numbers a.turns) ≡ false → Without number a.block
  without_block number e = rw a.in_turn_lem (turns_without number a.turns e)

  without_stop : (number : ℕ) → is_in number a.causes ≡ false → Without number stop
  without_stop number e = stops_without a.outcome a.n number (λ i q. false≢true (sym e ∙ a.caused i number q))

  without_short : (number : ℕ) → (ROOM ≡ number → ⊥) → Without number short
  without_short number = without_unless number (leb a.n room) ROOM 0

  -- the number of turn k, from 0: given exactly when the turns before are clear and turn k finds it, whatever comes later
  pub turn_given : (number k place : ℕ)
      → is_in number (numbers (take k a.turns)) ≡ false
      → is_in number (numbers (drop (suc k) a.turns)) ≡ false
      → is_in number (ROOM ∷ a.causes) ≡ false
      → {P : Type 0} → ((get_or a.turns k nothing).finds ≡ fault number place) ↔ P
      → Refused number place ↔ Past (take k a.turns) P
  turn_given number k place before after later finds =
      let other = not_first number ROOM a.causes later in
      Iff.trans (by_checks number place)
      (Iff.trans
      (by_first number a.block (stop then short) place
      (without_then number stop short (without_stop number other.1) (without_short number other.0)))
      (Iff.trans (rw a.in_turn_lem (turn_when number a.turns k place before after)) (past_when (take k a.turns) finds)))

  -- the number of a cause: given exactly when the block is clear, at the first interval that is stopped, if it is stopped for this
  module _ (number : ℕ) (other : is_in number (ROOM ∷ numbers a.turns) ≡ false) where
    stop_is : (place : ℕ) → Refused number place ↔ ((a.block ≡ clear) × (stop ≡ fault number place))
    stop_is place =
        let apart = not_first number ROOM (numbers a.turns) other in
        Iff.trans (by_checks number place)
        (Iff.trans (by_last number a.block (stop then short) place (without_block number apart.1))
        (Iff.and Iff.rfl (by_first number stop short place (without_short number apart.0))))

    pub stop_given : (i : ℕ) → Refused number (i + 1) ↔ ((a.block ≡ clear) × FirstStopped a.outcome a.n number i)
    stop_given i = Iff.trans (stop_is (i + 1)) (Iff.and Iff.rfl (stop_at a.outcome a.n number i))

    pub some_given : ((place : ℕ) × Refused number place) ↔ ((a.block ≡ clear) × StoppedFor a.outcome a.n number)
    some_given =
        let some = stop_some a.outcome a.n number in (
          λ e. let w = (stop_is e.0).0 e.1 in (w.0, some.0 (e.0, w.1)),
          λ w. let e = some.1 w.1 in (e.0, (stop_is e.0).1 (w.0, e.1)),
        )

  -- ROOM: given exactly when nothing else refuses
  pub room_given : (place : ℕ) → is_in ROOM (numbers a.turns) ≡ false → is_in ROOM a.causes ≡ false
      → Refused ROOM place ↔ ((a.block ≡ clear) × (stop ≡ clear) × (place ≡ 0) × (room < a.n))
  room_given place b s =
      let rule = unless_when (leb a.n room) ROOM 0 place in
      Iff.trans (by_checks ROOM place)
      (Iff.trans (by_last ROOM a.block (stop then short) place (without_block ROOM b))
      (Iff.trans
      (Iff.and Iff.rfl
      (Iff.trans (by_last ROOM stop short place (without_stop ROOM s))
      (Iff.and Iff.rfl (λ e. let w = rule.0 e in (w.1, leb-false a.n room w.0), λ w. rule.1 (lt-leb a.n room w.1, w.0)))))
      of_four))
