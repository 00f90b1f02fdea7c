-- The reply and the lent row of an hour of any kind, over what its block's checks find, what its intervals come to and how many they are.
use mathlib.Core.Path.{◌≡◌, refl, ◌∙◌, ap}
use mathlib.Core.List.{List, ◌++◌}
use mathlib.Core.Logic.{◌↔◌}
use Prim.Native.Nat.{ℕ, ◌+◌, ◌-◌, ◌<◌, ◌≤◌}
use native.Mathlib.Omega.{arith}
use borrow.Author.Tests.{leb-true, le-leb}
use lib.Dec.{leb}
use lib.ListN.{length, get_or, drop, length-append, length-drop, get_or-append}
use lib.Seq.{get_or-append-add, get_or-drop}
use lib.IntN.{ℤ, pos}
use Rattle.exact.specs.Whole.{up_to, sum_to}
use Rattle.exact.proofs.Sums.{sum_same, up_same, up_length, up_at}
use Rattle.tariff.specs.Units.{cents_of}
use Rattle.tariff.specs.Reply.{Reply, paid, refused, ROOM, Verdict, clear, fault, unless, ◌then◌, otherwise}
use Rattle.tariff.specs.Outcome.{Outcome, fault_at, first_stop, amount, sum_by, reply_by, row_for, row_by}
use Rattle.tariff.proofs.Checks.{then_assoc, unless_clear, otherwise_paid, otherwise_refused, first_same}
use Rattle.tariff.proofs.Turns.{then_when}

-- ---- the checks: the block's come first, then the intervals', then ROOM

module _ (block : Verdict) (outcome : ℕ → Outcome) (n room : ℕ) where
  abbrev stop : Verdict
  stop = first_stop outcome n

  abbrev short : Verdict
  short = unless (leb n room) ROOM 0

  abbrev found : Verdict
  found = block then stop then short

  pub given : (number place : ℕ) → (reply_by block outcome n room ≡ refused number place) ↔ (found ≡ fault number place)
  unfolding reply_by
  given number place = (otherwise_refused found _ _ number place, λ e. rw e)

  -- what the checks before ROOM find refuses, whatever the room; where they find nothing the room decides
  pub checks_refuse : (number place : ℕ) → (block then stop) ≡ fault number place → reply_by block outcome n room ≡ refused number place
  unfolding reply_by
  checks_refuse number place e = rw (← then_assoc block, e)

  pub room_decides : (block then stop) ≡ clear → reply_by block outcome n room ≡ otherwise short (paid (sum_by outcome n) (cents_of (sum_by outcome n)))
  unfolding reply_by
  room_decides e = rw (← then_assoc block, e)

  -- paid exactly when none refuses, and with the sum of the contributions, which becomes cents once
  pub paid_when : (sum cents : ℤ)
      → (reply_by block outcome n room ≡ paid sum cents)
      ↔ ((block ≡ clear) × (stop ≡ clear) × (n ≤ room)
      × (sum ≡ sum_to (λ i. amount (outcome i)) n) × (cents ≡ cents_of (sum_to (λ i. amount (outcome i)) n)))
  unfolding reply_by sum_by
  paid_when sum cents = (
    λ e.
        let c = otherwise_paid found _ sum cents e in
        let b = (then_when block (stop then short)).0 c in
        let s = (then_when stop short).0 b.1 in
        let p : paid (sum_by outcome n) (cents_of (sum_by outcome n)) ≡ paid sum cents = rw c at e in
        (b.0, s.0, leb-true n room (unless_clear (leb n room) ROOM 0 s.1), cc, cc),
    λ w. rw (w.0, w.1, le-leb n room w.2, w.3, w.4),
  )

-- ---- the lent row

-- what f gives below n, and then the row from n on
module _ (f : ℕ → ℤ) (n : ℕ) (row : List ℤ) where
  row_first : (i : ℕ) → i < n → get_or (up_to f n ++ drop n row) i (pos 0) ≡ f i
  row_first i u = get_or-append (up_to f n) (drop n row) (pos 0) i (let e = up_length f n in omega arith) ∙ up_at f (pos 0) n i u

  row_later : (i : ℕ) → n ≤ i → get_or (up_to f n ++ drop n row) i (pos 0) ≡ get_or row i (pos 0)
  row_later i u =
      let cut : i ≡ length (up_to f n) + (i - n) = let e = up_length f n in omega arith in
      let back : n + (i - n) ≡ i = omega arith in
      ap (λ (j : ℕ). get_or (up_to f n ++ drop n row) j (pos 0)) cut
      ∙ get_or-append-add (up_to f n) (drop n row) (i - n) (pos 0)
      ∙ get_or-drop n row (i - n) (pos 0)
      ∙ ap (λ (j : ℕ). get_or row j (pos 0)) back

  row_length : n ≤ length row → length (up_to f n ++ drop n row) ≡ length row
  row_length u = simp (length-append, up_length, length-drop) (omega arith)

module _ (block : Verdict) (outcome : ℕ → Outcome) (n : ℕ) (row : List ℤ) where
  pub row_refused : (number place : ℕ) → reply_by block outcome n (length row) ≡ refused number place → row_by block outcome n row ≡ row
  unfolding row_by
  row_refused number place e = rw e

  pub row_paid_lem : (sum cents : ℤ) → reply_by block outcome n (length row) ≡ paid sum cents
      → ((i : ℕ) → i < n → get_or (row_by block outcome n row) i (pos 0) ≡ amount (outcome i))
      × ((i : ℕ) → n ≤ i → get_or (row_by block outcome n row) i (pos 0) ≡ get_or row i (pos 0))
      × (length (row_by block outcome n row) ≡ length row)
  unfolding row_by
  row_paid_lem sum cents e =
      let f : ℕ → ℤ = λ i. amount (outcome i) in
      rw e (row_first f n row, row_later f n row, row_length f n row ((paid_when block outcome n (length row) sum cents).0 e).2)

-- ---- two hours of one verdict and one count, whose intervals come to the same, have one reply and one row

module _ (o o' : ℕ → Outcome) (n : ℕ) (same : (i : ℕ) → i < n → o i ≡ o' i) where
  same_stop : first_stop o n ≡ first_stop o' n
  unfolding first_stop
  same_stop = first_same _ _ n (λ i u. ap (fault_at i) (same i u))

  same_sum : sum_by o n ≡ sum_by o' n
  unfolding sum_by
  same_sum = sum_same _ _ n (λ i u. ap amount (same i u))

  same_reply : (block : Verdict) (room : ℕ) → reply_by block o n room ≡ reply_by block o' n room
  unfolding reply_by
  same_reply block room = rw (same_stop, same_sum)

  same_row : (r : Reply) (row : List ℤ) → row_for r o n row ≡ row_for r o' n row
  same_row (paid sum cents) row = rw (up_same _ _ n (λ i u. ap amount (same i u)))
  same_row (refused number place) row = refl

pub same_both : (block block' : Verdict) (o o' : ℕ → Outcome) (n n' : ℕ) → block ≡ block' → n ≡ n' → ((i : ℕ) → i < n → o i ≡ o' i) → (row : List ℤ)
    → (reply_by block o n (length row) ≡ reply_by block' o' n' (length row)) × (row_by block o n row ≡ row_by block' o' n' row)
unfolding row_by
same_both block block' o o' n n' b c same row =
    let e = same_reply o o' n same block (length row) in
    rw (← b, ← c) (e, rw e (same_row o o' n same (reply_by block o' n (length row)) row))
