-- An hour of any kind settled: what is answered, and the row that is left, where its checks refuse it and where it is paid out.
use mathlib.Core.Path.{◌≡◌, refl, sym, ap, ◌∙◌}
use mathlib.Core.List.{List, ◌++◌}
use Prim.Native.Nat.{ℕ, ◌<◌, ◌≤◌}
use borrow.Author.Tests.{le-leb}
use lib.IntN.{ℤ, pos}
use lib.ListN.{length, get_or, take, drop}
use Rattle.exact.specs.Whole.{up_to}
use Rattle.exact.proofs.Sums.{up_same}
use Rattle.tariff.specs.declared.Grains.{Grains}
use Rattle.tariff.specs.Units.{grains}
use Rattle.tariff.specs.Reply.{Reply, paid, refused, Verdict, clear, fault, ◌then◌}
use Rattle.tariff.specs.Outcome.{Outcome, first_stop, amount, sum_by, reply_by, row_for, row_by}
use Rattle.tariff.proofs.AnyHour.{checks_refuse, room_decides, row_refused}
use Rattle.lent.specs.Lent.{payment, raws, row_under, row_paid}
use Rattle.lent.proofs.Rows.{raws_up}

module _ (block : Verdict) (outcome : ℕ → Outcome) (n : ℕ) (row : List ℤ) where
  -- what a call answers, and the row that it leaves
  pub record Settles (r : Reply) (after : List ℤ) : Type 0 where
    pub told : r ≡ reply_by block outcome n (length row)
    pub left : after ≡ row_by block outcome n row

  pub settles_refused : (number place : ℕ) → (block then first_stop outcome n) ≡ fault number place → Settles (refused number place) row
  settles_refused number place e =
      let r = checks_refuse block outcome n (length row) number place e in
      record { told = sym r; left = sym (row_refused block outcome n row number place r) }

  module _ (found : (block then first_stop outcome n) ≡ clear) (few : n ≤ 30)
      (parts : List Grains) (long : n ≤ length parts) (written : (i : ℕ) → i < n → (get_or parts i (grains (pos 0))).0 ≡ amount (outcome i))
      (sum : ℤ) (total : sum ≡ sum_by outcome n) where
    front : raws (take n parts) ≡ up_to (λ i. amount (outcome i)) n
    front = raws_up parts n long ∙ up_same _ _ n written

    by_room : payment n sum (length row) ≡ reply_by block outcome n (length row)
    unfolding payment
    by_room = rw (le-leb n 30 few, total) (sym (room_decides block outcome n (length row) found))

    same_row : (r : Reply) → row_under r parts n row ≡ row_for r outcome n row
    same_row (paid sum cents) = ap (λ (l : List ℤ). l ++ drop n row) front
    same_row (refused number place) = refl

    pub settles_paid : (r : Reply) (after : List ℤ) → r ≡ payment n sum (length row) → after ≡ row_paid parts n sum row → Settles r after
    unfolding row_paid row_by
    settles_paid r after t e =
        record { told = t ∙ by_room; left = e ∙ ap (λ (a : Reply). row_under a parts n row) by_room ∙ same_row (reply_by block outcome n (length row)) }
