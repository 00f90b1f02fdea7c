-- A day's total: the sum of the paid cents, or none, so that no refused hour hides behind a figure. And what the code's answers to a
-- day say in these words.
use Rattle.std.specs.Prelude.{Option, if◌then◌else◌, ◌≡◌, Bool, List, [], ◌∷◌, ℕ, zero, suc, ℤ, pos, ◌+ℤ◌, None, Some}
use Rattle.tariff.specs.declared.Cents.{Cents}
use Rattle.tariff.specs.declared.Answer.{Answer}
use Rattle.tariff.specs.Reply.{Reply, paid, refused, told}

pub data Sum : Type 0 where
  total : (cents : ℤ) → Sum
  no_total : Sum

infixl 4 ◌plus◌
abbrev pub ◌plus◌ : Sum → Reply → Sum
(total c) plus (paid grains cents) = total (c +ℤ cents)
(total c) plus (refused number place) = no_total
no_total plus reply = no_total

unfoldable pub sum_of : (ℕ → Reply) → ℕ → Sum
sum_of reply zero = total (pos 0)
sum_of reply (suc n) = sum_of reply n plus reply n

-- none, whatever the hours pay, where bytes follow the last of them
unfoldable pub total_of : (ℕ → Reply) → (hours : ℕ) → (surplus : Bool) → Sum
total_of reply hours surplus = if surplus then no_total else sum_of reply hours

-- ---- what a reply pays

pub record Pays (r : Reply) : Type 0 where
  pub sum : ℤ
  pub cents : ℤ
  pub pays : r ≡ paid sum cents

abbrev pub paid_cents : Reply → ℤ
paid_cents (paid sum cents) = cents
paid_cents (refused number place) = pos 0

-- ---- what the code gives back, in these words

-- the cents, or none where the total is withheld
abbrev pub Total : Type 0
Total = Option Cents

abbrev pub told_total : Total → Sum
told_total (Some cents) = total cents.0
told_total None = no_total

unfoldable pub told_all : List Answer → List Reply
told_all [] = []
told_all (p ∷ ps) = told p ∷ told_all ps
