-- Checks in their turns: a number that one of them alone can give is given exactly when those before it are clear and it gives it.
use mathlib.Core.Path.{◌≡◌, refl, sym, ◌∙◌}
use mathlib.Core.Bool.{Bool, true, false, ◌||◌}
use mathlib.Core.List.{List, [], ◌∷◌, map}
use mathlib.Core.Logic.Iff
use mathlib.Core.Logic.{◌↔◌}
use Prim.Native.Nat.{ℕ, zero, suc}
use borrow.Author.Tests.{eqb-false}
use lib.Dec.{eqb}
use lib.ListN.{get_or, take, drop}
use Rattle.exact.proofs.Apart.{impossible}
use Rattle.tariff.specs.Reply.{Verdict, clear, fault, unless, ◌then◌, first_of}
use Rattle.tariff.proofs.Checks.{then_clear, Without, without_fault, without_then}

-- ---- two checks

pub then_when : (v w : Verdict) → ((v then w) ≡ clear) ↔ ((v ≡ clear) × (w ≡ clear))
then_when v w = (then_clear v w, λ e. rw (e.0, e.1))

module _ (n : ℕ) where
  -- a number that the second never gives; and one that the first never gives
  pub by_first : (v w : Verdict) (place : ℕ) → Without n w → ((v then w) ≡ fault n place) ↔ (v ≡ fault n place)
  by_first clear w place h = (λ e. absurd (without_fault n w place h e), λ e. impossible cc)
  by_first (fault number at) w place h = Iff.rfl

  pub by_last : (v w : Verdict) (place : ℕ) → Without n v → ((v then w) ≡ fault n place) ↔ ((v ≡ clear) × (w ≡ fault n place))
  by_last clear w place h = (λ e. (refl, e), λ e. e.1)
  by_last (fault number at) w place h = (λ e. absurd (without_fault n (fault number at) place h e), λ e. impossible (let c = e.0 in cc))

-- ---- a check that gives one number alone

abbrev pub Only : (number : ℕ) → Verdict → Type 0
Only number clear = Unit {0}
Only number (fault a place) = a ≡ number

module _ (number : ℕ) where
  pub only_unless : (b : Bool) (place : ℕ) → Only number (unless b number place)
  only_unless true place = tt
  only_unless false place = refl

  -- a rule, and what comes behind it
  pub only_behind : (b : Bool) (place : ℕ) (v : Verdict) → Only number v → Only number (unless b number place then v)
  only_behind true place v e = e
  only_behind false place v e = refl

  only_then : (v w : Verdict) → Only number v → Only number w → Only number (v then w)
  only_then clear w p q = q
  only_then (fault a place) w p q = p

  pub only_first : (check : ℕ → Verdict) (m : ℕ) → ((i : ℕ) → Only number (check i)) → Only number (first_of check m)
  unfolding first_of
  only_first check zero h = tt
  only_first check (suc m) h = only_then (first_of check m) (check m) (only_first check m h) (h m)

  pub only_without : (n : ℕ) (v : Verdict) → Only number v → (number ≡ n → ⊥) → Without n v
  only_without n clear h other = tt
  only_without n (fault a place) h other = λ e. other (sym h ∙ e)

-- ---- checks in a row, each with its own number

pub record Turn : Type 0 where
  pub number : ℕ
  pub finds : Verdict
  pub own : Only number finds

abbrev pub nothing : Turn
nothing = record { number = 0; finds = clear; own = tt }

abbrev pub numbers : List Turn → List ℕ
numbers ts = map (λ (t : Turn). t.number) ts

abbrev pub is_in : ℕ → List ℕ → Bool
is_in n [] = false
is_in n (m ∷ ms) = eqb m n || is_in n ms

unfoldable pub in_turn : List Turn → Verdict
in_turn [] = clear
in_turn (t ∷ ts) = t.finds then in_turn ts

-- those before are clear, and then this
abbrev pub Past : List Turn → Type 0 → Type 0
Past [] P = P
Past (t ∷ ts) P = (t.finds ≡ clear) × Past ts P

pub past_when : (ts : List Turn) {P Q : Type 0} → P ↔ Q → Past ts P ↔ Past ts Q
past_when [] e = e
past_when (t ∷ ts) e = Iff.and Iff.rfl (past_when ts e)

pub turns_clear : (ts : List Turn) → (in_turn ts ≡ clear) ↔ Past ts (Unit {0})
unfolding in_turn
turns_clear [] = (λ e. tt, λ e. refl)
turns_clear (t ∷ ts) = Iff.trans (then_when t.finds (in_turn ts)) (Iff.and Iff.rfl (turns_clear ts))

-- a number that stands at another place of the row
pub not_first : (n m : ℕ) (ms : List ℕ) → is_in n (m ∷ ms) ≡ false → (m ≡ n → ⊥) × (is_in n ms ≡ false)
not_first n m ms e = go (eqb m n) refl e
  where
    go : (t : Bool) → eqb m n ≡ t → (t || is_in n ms) ≡ false → (m ≡ n → ⊥) × (is_in n ms ≡ false)
    go true q e = impossible cc
    go false q e = (eqb-false m n q, e)

turn_without : (n : ℕ) (t : Turn) → (t.number ≡ n → ⊥) → Without n t.finds
turn_without n t = only_without t.number n t.finds t.own

pub turns_without : (n : ℕ) (ts : List Turn) → is_in n (numbers ts) ≡ false → Without n (in_turn ts)
unfolding in_turn
turns_without n [] e = tt
turns_without n (t ∷ ts) e =
    let w = not_first n t.number (numbers ts) e in
    without_then n t.finds (in_turn ts) (turn_without n t w.0) (turns_without n ts w.1)

-- a number of turn k alone is given exactly when the turns before are clear and turn k finds it
pub turn_when : (n : ℕ) (ts : List Turn) (k place : ℕ)
    → is_in n (numbers (take k ts)) ≡ false
    → is_in n (numbers (drop (suc k) ts)) ≡ false
    → (in_turn ts ≡ fault n place) ↔ Past (take k ts) ((get_or ts k nothing).finds ≡ fault n place)
unfolding in_turn
turn_when n [] zero place b a = Iff.rfl
turn_when n [] (suc k) place b a = Iff.rfl
turn_when n (t ∷ ts) zero place b a = by_first n t.finds (in_turn ts) place (turns_without n ts a)
turn_when n (t ∷ ts) (suc k) place b a =
    let w = not_first n t.number (numbers (take k ts)) b in
    Iff.trans (by_last n t.finds (in_turn ts) place (turn_without n t w.0)) (Iff.and Iff.rfl (turn_when n ts k place w.1 a))

-- three facts, and four, one behind another

pub of_three : {A B C : Type 0} → (A × (B × C)) ↔ (A × B × C)
of_three = (λ w. (w.0, w.1.0, w.1.1), λ w. (w.0, (w.1, w.2)))

pub of_four : {A B C D : Type 0} → (A × (B × (C × D))) ↔ (A × B × C × D)
of_four = (λ w. (w.0, w.1.0, w.1.1.0, w.1.1.1), λ w. (w.0, (w.1, (w.2, w.3))))
