-- Laws of checks in their order: the first fault stands.
use mathlib.Core.Path.{◌≡◌, refl, sym, ◌∙◌, ap}
use mathlib.Core.Bool.{Bool, true, false, false≢true}
use mathlib.Core.Logic.{◌↔◌}
use Prim.Native.Nat.{ℕ, zero, suc, ◌+◌, ◌<◌}
use native.Mathlib.Nat.{add-zero, add-suc}
use native.Mathlib.Decide.{dec_lt}
use native.Mathlib.Omega.{arith}
use lib.IntN.{ℤ}
use Rattle.exact.proofs.Apart.{impossible}
use Rattle.tariff.specs.Reply.{Reply, paid, refused, Finding, Verdict, clear, fault, unless, ◌then◌, put_in, otherwise, first_of}

-- ---- two checks, one after the other

pub never_clear : {Place : Type 0} {number : ℕ} {place : Place} → fault number place ≡ clear → ⊥
never_clear e = impossible cc

pub then_clear : {Place : Type 0} (v w : Finding Place) → (v then w) ≡ clear → (v ≡ clear) × (w ≡ clear)
then_clear clear w e = (refl, e)
then_clear (fault number place) w e = absurd (never_clear e)

pub put_clear : {Place : Type 0} (spot : ℕ → Place) (v : Verdict) → put_in spot v ≡ clear → v ≡ clear
put_clear spot clear e = refl
put_clear spot (fault number place) e = absurd (never_clear e)

pub unless_clear : {Place : Type 0} (b : Bool) (number : ℕ) (place : Place) → unless b number place ≡ clear → b ≡ true
unless_clear true number place e = refl
unless_clear false number place e = absurd (never_clear e)

pub then_nothing : {Place : Type 0} (v : Finding Place) → (v then clear) ≡ v
then_nothing clear = refl
then_nothing (fault number place) = refl

-- however they are bracketed
pub then_assoc : {Place : Type 0} (u v w : Finding Place) → ((u then v) then w) ≡ (u then v then w)
then_assoc clear v w = refl
then_assoc (fault number place) v w = refl

-- a fault that one of them cannot give is the other's
module _ {Place : Type 0} (v w : Finding Place) (number : ℕ) (place : Place) where
  pub then_first : (w ≡ fault number place → ⊥) → (v then w) ≡ fault number place → v ≡ fault number place
  then_first never e = go v e
    where
      go : (u : Finding Place) → (u then w) ≡ fault number place → u ≡ fault number place
      go clear e = absurd (never e)
      go (fault a b) e = e

  pub then_second : (v ≡ fault number place → ⊥) → (v then w) ≡ fault number place → (v ≡ clear) × (w ≡ fault number place)
  then_second never e = go v never e
    where
      go : (u : Finding Place) → (u ≡ fault number place → ⊥) → (u then w) ≡ fault number place → (u ≡ clear) × (w ≡ fault number place)
      go clear never e = (refl, e)
      go (fault a b) never e = absurd (never e)

-- a rule's fault is given exactly when the rule is broken, and at its place
pub unless_gives : {Place : Type 0} (b : Bool) (own number : ℕ) (at place : Place) → unless b own at ≡ fault number place → (b ≡ false) × (number ≡ own) × (place ≡ at)
unless_gives true own number at place e = absurd (never_clear (sym e))
unless_gives false own number at place e = (refl, cc, cc)

pub unless_when : {Place : Type 0} (b : Bool) (number : ℕ) (at place : Place) → (unless b number at ≡ fault number place) ↔ ((b ≡ false) × (place ≡ at))
unless_when true number at place = (λ e. absurd (never_clear (sym e)), λ w. absurd (false≢true (sym w.0)))
unless_when false number at place = (λ e. (refl, cc), λ w. rw w.1)

-- ---- a reply

pub otherwise_paid : (v : Verdict) (r : Reply) (sum cents : ℤ) → otherwise v r ≡ paid sum cents → v ≡ clear
otherwise_paid clear r sum cents e = refl
otherwise_paid (fault number place) r sum cents e = impossible cc

pub otherwise_refused : (v : Verdict) (sum cents : ℤ) (number place : ℕ) → otherwise v (paid sum cents) ≡ refused number place → v ≡ fault number place
otherwise_refused clear sum cents number place e = impossible cc
otherwise_refused (fault a b) sum cents number place e = cc

-- ---- one check at 0, 1, .. below n

pub first_same : {Place : Type 0} (f g : ℕ → Finding Place) (n : ℕ) → ((i : ℕ) → i < n → f i ≡ g i) → first_of f n ≡ first_of g n
unfolding first_of
first_same f g zero h = refl
first_same f g (suc n) h = rw (first_same f g n (λ i u. h i (omega arith)), h n (omega arith))

-- the first a of them, and then the others
pub first_behind : {Place : Type 0} (check : ℕ → Finding Place) (a m : ℕ) → first_of check (a + m) ≡ (first_of check a then first_of (λ i. check (a + i)) m)
unfolding first_of
first_behind check a zero = rw add-zero (sym (then_nothing (first_of check a)))
first_behind check a (suc m) = rw (add-suc a m, first_behind check a m) (then_assoc (first_of check a) (first_of (λ i. check (a + i)) m) (check (a + m)))

-- clear: every one is clear, and the other way round
pub first_clear : {Place : Type 0} (check : ℕ → Finding Place) (n : ℕ) → first_of check n ≡ clear → (i : ℕ) → i < n → check i ≡ clear
unfolding first_of
first_clear check zero e i u = absurd (omega arith)
first_clear check (suc n) e i u = go (then_clear (first_of check n) (check n) e) (first_clear check n) (dec_lt i n)
  where
    go : (first_of check n ≡ clear) × (check n ≡ clear) → (first_of check n ≡ clear → (i : ℕ) → i < n → check i ≡ clear) → Dec (i < n) → check i ≡ clear
    go p ih (yes v) = ih p.0 i v
    go p ih (no v) = let same : i ≡ n = omega arith in ap check same ∙ p.1

pub clear_first : {Place : Type 0} (check : ℕ → Finding Place) (n : ℕ) → ((i : ℕ) → i < n → check i ≡ clear) → first_of check n ≡ clear
unfolding first_of
clear_first check zero h = refl
clear_first check (suc n) h = rw (clear_first check n (λ i u. h i (omega arith)), h n (omega arith))

-- a fault: one gives it, and all before are clear; and the other way round
pub record FirstFault {Place : Type 0} (check : ℕ → Finding Place) (n number : ℕ) (place : Place) : Type 0 where
  pub at : ℕ
  pub below : at < n
  pub before : (j : ℕ) → j < at → check j ≡ clear
  pub gives : check at ≡ fault number place

pub first_fault : {Place : Type 0} (check : ℕ → Finding Place) (n number : ℕ) (place : Place) → first_of check n ≡ fault number place → FirstFault check n number place
unfolding first_of
first_fault check zero number place e = impossible cc
first_fault {Place} check (suc n) number place e = go (first_of check n) refl (first_fault check n number place) e
  where
    go : (v : Finding Place) → first_of check n ≡ v → (first_of check n ≡ fault number place → FirstFault check n number place) → (v then check n) ≡ fault number place
        → FirstFault check (suc n) number place
    go clear q ih e = record { at = n; below = omega arith; before = first_clear check n q; gives = e }
    go (fault a b) q ih e =
        let f = ih (q ∙ e) in
        record { at = f.at; below = let u = f.below in omega arith; before = f.before; gives = f.gives }

pub fault_first : {Place : Type 0} (check : ℕ → Finding Place) (n number : ℕ) (place : Place) → FirstFault check n number place → first_of check n ≡ fault number place
unfolding first_of
fault_first check zero number place f = absurd (let u = f.below in omega arith)
fault_first check (suc n) number place f = go (fault_first check n number place) (dec_lt f.at n)
  where
    go : (FirstFault check n number place → first_of check n ≡ fault number place) → Dec (f.at < n) → (first_of check n then check n) ≡ fault number place
    go ih (yes u) = rw (ih (record { at = f.at; below = u; before = f.before; gives = f.gives }))
    go ih (no u) =
        let same : f.at ≡ n = let b = f.below in omega arith in
        let c : first_of check n ≡ clear = clear_first check n (λ j v. f.before j (omega arith)) in
        rw (c, ← same) f.gives

-- ---- checks that do not give fault n

abbrev pub Without : {Place : Type 0} → (n : ℕ) → Finding Place → Type 0
Without n clear = Unit {0}
Without n (fault number place) = number ≡ n → ⊥

module _ {Place : Type 0} (n : ℕ) where
  pub without_fault : (v : Finding Place) (place : Place) → Without n v → v ≡ fault n place → ⊥
  without_fault clear place h e = never_clear (sym e)
  without_fault (fault number at) place h e = h (cc)

  pub without_unless : (b : Bool) (number : ℕ) (place : Place) → (number ≡ n → ⊥) → Without n (unless b number place)
  without_unless true number place h = tt
  without_unless false number place h = h

  pub without_then : (v w : Finding Place) → Without n v → Without n w → Without n (v then w)
  without_then clear w a b = b
  without_then (fault number place) w a b = a

  pub without_first : (check : ℕ → Finding Place) (m : ℕ) → ((i : ℕ) → Without n (check i)) → Without n (first_of check m)
  unfolding first_of
  without_first check zero h = tt
  without_first check (suc m) h = without_then (first_of check m) (check m) (without_first check m h) (h m)
