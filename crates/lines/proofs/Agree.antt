-- Two texts whose first bytes agree share these, at the same places: what is read among them is the same, and ends among them.
use mathlib.Core.Path.{◌≡◌, refl, sym}
use mathlib.Core.Bool.{Bool, true, false}
use mathlib.Core.List.{List, [], ◌∷◌}
use Prim.Native.Nat.{ℕ, ◌+◌, ◌*◌, ◌<◌, ◌≤◌}
use native.Mathlib.Omega.{arith}
use lib.Dec.{eqb}
use lib.ListN.{length}
use Rattle.std.specs.Prelude.{if◌then◌else◌, None, Some}
use Rattle.text.specs.Text.{byte_at, key_at, Next}
use Rattle.text.specs.Number.{digit_at}
use Rattle.lines.specs.Line.{and_then, after_fields, value_in, line_feed, line_at}
use Rattle.lines.proofs.Along.{Placed, both, neither, Stretch, digit_placed, fields_placed, values_placed}
use Rattle.lines.proofs.Shared.{SharedLines, inside}
pub use Rattle.lines.proofs.Along.{key_short}

-- the same answer of two readings, whose next place, if any, is at most m
pub data SamePlace (m : ℕ) : Next → Next → Type 0 where
  goes : (i : ℕ) → i ≤ m → SamePlace m (Some i) (Some i)
  stops : SamePlace m None None

-- a test that two readings share
pub either : {A : Type 0} (R : A → A → Type 0) {x x' y y' : A} (b : Bool) → R x x' → R y y' → R (if b then x else y) (if b then x' else y')
either R true p q = p
either R false p q = q

pub goes_on : {a m : ℕ} {x y : Next} (f g : ℕ → Next) → SamePlace a x y → ((i : ℕ) → i ≤ a → SamePlace m (f i) (g i)) → SamePlace m (and_then x f) (and_then y g)
goes_on f g (goes i h) k = k i h
goes_on f g stops k = stops

pub same_place : {m : ℕ} {x y : Next} → SamePlace m x y → x ≡ y
same_place (goes i h) = refl
same_place stops = refl

-- both stand where they are
stays : {m : ℕ} {P : ℕ → Type 0} {x y : Next} → ((j : ℕ) → P j → j ≤ m) → Placed (λ j. j) (λ j. j) P x y → SamePlace m x y
stays within (both j l) = goes j (within j l)
stays within neither = stops

module _ (s t : List ℕ) (N : ℕ) (agree : (i : ℕ) → i < N → byte_at s i ≡ byte_at t i) where
  -- the first bytes, and the lines among them: as many bytes may be read as are left
  pub first_bytes : (m : ℕ) → m ≤ N → Stretch s t (λ i. i) (λ i. i) (λ w i. i + w ≤ m)
  first_bytes m u = record {
    next = λ i. (refl, refl);
    fewer = λ v w i l h. omega arith;
    same = λ w i l h. agree i (omega arith);
    on = λ v w i l h e. omega arith;
  }

  pub first_lines_lem : SharedLines s t (λ i. i) (λ i. i) (λ w i. i + w ≤ N) (λ w i. i + w ≤ N)
  first_lines_lem = record {
    line = first_bytes N (omega arith);
    begins = λ w i h. inside h;
    fed = λ v w i l h e. omega arith;
    fewer = λ v w i l h. omega arith;
  }

  pub digit : (at : ℕ) → at < N → digit_at s at ≡ digit_at t at
  digit at h = sym (digit_placed (first_bytes N (omega arith)) 1 at (omega arith) (omega arith))

  pub key_same : (key : List ℕ) (at m : ℕ) → at + length key ≤ m → m ≤ N → SamePlace m (key_at key s at) (key_at key t at)
  unfolding key_at
  key_same [] at m h u = goes at (omega arith)
  key_same (k ∷ ks) at m h u =
      rw (agree at (omega arith))
      (either (SamePlace m) (eqb (byte_at t at) k) (key_same ks (at + 1) m (omega arith) u) stops)

  pub value : (first n at : ℕ) → at + n * 16 + 16 ≤ N → value_in first s at n ≡ value_in first t at n
  value first n at h = values_placed (first_bytes N (omega arith)) first n (n * 16 + 16) at (omega arith) (omega arith)

  pub feed : (at m : ℕ) → at + 1 ≤ m → m ≤ N → SamePlace m (line_feed s at) (line_feed t at)
  feed = key_same (10 ∷ [])

  pub fields : (first n at m : ℕ) → at + n * 16 ≤ m → m ≤ N → SamePlace m (after_fields first n s at) (after_fields first n t at)
  fields first n at m h u = stays (λ j l. omega arith) (fields_placed (first_bytes m u) first n 0 (n * 16) at (omega arith) (omega arith))

  pub line : (first n at m : ℕ) → at + n * 16 + 1 ≤ m → m ≤ N → SamePlace m (line_at first n s at) (line_at first n t at)
  unfolding line_at
  line first n at m h u = goes_on _ _ (fields first n at (at + n * 16) (omega arith) (omega arith)) (λ i l. feed i m (omega arith) u)
