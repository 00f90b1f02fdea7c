-- Tests joined: a test that holds at each number below n. The laws of a conjunction are passed on.
use mathlib.Core.Path.{◌≡◌, refl, sym, ◌∙◌, ap}
use mathlib.Core.Bool.{Bool, true, false, ◌&&◌}
use Prim.Native.Nat.{ℕ, zero, suc, ◌+◌, ◌<◌}
use native.Mathlib.Numerals.{add-one}
use native.Mathlib.Decide.{dec_lt}
use native.Mathlib.Omega.{arith}
use Rattle.exact.proofs.Parts.{by_test}
pub use Rattle.exact.proofs.Tests.{and_left, and_right, and_both}
use Rattle.tariff.specs.Sheet.{all_to}

pub all_none : (f : ℕ → Bool) → all_to f 0 ≡ true
unfolding all_to
all_none f = refl

pub all_more : (f : ℕ → Bool) (n : ℕ) → all_to f (n + 1) ≡ (all_to f n && f n)
unfolding all_to
all_more f n = rw add-one

-- one number more
pub all_next : (f : ℕ → Bool) (n : ℕ) → all_to f n ≡ true → f n ≡ true → all_to f (n + 1) ≡ true
all_next f n e h = all_more f n ∙ and_both (all_to f n) (f n) e h

-- two tests that agree at each of them
pub all_same : (f g : ℕ → Bool) (n : ℕ) → ((k : ℕ) → k < n → f k ≡ g k) → all_to f n ≡ all_to g n
unfolding all_to
all_same f g zero e = refl
all_same f g (suc n) e = λ i. all_same f g n (λ k u. e k (omega arith)) i && e n (omega arith) i

pub all_of : (f : ℕ → Bool) (n : ℕ) → ((k : ℕ) → k < n → f k ≡ true) → all_to f n ≡ true
unfolding all_to
all_of f zero h = refl
all_of f (suc n) h = and_both (all_to f n) (f n) (all_of f n (λ k u. h k (omega arith))) (h n (omega arith))

pub all_at : (f : ℕ → Bool) (n j : ℕ) → all_to f n ≡ true → j < n → f j ≡ true
unfolding all_to
all_at f zero j e u = absurd (omega arith)
all_at f (suc n) j e u = go (all_at f n j (and_left (all_to f n) (f n) e)) (dec_lt j n)
  where
    go : (j < n → f j ≡ true) → Dec (j < n) → f j ≡ true
    go ih (yes v) = ih v
    go ih (no v) = let same : j ≡ n = omega arith in ap f same ∙ and_right (all_to f n) (f n) e

pub all_not : (f : ℕ → Bool) (n j : ℕ) → j < n → f j ≡ false → all_to f n ≡ false
all_not f n j u e = by_test (all_to f n) (λ b. b ≡ false) (λ h. sym (all_at f n j h u) ∙ e) (λ h. refl)
