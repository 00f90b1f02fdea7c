-- Laws of sums and lists by the index.
use mathlib.Core.Path.{◌≡◌, refl, ◌∙◌, ap}
use mathlib.Core.List.{[], ◌∷◌, ◌++◌}
use Prim.Native.Nat.{ℕ, zero, suc, ◌+◌, ◌*◌, ◌<◌}
use native.Mathlib.Numerals.{add-one}
use native.Mathlib.Decide.{dec_lt}
use native.Mathlib.Omega.{arith}
use lib.IntN.{ℤ, pos, ◌+ℤ◌}
use lib.ListN.{length, get_or, length-append, get_or-append}
use lib.Seq.{get_or_at}
use Rattle.exact.specs.Whole.{Within, up_to, sum_to}
use Rattle.exact.proofs.Range.{within_zero, within_add, within_more}

-- ---- sums

pub sum_none : (f : ℕ → ℤ) → sum_to f 0 ≡ pos 0
unfolding sum_to
sum_none f = refl

pub sum_more : (f : ℕ → ℤ) (n : ℕ) → sum_to f (n + 1) ≡ sum_to f n +ℤ f n
unfolding sum_to
sum_more f n = rw add-one

pub sum_same : (f g : ℕ → ℤ) (n : ℕ) → ((k : ℕ) → k < n → f k ≡ g k) → sum_to f n ≡ sum_to g n
unfolding sum_to
sum_same f g zero h = refl
sum_same f g (suc n) h = rw (sum_same f g n (λ k u. h k (omega arith)), h n (omega arith))

pub sum_zeros : (f : ℕ → ℤ) (n : ℕ) → ((k : ℕ) → k < n → f k ≡ pos 0) → sum_to f n ≡ pos 0
unfolding sum_to
sum_zeros f zero h = refl
sum_zeros f (suc n) h = rw (sum_zeros f n (λ k u. h k (omega arith)), h n (omega arith))

pub sum_within : (B : ℕ) (f : ℕ → ℤ) (n : ℕ) → ((k : ℕ) → k < n → Within B (f k)) → Within (B * n) (sum_to f n)
unfolding sum_to
sum_within B f zero h = within_zero (B * 0)
sum_within B f (suc n) h = within_more (omega arith) (within_add (sum_within B f n (λ k u. h k (omega arith))) (h n (omega arith)))

-- ---- lists

pub up_length {ℓ} : {A : Type ℓ} (f : ℕ → A) (n : ℕ) → length (up_to f n) ≡ n
unfolding up_to
up_length f zero = refl
up_length f (suc n) = length-append (up_to f n) _ ∙ (let e = up_length f n in omega arith)

pub up_same {ℓ} : {A : Type ℓ} (f g : ℕ → A) (n : ℕ) → ((k : ℕ) → k < n → f k ≡ g k) → up_to f n ≡ up_to g n
unfolding up_to
up_same f g zero h = refl
up_same f g (suc n) h = rw (up_same f g n (λ k u. h k (omega arith)), h n (omega arith))

pub up_at {ℓ} : {A : Type ℓ} (f : ℕ → A) (d : A) (n k : ℕ) → k < n → get_or (up_to f n) k d ≡ f k
unfolding up_to
up_at f d zero k h = absurd (omega arith)
up_at {A = A} f d (suc n) k h = go (up_at f d n k) (dec_lt k n)
  where
    go : (k < n → get_or (up_to f n) k d ≡ f k) → Dec (k < n) → get_or (up_to f n ++ (f n ∷ [])) k d ≡ f k
    go ih (yes u) = get_or-append (up_to f n) _ d k (let e = up_length f n in omega arith) ∙ ih u
    go ih (no u) =
        let same : n ≡ k = omega arith in
        get_or_at (up_to f n) (f n) [] d k (up_length f n ∙ same) ∙ ap f same
