-- A test that holds at some number below n: how it is shown, and what follows of it.
use mathlib.Core.Path.{◌≡◌, refl, sym, subst}
use mathlib.Core.Bool.{Bool, true, false, ◌||◌, false≢true}
use Prim.Native.Nat.{ℕ, zero, suc, ◌<◌}
use native.Mathlib.Decide.{dec_lt}
use native.Mathlib.Omega.{arith}
use Rattle.tariff.specs.Eligible.{some_to}

-- tests of which each gives the other
pub agree : (a b : Bool) → (a ≡ true → b ≡ true) → (b ≡ true → a ≡ true) → a ≡ b
agree true b f g = sym (f refl)
agree false true f g = g refl
agree false false f g = refl

pub or_first : (a b : Bool) → a ≡ true → (a || b) ≡ true
or_first true b e = refl
or_first false b e = absurd (false≢true e)

pub or_second : (a b : Bool) → b ≡ true → (a || b) ≡ true
or_second true b e = refl
or_second false b e = e

pub or_cases : {P : Type 0} (a b : Bool) → (a || b) ≡ true → (a ≡ true → P) → (b ≡ true → P) → P
or_cases true b e f g = f refl
or_cases false b e f g = g e

module _ (f : ℕ → Bool) where
  pub some_at : (n j : ℕ) → j < n → f j ≡ true → some_to f n ≡ true
  unfolding some_to
  some_at zero j u e = absurd (omega arith)
  some_at (suc n) j u e = go (dec_lt j n) (some_at n j)
    where
      go : Dec (j < n) → (j < n → f j ≡ true → some_to f n ≡ true) → (some_to f n || f n) ≡ true
      go (yes v) before = or_first (some_to f n) (f n) (before v e)
      go (no v) before = let same : j ≡ n = omega arith in or_second (some_to f n) (f n) (subst (λ (k : ℕ). f k ≡ true) same e)

  pub some_where : {P : Type 0} (n : ℕ) → some_to f n ≡ true → ((j : ℕ) → j < n → f j ≡ true → P) → P
  unfolding some_to
  some_where zero e use-it = absurd (false≢true e)
  some_where (suc n) e use-it =
      or_cases (some_to f n) (f n) e (λ d. some_where n d (λ j u. use-it j (omega arith))) (λ d. use-it n (omega arith) d)
