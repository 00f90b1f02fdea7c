-- Bytes put behind a text: where something stands behind its first pieces, these stay as they are, and what stands behind them grows.
use mathlib.Core.Path.{◌≡◌, refl, ◌∙◌, ap}
use mathlib.Core.Bool.{Bool, true, ◌&&◌, false≢true}
use mathlib.Core.List.{List, [], ◌∷◌, ◌++◌}
use Prim.Native.Nat.{ℕ, zero, suc, ◌≤◌, ◌<◌}
use native.Mathlib.Decide.{dec_le}
use native.Mathlib.Omega.{arith}
use lib.Dec.{eqb}
use Rattle.std.specs.Prelude.{if◌then◌else◌}
use Rattle.exact.proofs.Parts.{by_test}
use Rattle.lines.specs.Cut.{empty_in, behind}
use Rattle.lines.specs.Pieces.{rest_after, first_piece, piece, is_some}
use Rattle.lines.proofs.Behind.{behind_in, behind_is}
use Rattle.lines.proofs.First.{first_in, first_is}

-- ---- the first piece

module _ (t : List ℕ) where
  append_from : (s : List ℕ) (start : Bool) → is_some (behind_in start s) ≡ true
      → (behind_in start (s ++ t) ≡ behind_in start s ++ t) × (first_in start (s ++ t) ≡ first_in start s)
  unfolding behind_in first_in
  append_from [] start = λ e. absurd (false≢true e)
  append_from (b ∷ s) start =
      by_test (start && eqb b 10)
      (λ r. is_some (if r then s else behind_in (eqb b 10) s) ≡ true
      → ((if r then s ++ t else behind_in (eqb b 10) (s ++ t)) ≡ (if r then s else behind_in (eqb b 10) s) ++ t)
      × (b ∷ (if r then [] else first_in (eqb b 10) (s ++ t)) ≡ b ∷ (if r then [] else first_in (eqb b 10) s)))
      (λ r e. (refl, refl))
      (λ r e. let rest = append_from s (eqb b 10) e in (rest.0, ap (λ (l : List ℕ). b ∷ l) rest.1))

  first_append : (s : List ℕ) → is_some (behind s) ≡ true → (behind (s ++ t) ≡ behind s ++ t) × (first_piece (s ++ t) ≡ first_piece s)
  first_append s e = rw (behind_is (s ++ t), behind_is s, first_is (s ++ t), first_is s) (append_from s true (rw (behind_is s) at e))

-- ---- what stands behind a piece stands behind those in front of it

some_behind : (s : List ℕ) → is_some (behind s) ≡ true → is_some s ≡ true
unfolding behind empty_in
some_behind [] e = absurd (false≢true e)
some_behind (b ∷ t) e = refl

module _ (s : List ℕ) where
  some_before : (n k : ℕ) → k ≤ n → is_some (rest_after n s) ≡ true → is_some (rest_after k s) ≡ true
  unfolding rest_after
  some_before zero k u e = let z : k ≡ 0 = omega arith in rw z e
  some_before (suc n) k u e = go (dec_le k n) (λ h. some_before n k h (some_behind (rest_after n s) e))
    where
      go : Dec (k ≤ n) → (k ≤ n → is_some (rest_after k s) ≡ true) → is_some (rest_after k s) ≡ true
      go (yes h) earlier = earlier h
      go (no h) earlier = let z : k ≡ suc n = omega arith in rw z e

-- the byte that was there still stands first
some_append : (s t : List ℕ) → is_some s ≡ true → is_some (s ++ t) ≡ is_some s
some_append [] t e = absurd (false≢true e)
some_append (b ∷ s) t e = refl

-- ---- each piece

module _ (s t : List ℕ) where
  pub rest_append : (k : ℕ) → is_some (rest_after k s) ≡ true → rest_after k (s ++ t) ≡ rest_after k s ++ t
  unfolding rest_after
  rest_append zero e = refl
  rest_append (suc k) e = ap behind (rest_append k (some_behind (rest_after k s) e)) ∙ (first_append t (rest_after k s) e).0

  own_append : (k : ℕ) → is_some (rest_after (suc k) s) ≡ true → piece k (s ++ t) ≡ piece k s
  unfolding rest_after
  own_append k e = ap first_piece (rest_append k (some_behind (rest_after k s) e)) ∙ (first_append t (rest_after k s) e).1

  module _ (n : ℕ) (some : is_some (rest_after n s) ≡ true) where
    pub pieces_append : (k : ℕ) → k < n → piece k (s ++ t) ≡ piece k s
    pieces_append k u = own_append k (some_before s n (suc k) u some)

    pub follows_append : is_some (rest_after n (s ++ t)) ≡ is_some (rest_after n s)
    follows_append = ap is_some (rest_append n some) ∙ some_append (rest_after n s) t some
