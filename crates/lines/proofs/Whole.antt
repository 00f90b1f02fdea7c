-- The first n bytes of a text end with an empty line, or do not.
use mathlib.Core.Path.{◌≡◌, refl, sym, ap, ◌∙◌}
use mathlib.Core.Bool.{true, false, ◌&&◌}
use mathlib.Core.List.{List}
use Prim.Native.Nat.{ℕ, zero, suc, ◌+◌, ◌-◌, ◌<◌, ◌≤◌}
use native.Mathlib.Decide.{dec_le}
use native.Mathlib.Omega.{arith}
use borrow.Author.Tests.{eq-eqb, ne_eqb}
use lib.Dec.{eqb}
use lib.ListN.{length, get_or, take}
use lib.Seq.{get_or-take}
use Rattle.exact.proofs.Parts.{by_test}
use Rattle.text.specs.Text.{byte_at}
use Rattle.text.proofs.Numbers.{inside_same}
use Rattle.lines.specs.Line.{ends_empty}

module _ (s : List ℕ) where
  pub ends_not : (n : ℕ) → (byte_at s (n - 1) ≡ 10 → ⊥) → ends_empty s n ≡ false
  ends_not zero h = refl
  ends_not (suc zero) h = ne_eqb (byte_at s 0) 10 h
  ends_not (suc (suc n)) h =
      let e : suc (suc n) - 1 ≡ suc n = omega arith in
      rw (ne_eqb (byte_at s (suc n)) 10 (rw e at h))

  pub ends_alone : (n : ℕ) → n ≡ 1 → byte_at s (n - 1) ≡ 10 → ends_empty s n ≡ true
  ends_alone n e h = rw e (eq-eqb (byte_at s 0) 10 (rw e at h))

  module _ (n : ℕ) (u : n ≡ 0 → ⊥) (v : n ≡ 1 → ⊥) (h : byte_at s (n - 1) ≡ 10) where
    pub ends_behind : byte_at s (n - 2) ≡ 10 → ends_empty s n ≡ true
    ends_behind k = both n u v h k
      where
        both : (n : ℕ) → (n ≡ 0 → ⊥) → (n ≡ 1 → ⊥) → byte_at s (n - 1) ≡ 10 → byte_at s (n - 2) ≡ 10 → ends_empty s n ≡ true
        both zero u v h k = absurd (u refl)
        both (suc zero) u v h k = absurd (v refl)
        both (suc (suc n)) u v h k =
            let e : suc (suc n) - 1 ≡ suc n = omega arith in
            let f : suc (suc n) - 2 ≡ n = omega arith in
            rw (eq-eqb (byte_at s (suc n)) 10 (rw e at h), eq-eqb (byte_at s n) 10 (rw f at k))

    pub ends_other : (byte_at s (n - 2) ≡ 10 → ⊥) → ends_empty s n ≡ false
    ends_other k = last n u v h k
      where
        last : (n : ℕ) → (n ≡ 0 → ⊥) → (n ≡ 1 → ⊥) → byte_at s (n - 1) ≡ 10 → (byte_at s (n - 2) ≡ 10 → ⊥) → ends_empty s n ≡ false
        last zero u v h k = refl
        last (suc zero) u v h k = absurd (v refl)
        last (suc (suc n)) u v h k =
            let e : suc (suc n) - 1 ≡ suc n = omega arith in
            let f : suc (suc n) - 2 ≡ n = omega arith in
            rw (eq-eqb (byte_at s (suc n)) 10 (rw e at h), ne_eqb (byte_at s n) 10 (rw f at k))

-- ---- a text that is read on: no block has ended in front of its first n bytes, or with them

-- no empty line ends with the byte behind one that is no line feed
ends_behind_other : (s : List ℕ) (n : ℕ) → 0 < n → (byte_at s (n - 1) ≡ 10 → ⊥) → ends_empty s (n + 1) ≡ false
ends_behind_other s zero u h = absurd (let z : ⊥ = omega arith in z)
ends_behind_other s (suc n) u h =
    let e : suc n - 1 ≡ n = omega arith in
    let f : eqb (byte_at s n) 10 ≡ false = ne_eqb (byte_at s n) 10 (rw e at h) in
    let q : suc n + 1 ≡ suc (suc n) = omega arith in
    ap (λ (k : ℕ). ends_empty s k) q ∙ (by_test (eqb (byte_at s (suc n)) 10) (λ b. (b && eqb (byte_at s n) 10) ≡ false) (λ b. f) (λ b. refl))

module _ (s t : List ℕ) (n : ℕ) (same : take n t ≡ take n s) where
  front_byte : (i : ℕ) → i < n → byte_at t i ≡ byte_at s i
  front_byte i h = sym (get_or-take n t i 256 h) ∙ ap (λ (l : List ℕ). byte_at l i) same ∙ get_or-take n s i 256 h

  -- so where the last of the first n bytes is no line feed, the next one ends no block
  pub next_ends_none : 0 < n → n ≤ length s → (get_or s (n - 1) 0 ≡ 10 → ⊥) → ends_empty t (n + 1) ≡ false
  next_ends_none u l h =
      ends_behind_other t n u (λ e. h (inside_same s (n - 1) 0 256 (omega arith) ∙ sym (front_byte (n - 1) (omega arith)) ∙ e))

  -- the bytes in front decide
  pub ends_same : (m : ℕ) → m ≤ n → ends_empty t m ≡ ends_empty s m
  ends_same zero h = refl
  ends_same (suc zero) h = rw (front_byte 0 (omega arith))
  ends_same (suc (suc m)) h = rw (front_byte (suc m) (omega arith), front_byte m (omega arith))

  -- bytes are put behind the first n, up to place k
  module _ (k : ℕ) (before : (m : ℕ) → m ≤ n → ends_empty s m ≡ false) (between : (m : ℕ) → n < m → m < k → ends_empty t m ≡ false) where
    pub none_ends : (m : ℕ) → m < k → ends_empty t m ≡ false
    none_ends m h = go (dec_le m n)
      where
        go : Dec (m ≤ n) → ends_empty t m ≡ false
        go (yes u) = ends_same m u ∙ before m u
        go (no u) = between m (omega arith) h

    pub none_ended : ends_empty t k ≡ false → (m : ℕ) → m ≤ k → ends_empty t m ≡ false
    none_ended e m h = go (dec_le k m)
      where
        go : Dec (k ≤ m) → ends_empty t m ≡ false
        go (yes u) = let q : m ≡ k = omega arith in rw q e
        go (no u) = none_ends m (omega arith)
