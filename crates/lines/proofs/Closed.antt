-- A piece that is closed, by its empty line: whatever follows, it is the same, and what stands behind it grows. And a text that is one closed piece.
use mathlib.Core.Path.{◌≡◌, ◌∙◌, ap}
use mathlib.Core.Bool.{Bool, true, false}
use mathlib.Core.List.{List, [], ◌∷◌, ◌++◌}
use Prim.Native.Nat.{ℕ, ◌+◌, ◌≤◌}
use native.Mathlib.Omega.{arith}
use lib.Dec.{eqb}
use lib.ListN.{length, take, drop, take-append-drop}
use lib.Seq.{take-append-le, drop-append-le, take_all, drop-length, length-take-le}
use Rattle.std.specs.Prelude.{if◌then◌else◌, Some}
use Rattle.lines.specs.Cut.{empty_in, behind}
use Rattle.lines.specs.Pieces.{first_piece, OnePiece}
use Rattle.lines.proofs.Along.{never_at}
use Rattle.lines.proofs.Cut.{EmptyAt, at_once, behind_line, empty_found, behind_range}

-- an empty line that is found is found whatever follows
pub empty_append : (start : Bool) (x body : List ℕ) (i k : ℕ) → empty_in start x i ≡ Some k → empty_in start (x ++ body) i ≡ Some k
unfolding empty_in
empty_append start [] body i k = λ e. absurd (never_at e)
empty_append start (b ∷ x) body i k = go (eqb b 10) start (λ s. empty_append s x body (i + 1) k)
  where
    go : (feed begins : Bool) → ((s : Bool) → empty_in s x (i + 1) ≡ Some k → empty_in s (x ++ body) (i + 1) ≡ Some k)
        → (if feed then (if begins then Some (i + 1) else empty_in true x (i + 1)) else empty_in false x (i + 1)) ≡ Some k
        → (if feed then (if begins then Some (i + 1) else empty_in true (x ++ body) (i + 1)) else empty_in false (x ++ body) (i + 1)) ≡ Some k
    go true true more e = e
    go true false more e = more true e
    go false begins more e = more false e

module _ (s t : List ℕ) (k : ℕ) (e : empty_in true s 0 ≡ Some k) where
  inside : k ≤ length s
  inside = (behind_range s 0 k true e).1

  pub closed_first : first_piece (s ++ t) ≡ first_piece s
  unfolding first_piece
  closed_first = rw (empty_append true s t 0 k e, e) (take-append-le k s t inside)

  pub closed_behind : behind (s ++ t) ≡ behind s ++ t
  unfolding behind
  closed_behind = rw (empty_append true s t 0 k e, e) (drop-append-le k s t inside)

-- ---- one piece, and what stands behind it
pub one_itself : (s : List ℕ) → OnePiece s → first_piece s ≡ s
unfolding first_piece
one_itself s one = rw one (take_all (length s) s (omega arith))

module _ (s t : List ℕ) (one : OnePiece s) where
  pub one_first : first_piece (s ++ t) ≡ s
  one_first = closed_first s t (length s) one ∙ one_itself s one

  pub one_behind : behind (s ++ t) ≡ t
  unfolding behind
  one_behind = closed_behind s t (length s) one ∙ rw one (ap (λ (l : List ℕ). l ++ t) (drop-length s))

-- ---- the first piece of a text, where it is closed, is one

-- an empty line among the first bytes is found in them
empty_within : (start : Bool) (x body : List ℕ) (i k : ℕ) → empty_in start (x ++ body) i ≡ Some k → k ≤ i + length x → empty_in start x i ≡ Some k
unfolding empty_in
empty_within start [] body i k e u = absurd (go (empty_found start body i k e))
  where
    go : EmptyAt start body i k → ⊥
    go (at_once b f h) = omega arith
    go (behind_line m f g h) = omega arith
empty_within start (b ∷ x) body i k e u = go (eqb b 10) start e (λ s f. empty_within s x body (i + 1) k f (omega arith))
  where
    go : (feed begins : Bool)
        → (if feed then (if begins then Some (i + 1) else empty_in true (x ++ body) (i + 1)) else empty_in false (x ++ body) (i + 1)) ≡ Some k
        → ((s : Bool) → empty_in s (x ++ body) (i + 1) ≡ Some k → empty_in s x (i + 1) ≡ Some k)
        → (if feed then (if begins then Some (i + 1) else empty_in true x (i + 1)) else empty_in false x (i + 1)) ≡ Some k
    go true true f more = f
    go true false f more = more true f
    go false begins f more = more false f

module _ (s : List ℕ) (k : ℕ) (e : empty_in true s 0 ≡ Some k) where
  pub first_one : OnePiece (first_piece s)
  unfolding first_piece
  first_one =
      let long = length-take-le k s (behind_range s 0 k true e).1 in
      rw e (rw long (empty_within true (take k s) (drop k s) 0 k (rw (take-append-drop k s) e) (omega arith)))
