-- The first empty line of a text: byte by byte as the code looks for it, and what stands behind it.
use mathlib.Core.Path.{◌≡◌, refl, sym, ap, ◌∙◌}
use mathlib.Core.Bool.{Bool, true, false, false≢true}
use mathlib.Core.List.{List, [], ◌∷◌}
use Prim.Native.Nat.{ℕ, ◌+◌, ◌≤◌, ◌<◌}
use native.Mathlib.Numerals.{add-one}
use native.Mathlib.Nat.{add-zero, add_assoc}
use native.Mathlib.Omega.{arith}
use borrow.Author.Tests.{eqb-true, eq-eqb, ne_eqb}
use lib.Dec.{eqb, lit<}
use lib.ListN.{length, get_or, drop, length-drop, drop_of_length-le}
use lib.Seq.{drop-cons, drop-drop}
use Rattle.std.specs.Prelude.{if◌then◌else◌, None, Some}
use Rattle.exact.proofs.Parts.{by_test}
use Rattle.text.specs.Text.{byte_at, Next}
use Rattle.text.proofs.Numbers.{byte_inside}
use Rattle.lines.specs.Cut.{empty_in, behind_place, behind}
use Rattle.lines.proofs.Agree.{either}
use Rattle.lines.proofs.Along.{never_at}

-- ---- the byte at a place, and the rest of the text
module _ (s : List ℕ) (n i : ℕ) (start : Bool) where
  pub empty_here : n < length s → get_or s n 0 ≡ 10 → start ≡ true → empty_in start (drop n s) i ≡ Some (i + 1)
  unfolding empty_in
  empty_here h e f = rw (drop-cons s n 0 h, eq-eqb _ _ e, f)

  pub empty_later : n < length s → get_or s n 0 ≡ 10 → start ≡ false → empty_in start (drop n s) i ≡ empty_in true (drop (n + 1) s) (i + 1)
  unfolding empty_in
  empty_later h e f = rw (drop-cons s n 0 h, eq-eqb _ _ e, f, add-one n)

  pub not_empty : n < length s → (get_or s n 0 ≡ 10 → ⊥) → empty_in start (drop n s) i ≡ empty_in false (drop (n + 1) s) (i + 1)
  unfolding empty_in
  not_empty h e = rw (drop-cons s n 0 h, ne_eqb _ _ e, add-one n)

  -- a byte that ends no empty line is passed
  pub passes : (j : ℕ) → j ≡ i + 1 → n < length s → (get_or s n 0 ≡ 10 → start ≡ false)
      → empty_in start (drop n s) i ≡ empty_in (eqb (get_or s n 0) 10) (drop (n + 1) s) j
  passes j e h later =
      rw e
      (by_test (eqb (get_or s n 0) 10) (λ b. empty_in start (drop n s) i ≡ empty_in b (drop (n + 1) s) (i + 1))
      (λ f. empty_later h (eqb-true _ 10 f) (later (eqb-true _ 10 f)))
      (λ f. not_empty h (λ g. false≢true (sym f ∙ eq-eqb _ 10 g))))

  pub never_empty : length s ≤ n → empty_in start (drop n s) i ≡ None
  unfolding empty_in
  never_empty h = rw (drop_of_length-le s h)

-- ---- where the first empty line of the bytes t ends: behind its line feed, which is the first byte or stands behind another

pub data EmptyAt (start : Bool) (t : List ℕ) (i j : ℕ) : Type 0 where
  at_once : start ≡ true → byte_at t 0 ≡ 10 → j ≡ i + 1 → EmptyAt start t i j
  behind_line : (m : ℕ) → byte_at t m ≡ 10 → byte_at t (m + 1) ≡ 10 → j ≡ i + (m + 2) → EmptyAt start t i j

further : (start : Bool) (b : ℕ) (t : List ℕ) (i j : ℕ) → EmptyAt false t (i + 1) j → EmptyAt start (b ∷ t) i j
further start b t i j (at_once e f h) = absurd (false≢true e)
further start b t i j (behind_line m f g h) = behind_line (m + 1) (rw (add-one m) f) (rw (add-one (m + 1)) g) (omega arith)

begun : (start : Bool) (b : ℕ) (t : List ℕ) (i j : ℕ) → b ≡ 10 → EmptyAt true t (i + 1) j → EmptyAt start (b ∷ t) i j
begun start b t i j e (at_once s f h) = behind_line 0 e f (omega arith)
begun start b t i j e (behind_line m f g h) = further start b t i j (behind_line m f g h)

pub empty_found : (start : Bool) (t : List ℕ) (i j : ℕ) → empty_in start t i ≡ Some j → EmptyAt start t i j
unfolding empty_in
empty_found start [] i j = λ e. absurd (never_at e)
empty_found start (b ∷ t) i j =
    by_test (eqb b 10) (λ x. (if x then (if start then Some (i + 1) else empty_in true t (i + 1)) else empty_in false t (i + 1)) ≡ Some j → EmptyAt start (b ∷ t) i j)
    (λ h. feed start (eqb-true b 10 h) (empty_found true t (i + 1) j))
    (λ h e. further start b t i j (empty_found false t (i + 1) j e))
  where
    feed : (x : Bool) → b ≡ 10 → (empty_in true t (i + 1) ≡ Some j → EmptyAt true t (i + 1) j)
        → (if x then Some (i + 1) else empty_in true t (i + 1)) ≡ Some j → EmptyAt x (b ∷ t) i j
    feed true h f e = at_once refl h (cc)
    feed false h f e = begun false b t i j h (f e)

-- so behind the place from which it was looked for, and in the text
pub behind_range : (s : List ℕ) (at i : ℕ) (start : Bool) → empty_in start (drop at s) at ≡ Some i → (at < i) × (i ≤ length s)
behind_range s at i start e = go (empty_found start (drop at s) at i e)
  where
    go : EmptyAt start (drop at s) at i → (at < i) × (i ≤ length s)
    go (at_once b f h) = let inside = byte_inside (drop at s) 0 10 f (lit< tt) in (omega arith, omega (arith, length-drop at s))
    go (behind_line m f g h) = let inside = byte_inside (drop at s) (m + 1) 10 g (lit< tt) in (omega arith, omega (arith, length-drop at s))

-- ---- the same bytes at another place
abbrev moved : ℕ → Next → Next
moved k (Some j) = Some (k + j)
moved k None = None

empty_moved : (start : Bool) (t : List ℕ) (k i : ℕ) → empty_in start t (k + i) ≡ moved k (empty_in start t i)
unfolding empty_in
empty_moved start [] k i = refl
empty_moved start (b ∷ t) k i =
    rw (add_assoc k i 1)
    (either (λ x y. x ≡ moved k y) (eqb b 10)
    (either (λ x y. x ≡ moved k y) start refl (empty_moved true t k (i + 1)))
    (empty_moved false t k (i + 1)))

-- ---- what stands behind it
behind_moved : (s : List ℕ) (at : ℕ) (x : Next) → behind_place x (drop at s) ≡ behind_place (moved at x) s
behind_moved s at (Some j) = drop-drop j at s
behind_moved s at None = refl

behind_is : (s : List ℕ) (at : ℕ) → behind (drop at s) ≡ behind_place (empty_in true (drop at s) at) s
unfolding behind
behind_is s at =
    behind_moved s at (empty_in true (drop at s) 0)
    ∙ ap (λ (x : Next). behind_place x s) (sym (rw add-zero at (empty_moved true (drop at s) at 0)))

module _ (s : List ℕ) (at : ℕ) where
  pub behind_at : (i : ℕ) → empty_in true (drop at s) at ≡ Some i → drop i s ≡ behind (drop at s)
  behind_at i e = sym (behind_is s at ∙ ap (λ (x : Next). behind_place x s) e)

  pub behind_none_lem : empty_in true (drop at s) at ≡ None → behind (drop at s) ≡ []
  behind_none_lem e = behind_is s at ∙ ap (λ (x : Next). behind_place x s) e
