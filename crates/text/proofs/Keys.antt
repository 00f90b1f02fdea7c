-- A fixed byte string at a place stands there where the text from there on begins with it.
use mathlib.Core.Path.{◌≡◌, refl, sym, ap, ◌∙◌}
use mathlib.Core.Bool.{Bool, true, false, ◌&&◌}
use mathlib.Core.List.{List, [], ◌∷◌}
use Prim.Native.Nat.{ℕ, suc, ◌+◌, ◌-◌, ◌<◌, ◌≤◌}
use native.Mathlib.Decide.{dec_lt}
use native.Mathlib.Numerals.{add-one}
use native.Mathlib.Omega.{arith}
use borrow.Author.Tests.{ne_eqb}
use lib.Dec.{eqb}
use lib.ListN.{length, get_or, take, drop, drop_of_length-le, get_or-eq_default}
use lib.Pointwise.{pointwise}
use lib.Seq.{drop-cons}
use mir.Syntax.{w8}
use mir.Val.{Fits}
use Rattle.std.specs.List.{starts_with}
use Rattle.std.proofs.lemmas.Bool.Decides.{nat_tests}
use Rattle.std.proofs.lemmas.Option.{slice_get_within}
use Rattle.std.proofs.lemmas.Slice.{between_to_end}
use Rattle.std.specs.Prelude.{if◌then◌else◌, Option, None, Some, slice_get}
use Rattle.text.specs.Text.{byte_at, key_at}
use Rattle.text.proofs.Numbers.{byte_read, byte_none}

turned : (a b : ℕ) → eqb a b ≡ eqb b a
turned a b = grind (arith, nat_tests)

both : (p r q : Bool) (x y : ℕ) → p ≡ r → x ≡ y
    → if◌then◌else◌ {A = Option ℕ} p (if q then Some x else None) None ≡ (if r && q then Some y else None)
both false r q x y d e = simp (← d)
both true r false x y d e = simp (← d)
both true r true x y d e = simp (← d, e)

-- past the end of a text stands no byte of a key
pub key_begins : (key s : List ℕ) (at : ℕ) → ((j : ℕ) → Fits w8 (get_or key j 0))
    → key_at key s at ≡ (if pointwise eqb key (take (length key) (drop at s)) then Some (at + length key) else None)
unfolding key_at
key_begins [] s at f = ap Some (omega arith)
key_begins (k ∷ ks) s at f = go (dec_lt at (length s)) (key_begins ks s (suc at) (λ j. f (suc j)))
  where
    go : Dec (at < length s) → key_at ks s (suc at) ≡ (if pointwise eqb ks (take (length ks) (drop (suc at) s)) then Some (suc at + length ks) else None)
        → key_at (k ∷ ks) s at ≡ (if pointwise eqb (k ∷ ks) (take (suc (length ks)) (drop at s)) then Some (at + suc (length ks)) else None)
    go (yes p) later = rw (drop-cons s at 256 p, add-one at, later) (both (eqb (byte_at s at) k) (eqb k (byte_at s at)) _ _ _ (turned _ k) (omega arith))
    go (no q) later =
        let o : byte_at s at ≡ 256 = get_or-eq_default s 256 (omega arith) in
        rw (drop_of_length-le s {i = at} (omega arith)) (simp (ne_eqb (byte_at s at) k (λ e. omega (arith, f 0))))

-- the empty key stands anywhere
pub key_empty : (key s : List ℕ) (at : ℕ) → None ≡ slice_get key 0 → key_at key s at ≡ Some at
unfolding key_at
key_empty [] s at e = refl
key_empty (k ∷ ks) s at e = cc

-- and no key where its first byte does not
first_differs : (key s : List ℕ) (at first : ℕ) → Some first ≡ slice_get key 0 → (byte_at s at ≡ first → ⊥) → key_at key s at ≡ None
unfolding key_at
first_differs [] s at first e n = cc
first_differs (k ∷ ks) s at first e n =
    let is : first ≡ k = cc in
    simp (ne_eqb (byte_at s at) k (λ q. n (q ∙ sym is)))

module _ (key s : List ℕ) (at : ℕ) where
  pub key_past : (first : ℕ) → Some first ≡ slice_get key 0 → first < 256 → None ≡ slice_get s at → key_at key s at ≡ None
  key_past first e h p = first_differs key s at first e (λ q. omega (arith, byte_none s at (sym p)))

  pub key_differs : (first b : ℕ) → Some first ≡ slice_get key 0 → Some b ≡ slice_get s at → (b ≡ first → ⊥) → key_at key s at ≡ None
  key_differs first b e p n = first_differs key s at first e (λ q. n (omega (arith, byte_read s at b (sym p))))

  pub key_inside : (b : ℕ) → Some b ≡ slice_get s at → at ≤ length s
  key_inside b p = omega (arith, slice_get_within s at b (sym p))

  -- as the code asks it, of the part that reaches to the text's end
  module _ (small : (j : ℕ) → Fits w8 (get_or key j 0)) where
    begins : starts_with eqb (take (length s - at) (drop at s)) key ≡ pointwise eqb key (take (length key) (drop at s))
    begins = ap (λ (t : List ℕ). pointwise eqb key (take (length key) t)) (between_to_end s at (length s) (omega arith))

    pub key_stands : true ≡ starts_with eqb (take (length s - at) (drop at s)) key → key_at key s at ≡ Some (at + length key)
    key_stands t = simp (key_begins key s at small, ← begins, ← t)

    pub key_stands_not : false ≡ starts_with eqb (take (length s - at) (drop at s)) key → key_at key s at ≡ None
    key_stands_not f = simp (key_begins key s at small, ← begins, ← f)

pub ruleset keys = (key_empty, key_past, key_differs, key_inside, key_stands, key_stands_not)
