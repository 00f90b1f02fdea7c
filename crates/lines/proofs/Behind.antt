-- What stands behind the first empty line of a text, byte by byte.
use mathlib.Core.Path.{◌≡◌, refl, sym, ◌∙◌, ap}
use mathlib.Core.Bool.{Bool, true, false, ◌&&◌}
use mathlib.Core.List.{List, [], ◌∷◌}
use Prim.Native.Nat.{ℕ, ◌+◌}
use lib.Dec.{eqb}
use lib.ListN.{drop}
use lib.Seq.{drop-drop}
use Rattle.std.specs.Prelude.{if◌then◌else◌, Some}
use Rattle.exact.proofs.Parts.{by_test}
use Rattle.lines.specs.Cut.{empty_in, behind_place, behind}

-- `start` says that a line begins at the text's first byte
unfoldable pub behind_in : (start : Bool) → List ℕ → List ℕ
behind_in start [] = []
behind_in start (b ∷ t) = if start && eqb b 10 then t else behind_in (eqb b 10) t

pub one_byte : (start : Bool) (b : ℕ) (t : List ℕ) (i : ℕ)
    → empty_in start (b ∷ t) i ≡ (if start && eqb b 10 then Some (i + 1) else empty_in (eqb b 10) t (i + 1))
unfolding empty_in
one_byte start b t i = go (eqb b 10) start
  where
    go : (feed start : Bool)
        → (if feed then (if start then Some (i + 1) else empty_in true t (i + 1)) else empty_in false t (i + 1))
        ≡ (if start && feed then Some (i + 1) else empty_in feed t (i + 1))
    go true true = refl
    go true false = refl
    go false true = refl
    go false false = refl

-- the bytes t are what the text s has from place i on
module _ (s : List ℕ) where
  pub rest_moves : (i b : ℕ) (t : List ℕ) → drop i s ≡ b ∷ t → drop (i + 1) s ≡ t
  rest_moves i b t e = sym (drop-drop 1 i s) ∙ ap (drop 1) e

  behind_from : (t : List ℕ) (i : ℕ) (start : Bool) → drop i s ≡ t → behind_place (empty_in start t i) s ≡ behind_in start t
  unfolding empty_in behind_in
  behind_from [] i start e = refl
  behind_from (b ∷ t) i start e =
      rw (one_byte start b t i)
      (by_test (start && eqb b 10)
      (λ r. behind_place (if r then Some (i + 1) else empty_in (eqb b 10) t (i + 1)) s ≡ (if r then t else behind_in (eqb b 10) t))
      (λ r. rest_moves i b t e)
      (λ r. behind_from t (i + 1) (eqb b 10) (rest_moves i b t e)))

pub behind_is : (s : List ℕ) → behind s ≡ behind_in true s
unfolding behind
behind_is s = behind_from s s 0 true refl
