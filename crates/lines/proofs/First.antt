-- The first piece of a text, byte by byte.
use mathlib.Core.Path.{◌≡◌, refl, sym, ◌∙◌}
use mathlib.Core.Bool.{Bool, true, ◌&&◌}
use mathlib.Core.List.{List, [], ◌∷◌, ◌++◌, append_assoc}
use Prim.Native.Nat.{ℕ, ◌+◌}
use lib.Dec.{eqb}
use lib.ListN.{take, drop, take-append-drop}
use lib.Seq.{take-add}
use Rattle.std.specs.Prelude.{if◌then◌else◌, Some}
use Rattle.exact.proofs.Parts.{by_test}
use Rattle.lines.specs.Cut.{empty_in}
use Rattle.lines.specs.Pieces.{up_to_place, first_piece}
use Rattle.lines.proofs.Behind.{one_byte, rest_moves}

-- `start` says that a line begins at the text's first byte
unfoldable pub first_in : (start : Bool) → List ℕ → List ℕ
first_in start [] = []
first_in start (b ∷ t) = b ∷ (if start && eqb b 10 then [] else first_in (eqb b 10) t)

-- the bytes t are what the text s has from place i on
module _ (s : List ℕ) where
  front_grows : (i b : ℕ) (t u : List ℕ) → drop i s ≡ b ∷ t → take (i + 1) s ++ u ≡ take i s ++ (b ∷ u)
  front_grows i b t u e = rw (take-add i 1 s, e) (append_assoc (take i s) (b ∷ []) u)

  first_from : (t : List ℕ) (i : ℕ) (start : Bool) → drop i s ≡ t → up_to_place (empty_in start t i) s ≡ take i s ++ first_in start t
  unfolding empty_in first_in
  first_from [] i start e = sym (rw e at (take-append-drop i s))
  first_from (b ∷ t) i start e =
      rw (one_byte start b t i)
      (by_test (start && eqb b 10)
      (λ r. up_to_place (if r then Some (i + 1) else empty_in (eqb b 10) t (i + 1)) s ≡ take i s ++ (b ∷ (if r then [] else first_in (eqb b 10) t)))
      (λ r. rw (take-add i 1 s, e))
      (λ r. first_from t (i + 1) (eqb b 10) (rest_moves s i b t e) ∙ front_grows i b t _ e))

pub first_is : (s : List ℕ) → first_piece s ≡ first_in true s
unfolding first_piece
first_is s = first_from s s 0 true refl
