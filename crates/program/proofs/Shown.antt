-- The front of a page onto which a text was written is the text, as far as the page reaches.
use Rattle.std.proofs.Common.{◌≡◌, refl, ap, ℕ, suc, min, List, [], ◌∷◌, length, take}
use native.Mathlib.Numerals.{unary_clauses}
use Rattle.std.proofs.Math.ListN.{set}
use Rattle.std.proofs.Math.Seq.{sets}
use Rattle.page.specs.Page.{written}

behind_first : (vs l : List ℕ) (x i : ℕ) → sets (x ∷ l) (suc i) vs ≡ x ∷ sets l i vs
behind_first [] l x i = refl
behind_first (v ∷ vs) l x i = behind_first vs (set l i v) x (suc i)

pub shown : (text page : List ℕ) → take (min (length text) (length page)) (written page 0 text) ≡ take (length page) text
shown [] [] = refl
shown [] (x ∷ page) = simp unary_clauses refl
shown (b ∷ text) [] = simp unary_clauses refl
shown (b ∷ text) (x ∷ page) = simp unary_clauses (rw (behind_first text page b 0) (ap (λ (l : List ℕ). b ∷ l) (shown text page)))
