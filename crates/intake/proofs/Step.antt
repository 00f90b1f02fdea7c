-- One byte of a text: what is kept of it, where it is stored, and how far the text then is.
use mathlib.Core.Path.{◌≡◌, ◌∙◌}
use mathlib.Core.Bool.{false}
use mathlib.Core.List.{List, [], ◌∷◌, append_assoc}
use Prim.Native.Nat.{ℕ, ◌+◌, ◌≤◌, ◌<◌}
use native.Mathlib.Omega.{arith}
use Rattle.std.proofs.lemmas.Grind.{common_steps}
use lib.Dec.{eqb}
use lib.ListN.{length, set, take, drop}
use lib.Seq.{sets, sets-eq}
use Rattle.lines.specs.Pieces.{PIECE}
use Rattle.intake.specs.declared.Intake.{Intake}
use Rattle.intake.specs.Stretch.{longer}
use Rattle.text.specs.Text.{LF}
use Rattle.intake.specs.Intake.{kept, after, placed}

-- bytes stored one by one are placed
pub sets_placed : (k store : List ℕ) (n : ℕ) → n + length k ≤ length store → sets store n k ≡ placed store n k
sets_placed k store n h = sets-eq k store n h ∙ append_assoc (take n store) k (drop (n + length k) store)

pub placed_one : (store : List ℕ) (n b : ℕ) → n < length store → set store n b ≡ placed store n (b ∷ [])
placed_one store n b h = sets_placed (b ∷ []) store n (omega arith)

module _ (i : Intake) (b : ℕ) where
  -- what is kept is counted, and is no more than three bytes
  pub counted : (after i b).n ≡ i.n + length (kept i b)
  unfolding after kept
  counted = grind (arith, common_steps)

  pub few : length (kept i b) ≤ 3
  unfolding kept
  few = grind (arith, common_steps)

  -- a byte of a line, where there is room for more of its piece, is kept as it is
  pub copied : (i.left ≡ 0 → ⊥) → i.run < PIECE → eqb b LF ≡ false → (kept i b ≡ b ∷ []) × (after i b ≡ longer i 1)
  unfolding after kept
  copied going enough e = (grind (arith, common_steps), grind (arith, common_steps))
