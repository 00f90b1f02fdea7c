-- What is read of a text up to the end of a block: nothing that stands behind its empty line changes it, and the end of the text closes the
-- block as the empty line does.
use mathlib.Core.Path.{◌≡◌, sym, ap, ◌∙◌}
use mathlib.Core.List.{List, [], ◌∷◌, ◌++◌}
use Prim.Native.Nat.{ℕ}
use lib.Seq.{append_snoc}
use Rattle.text.specs.Text.{byte_at}
use Rattle.lines.specs.Pieces.{first_piece}
use Rattle.lines.proofs.Ended.{Ended, both_end, lines_ended}
use Rattle.lines.proofs.Pieces.{Shares, whole, empty, lines, piece_shares}

-- a reading of blocks: one of an empty line at once, and the same of two texts that are the same up to where the block of both ends
module _ {B : Type 0} (block : List ℕ → B) (none : B)
    (starts_empty : (s : List ℕ) → byte_at s 0 ≡ 10 → block s ≡ none)
    (block_ended : (s t : List ℕ) (m : ℕ) → Ended s t 0 0 m → block s ≡ block t) where
  shared_block : {s t : List ℕ} → Shares s t → block s ≡ block t
  shared_block (whole e) = ap block e
  shared_block {s} {t} (empty f g) = starts_empty s f ∙ sym (starts_empty t g)
  shared_block {s} {t} (lines m line next) = block_ended s t m (both_end line next)

  pub piece_decides : (s : List ℕ) → block (first_piece s) ≡ block s
  piece_decides s = sym (shared_block (piece_shares s))

  pub closed_or_ended : (front behind : List ℕ) → block (front ++ (10 ∷ 10 ∷ behind)) ≡ block (front ++ (10 ∷ []))
  closed_or_ended front behind = ap block (sym (append_snoc front 10 (10 ∷ behind))) ∙ block_ended _ _ _ (lines_ended front behind)
