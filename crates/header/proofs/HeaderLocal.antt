-- A header is decided by its first bytes, and by its first piece, where these are those of the squeezed text: a line of it has at most 48 bytes. How
-- many other headers are squeezed too does not matter.
use mathlib.Core.Path.{◌≡◌, sym, ◌∙◌, ap}
use mathlib.Core.List.{List}
use Prim.Native.Nat.{ℕ, suc, ◌<◌}
use native.Mathlib.Omega.{arith}
use lib.ListN.{take}
use lib.Seq.{get_or-take}
use Rattle.text.specs.Text.{byte_at}
use Rattle.lines.specs.Pieces.{PIECE, first_piece}
use Rattle.lines.specs.Squeezed.{squeezed}
use Rattle.header.proofs.HeaderAlike.{SameHeader}
use Rattle.header.proofs.HeaderSame.{AlikeInAll, all_turned, all_then, same_header}
use Rattle.header.proofs.HeaderFirst.{firsts_alike}
use Rattle.header.proofs.HeaderSqueezed.{squeezed_alike, itself_squeezed}

module _ (others : ℕ) (got s : List ℕ) where
  pub bytes_alike : take PIECE got ≡ take PIECE (squeezed (suc others) s) → AlikeInAll got s
  bytes_alike e = all_turned (squeezed_alike others s got PIECE (omega arith) agree)
    where
      agree : (i : ℕ) → i < PIECE → byte_at got i ≡ byte_at (squeezed (suc others) s) i
      agree i h = sym (get_or-take PIECE got i 256 h) ∙ ap (λ (l : List ℕ). byte_at l i) e ∙ get_or-take PIECE (squeezed (suc others) s) i 256 h

  pub piece_alike : first_piece got ≡ first_piece (squeezed (suc others) s) → AlikeInAll got s
  piece_alike e = all_then (firsts_alike got (squeezed (suc others) s) e) (itself_squeezed others s)

  pub bytes_header : take PIECE got ≡ take PIECE (squeezed (suc others) s) → SameHeader got s
  bytes_header e = same_header (bytes_alike e)

  pub piece_header : first_piece got ≡ first_piece (squeezed (suc others) s) → SameHeader got s
  piece_header e = same_header (piece_alike e)
