-- A text in pieces, cut at its empty lines: what stands behind k of them, and piece k, which is empty where it is absent.
use Rattle.text.specs.Text.{Next}
use Rattle.std.specs.Prelude.{◌≡◌, Bool, true, false, List, [], ◌∷◌, ℕ, zero, suc, length, take, drop, None, Some}
use Rattle.lines.specs.Cut.{empty_in, behind}

-- what stands behind k pieces
unfoldable pub rest_after : ℕ → List ℕ → List ℕ
rest_after zero s = s
rest_after (suc k) s = behind (rest_after k s)

abbrev pub or_end : Next → List ℕ → ℕ
or_end (Some i) s = i
or_end None s = length s

-- the place behind the piece that begins at a place: after its empty line, or the text's end
unfoldable pub piece_after : List ℕ → ℕ → ℕ
piece_after s at = or_end (empty_in true (drop at s) at) s

abbrev pub up_to_place : Next → List ℕ → List ℕ
up_to_place (Some i) s = take i s
up_to_place None s = s

-- the first piece of a text, with its empty line; and piece k, from 0
unfoldable pub first_piece : List ℕ → List ℕ
first_piece s = up_to_place (empty_in true s 0) s

abbrev pub piece : ℕ → List ℕ → List ℕ
piece k s = first_piece (rest_after k s)

-- a text that is one piece: its first empty line ends it
abbrev pub OnePiece : List ℕ → Type 0
OnePiece s = empty_in true s 0 ≡ Some (length s)

-- of a piece so many bytes decide: a header, an hour block and an import's block are judged alike whatever follows them
abbrev pub PIECE : ℕ
PIECE = 10640

-- whether any byte stands there
abbrev pub is_some : List ℕ → Bool
is_some [] = false
is_some (b ∷ t) = true
