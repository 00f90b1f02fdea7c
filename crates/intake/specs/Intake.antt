-- A text of any length in bounded memory: of each piece, cut at the empty lines, a program keeps the first 10,640 bytes, which decide it (a
-- header once it is squeezed), and its empty line; of what follows the last piece, one byte.
use Rattle.std.specs.Prelude.{if◌then◌else◌, ◌≡◌, Bool, true, false, not, ◌&&◌, List, [], ◌∷◌, ◌++◌, ℕ, ◌+◌, ◌-◌, ltb, leb, eqb, length, take, drop}
use Rattle.lines.specs.Pieces.{PIECE}
use Rattle.text.specs.Text.{LF, bytes}
use Rattle.intake.specs.declared.Intake.{Intake}
use Rattle.intake.specs.declared.Taken.{Taken}
use Rattle.intake.specs.Squeeze.{squeeze_first, squeezed_by, squeeze_after}

-- an empty line closes a piece
abbrev pub closes_piece : Intake → ℕ → Bool
closes_piece i b = i.start && eqb b LF

-- what is kept of the next byte. A piece that is cut short gets an `x`: the LF behind it ends the line that was cut, and the next LF is its
-- empty line
unfoldable pub kept : Intake → ℕ → List ℕ
kept i b =
    if eqb i.left 0
    then (if eqb i.run 0 then b ∷ [] else [])
    else (if ltb i.run PIECE then b ∷ [] else (if closes_piece i b then bytes "x\n\n" else []))

-- how far the text is then taken in
unfoldable pub after : Intake → ℕ → Intake
after i b =
    let n = i.n + length (kept i b) in
    if eqb i.left 0
    then record { n = n; run = 1; start = i.start; left = 0 }
    else
    (if closes_piece i b
    then record { n = n; run = 0; start = true; left = i.left - 1 }
    else record { n = n; run = (if ltb i.run PIECE then i.run + 1 else i.run); start = eqb b LF; left = i.left })

-- what is kept of a whole text
unfoldable pub kept_of : Intake → List ℕ → List ℕ
kept_of i [] = []
kept_of i (b ∷ t) = kept i b ++ kept_of (after i b) t

-- ---- into a lent store: bytes at a place of it, where there is room for them

abbrev pub placed : List ℕ → ℕ → List ℕ → List ℕ
placed store n bytes = take n store ++ (bytes ++ drop (n + length bytes) store)

abbrev pub has_room : List ℕ → Intake → Bool
has_room store i = leb (i.n + 3) (length store)

unfoldable pub after_all : List ℕ → Intake → List ℕ → Intake
after_all store i [] = i
after_all store i (b ∷ t) = if has_room store i then after_all store (after i b) t else i

unfoldable pub store_all : List ℕ → Intake → List ℕ → List ℕ
store_all store i [] = store
store_all store i (b ∷ t) = if has_room store i then store_all (placed store i.n (kept i b)) (after i b) t else store

-- the pieces of the longest text: a day's header and those of the days before and after it, and a block for each hour
abbrev pub PIECES : ℕ
PIECES = 28

-- a text of `pieces` at its beginning
abbrev pub at_first : ℕ → Intake
at_first pieces = record { n = 0; run = 0; start = true; left = pieces }

-- ---- a text that comes in reads

-- at its beginning, with so many headers
abbrev pub begun : (pieces headers : ℕ) → Taken
begun pieces headers = record { kept = at_first pieces; squeezed = squeeze_first headers; ended = false }

-- a part of it came, perhaps none: the store holds what is kept of that too
pub record TakenMore (store : List ℕ) (t : Taken) (last : List ℕ) (r : Taken) : Type 0 where
  pub part : List ℕ
  pub squeezing : r.squeezed ≡ squeeze_after t.squeezed part
  pub state : r.kept ≡ after_all store t.kept (squeezed_by t.squeezed part)
  pub holds : last ≡ store_all store t.kept (squeezed_by t.squeezed part)

-- some text was taken in from its beginning, its headers squeezed: the store holds what is kept of it, and so many bytes are
pub record TakenIn (store : List ℕ) (pieces headers : ℕ) (last : List ℕ) (count : ℕ) : Type 0 where
  pub text : List ℕ
  pub counted : count ≡ (after_all store (at_first pieces) (squeezed_by (squeeze_first headers) text)).n
  pub holds : last ≡ store_all store (at_first pieces) (squeezed_by (squeeze_first headers) text)

-- a byte is kept behind the first `needed` of so many pieces
unfoldable pub goes_past : Intake → (pieces needed : ℕ) → Bool
goes_past i pieces needed =
    if ltb pieces i.left
    then false
    else (if eqb needed (pieces - i.left) then not (eqb i.run 0) else ltb needed (pieces - i.left))
