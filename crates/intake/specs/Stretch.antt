-- A stretch: the next bytes of a line, which are kept as they come, all of them at once.
use Rattle.std.specs.Prelude.{if◌then◌else◌, false, List, [], ◌∷◌, ℕ, suc, ◌+◌, ◌-◌, min, eqb, take}
use Rattle.lines.specs.Pieces.{PIECE}
use Rattle.text.specs.Text.{LF}
use Rattle.intake.specs.declared.Intake.{Intake}

-- how many bytes stand in front of the first line feed, or all of them
unfoldable pub line_rest : List ℕ → ℕ
line_rest [] = 0
line_rest (b ∷ t) = if eqb b LF then 0 else suc (line_rest t)

-- how many bytes without a line feed are kept as they come: as many as a piece still takes and the store has room for, none behind the last
-- piece
unfoldable pub open_for : Intake → (room : ℕ) → ℕ
open_for i room = if eqb i.left 0 then 0 else min (PIECE - i.run) room

-- how many of the next bytes are a stretch: those in front of a line feed, among as many as are kept as they come
unfoldable pub stretch_of : Intake → (room : ℕ) → List ℕ → ℕ
stretch_of i room s = line_rest (take (open_for i room) s)

-- how far the text is taken in behind so many bytes of a line
abbrev pub longer : Intake → ℕ → Intake
longer i m = record { n = i.n + m; run = i.run + m; start = false; left = i.left }
