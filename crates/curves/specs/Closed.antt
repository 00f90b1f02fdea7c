-- A text that holds an empty line: the block that begins it ends there.
use Rattle.std.specs.Prelude.{List, ◌∷◌, ◌++◌, ℕ}
use Rattle.text.specs.Text.{LF}

pub data Closed : List ℕ → Type 0 where
  at_once : (behind : List ℕ) → Closed (LF ∷ behind)
  after_line : (front behind : List ℕ) → Closed (front ++ (LF ∷ LF ∷ behind))
