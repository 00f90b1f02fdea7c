-- The lines of a block that are all alike, one after the other from a place on.
use Rattle.text.specs.Text.{Next}
use Rattle.std.specs.Prelude.{if◌then◌else◌, List, ℕ, zero, suc, ◌+◌, None, Some}
use Rattle.lines.specs.Line.{and_then, closes}

-- ---- each of them: `line` is the place behind such a line, and `say` is what it says

-- the place of line i, where the first stands at `at`
unfoldable pub series_place : (line : List ℕ → ℕ → Next) → List ℕ → (at i : ℕ) → Next
series_place line s at zero = Some at
series_place line s at (suc i) = and_then (series_place line s at i) (line s)

abbrev pub series_from : {A : Type 0} (say : List ℕ → ℕ → A) → A → List ℕ → Next → A
series_from say blank s (Some at) = say s at
series_from say blank s None = blank

-- what line i says, or `blank` where no such line stands
unfoldable pub series_in : {A : Type 0} (line : List ℕ → ℕ → Next) (say : List ℕ → ℕ → A) → A → List ℕ → (at i : ℕ) → A
series_in line say blank s at i = series_from say blank s (series_place line s at i)

-- ---- all of them: their count, or the first line of the block that is not as printed

pub data Series : Type 0 where
  line_count : ℕ → Series
  broken_line : (line : ℕ) → Series

abbrev pub series_after : Next → (line : ℕ) → (ℕ → Series) → Series
series_after (Some next) line rest = rest next
series_after None line rest = broken_line line

-- up to `left` lines more after i of them; the first of all is line `first_line` of the block. A line too many is not as printed, whatever
-- it holds
unfoldable pub series_at : (line : List ℕ → ℕ → Next) (first_line left : ℕ) → List ℕ → (at i : ℕ) → Series
series_at line first_line zero s at i = if closes s at then line_count i else broken_line (i + first_line)
series_at line first_line (suc left) s at i =
    let rest = series_after (line s at) (i + first_line) (λ next. series_at line first_line left s next (i + 1)) in
    if closes s at then line_count i else rest
