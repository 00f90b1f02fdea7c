-- What the code reads of the interval lines of a block.
use Rattle.std.specs.Prelude.{List, ℕ, ℤ, Result, Err, Ok}
use Rattle.std.specs.Borrow.{RattleType}
use Rattle.std.specs.Mem.{FitsInMemory}
use Rattle.lines.specs.Line.{line_at, value_in, filled}
use Rattle.lines.specs.Series.{series_in, Series, line_count, broken_line, series_at}
use Rattle.records.specs.contracts.series.Series.{the_row}
use Rattle.records.specs.declared.series.Series as declared

-- 30 records of the type fit in memory
abbrev pub SeriesFitsInMemory : RattleType → Type 0
SeriesFitsInMemory R = FitsInMemory (the_row R)

-- up to 30 interval lines in an array of as many places, or the first line that is not as printed
abbrev pub series_read : {A : Type 0} → (ℕ → A) → A → Series → Result (declared.Series A) ℕ
series_read said blank (line_count n) = Ok (record { n = n; iv = filled n 30 said blank })
series_read said blank (broken_line line) = Err line

-- those from a place on, where the first is line `first_line` of its block
abbrev pub series_read_at : {A : Type 0} → (first fields : ℕ) → ((ℕ → ℤ) → A) → A → (first_line : ℕ) → List ℕ → ℕ → Result (declared.Series A) ℕ
series_read_at first fields of blank first_line s at =
    series_read (series_in (line_at first fields) (λ s at. of (value_in first s at)) blank s at) blank (series_at (line_at first fields) first_line 30 s at 0)
