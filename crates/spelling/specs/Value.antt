-- The printed text of the values of a line, as they are read.
use Rattle.std.specs.Prelude.{if◌then◌else◌, ◌≡◌, refl, List, ℕ, ◌+◌, ℤ, pos}
use Rattle.exact.specs.Whole.{up_to}
use Rattle.text.specs.Text.{bytes}
use Rattle.text.specs.Number.{missing}
use Rattle.text.specs.Decimal.{natural, number}
use Rattle.keys.specs.Keys.{AHEAD, EOP, UOL, may_miss}
use Rattle.lines.specs.Line.{value_in}
use Rattle.records.specs.Records.{maybe_of}
use Rattle.sheet.specs.Print.{maybe_text}

-- the value behind key k, or a minus where it may be missing
unfoldable pub value_text : ℕ → ℤ → List ℕ
value_text k z = if may_miss k then maybe_text (maybe_of z) else number z

-- the values of n fields that are read at a place, from key `first` on
unfoldable pub value_texts : (first n : ℕ) → List ℕ → ℕ → List (List ℕ)
value_texts first n s at = up_to (λ j. value_text (first + j) (value_in first s at j)) n

-- ---- examples
hour : value_text AHEAD (pos 14) ≡ bytes "14"
unfolding value_text natural
hour = refl

given : value_text UOL (pos 90000) ≡ bytes "90000"
unfolding value_text natural
given = refl

not_given_lem : (value_text UOL missing ≡ bytes "-") × (value_text EOP missing ≡ bytes "-")
unfolding value_text
not_given_lem = (refl, refl)
