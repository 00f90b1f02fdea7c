-- What stands in a text: bytes from one place up to another, and a block with what closes it.
use Rattle.std.specs.Prelude.{◌≡◌, List, ◌∷◌, ◌++◌, ℕ, ◌<◌, length, drop}
use Rattle.text.specs.Text.{END, LF, byte_at}

-- from the place `at` on stand the bytes x, and behind them what stands from the place `next` on
pub record Spelt (s : List ℕ) (at : ℕ) (x : List ℕ) (next : ℕ) : Type 0 where
  pub bytes : drop at s ≡ x ++ drop next s

-- a text holds bytes only
abbrev pub Bytes : List ℕ → Type 0
Bytes s = (i : ℕ) → i < length s → byte_at s i < END

-- a text is x, closed by the end of the text, or by an empty line with anything behind it
pub data IsText (s x : List ℕ) : Type 0 where
  ended : s ≡ x → IsText s x
  closed : (behind : List ℕ) → s ≡ x ++ (LF ∷ behind) → IsText s x
