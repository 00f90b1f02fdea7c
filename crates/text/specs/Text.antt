-- A text is a list of bytes. Past its end stands END, which is no byte.
use Rattle.std.specs.Prelude.{Option, if◌then◌else◌, ◌≡◌, refl, List, eqb, ℕ, ◌+◌, get_or, None, Some}
use mathlib.Core.List as L
use Prim.Native.Char.{code}
use Prim.Native.String.{String, [], ◌∷◌}

abbrev pub END : ℕ
END = 256

abbrev pub byte_at : List ℕ → ℕ → ℕ
byte_at s at = get_or s at END

-- the line feed, the minus, and the first and the last digit
abbrev pub LF : ℕ
LF = 10

abbrev pub MINUS : ℕ
MINUS = 45

abbrev pub ZERO : ℕ
ZERO = 48

abbrev pub NINE : ℕ
NINE = 57

-- the bytes of a quoted text
abbrev pub bytes : String → List ℕ
bytes [] = L.[]
bytes (c ∷ cs) = L.◌∷◌ (code c) (bytes cs)

they_are : bytes "\n-09" ≡ L.◌∷◌ LF (L.◌∷◌ MINUS (L.◌∷◌ ZERO (L.◌∷◌ NINE L.[])))
they_are = refl

-- the place after what was looked for, or none where another thing stands there
abbrev pub Next : Type 0
Next = Option ℕ

-- a fixed byte string, compared at a place: the place after it
unfoldable pub key_at : List ℕ → List ℕ → ℕ → Next
key_at L.[] s at = Some at
key_at (L.◌∷◌ k ks) s at =
    let rest = key_at ks s (at + 1) in
    if eqb (byte_at s at) k then rest else None
