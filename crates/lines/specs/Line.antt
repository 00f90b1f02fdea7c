-- Keys and their numbers at a place of a text, and a line of them.
use Rattle.std.specs.Prelude.{if◌then◌else◌, Bool, true, false, ◌&&◌, ◌||◌, List, [], ◌∷◌, ◌++◌, ℕ, zero, suc, ◌+◌, ◌-◌, eqb, leb, replicate, ℤ, pos, None, Some}
use Rattle.exact.specs.Whole.{up_to}
use Rattle.lines.specs.declared.Fields.{Fields}
use Rattle.text.specs.Text.{MINUS, LF, END, byte_at, key_at, Next}
use Rattle.text.specs.Number.{missing, number_at, Number}
use Rattle.keys.specs.Keys.{KEYS, key_of, may_miss}

-- a number that may be missing, as a minus alone
abbrev pub or_missing : Number → List ℕ → ℕ → Number
or_missing (Some (v, next)) s at = Some (v, next)
or_missing None s at = if eqb (byte_at s at) MINUS then Some (missing, at + 1) else None

-- the value behind key k
unfoldable pub value_at : ℕ → List ℕ → ℕ → Number
value_at k s at = if may_miss k then or_missing (number_at s at) s at else number_at s at

abbrev pub value_after : ℕ → List ℕ → Next → Number
value_after k s (Some next) = value_at k s next
value_after k s None = None

-- key k and its value
unfoldable pub field_at : ℕ → List ℕ → ℕ → Number
field_at k s at = value_after k s (key_at (key_of k) s at)

abbrev pub next_of : Number → Next
next_of (Some (v, next)) = Some next
next_of None = None

abbrev pub value_of : Number → ℤ
value_of (Some (v, next)) = v
value_of None = pos 0

abbrev pub and_then : Next → (ℕ → Next) → Next
and_then (Some next) f = f next
and_then None f = None

-- whether what was looked for stands there, and the place after it
abbrev pub is_at : Next → Bool
is_at (Some next) = true
is_at None = false

abbrev pub place_in : Next → ℕ
place_in (Some next) = next
place_in None = 0

-- the place after n fields, from key `first` on
unfoldable pub after_fields : (first n : ℕ) → List ℕ → ℕ → Next
after_fields first zero s at = Some at
after_fields first (suc n) s at = and_then (after_fields first n s at) (λ i. next_of (field_at (first + n) s i))

abbrev pub value_from : ℕ → List ℕ → Next → ℤ
value_from k s (Some i) = value_of (field_at k s i)
value_from k s None = pos 0

-- the value of field n of them, from 0 on
unfoldable pub value_in : (first : ℕ) → List ℕ → ℕ → ℕ → ℤ
value_in first s at n = value_from (first + n) s (after_fields first n s at)

-- the first `count` of an array of `total` are f's, and the rest are d
abbrev pub filled {ℓ} : {A : Type ℓ} → (count total : ℕ) → (ℕ → A) → A → List A
filled count total f d = up_to f count ++ replicate (total - count) d

-- a line's fields are keys of the table, at most so many of them: nothing else is a line
abbrev pub WIDTH : ℕ
WIDTH = 20

abbrev pub is_line : (first count : ℕ) → Bool
is_line first count = leb (first + count) KEYS && leb count WIDTH

-- what is no line has no fields
abbrev pub no_fields : Fields
no_fields = record { next = None; values = replicate WIDTH (pos 0) }

-- what the one loop over a line's keys reads: the place after its fields, and their values. From the first wrong field on they are 0
abbrev pub fields_at : (first count : ℕ) → List ℕ → ℕ → Fields
fields_at first count s at =
    if is_line first count
    then record { next = after_fields first count s at; values = filled count WIDTH (value_in first s at) (pos 0) }
    else no_fields

-- the end of a line
abbrev pub line_feed : List ℕ → ℕ → Next
line_feed s at = key_at (LF ∷ []) s at

-- a line of n fields
unfoldable pub line_at : (first n : ℕ) → List ℕ → ℕ → Next
line_at first n s at = and_then (after_fields first n s at) (line_feed s)

-- a block ends at the end of input or at an empty line
unfoldable pub closes : List ℕ → ℕ → Bool
closes s at = eqb (byte_at s at) END || eqb (byte_at s at) LF

-- the first n bytes end with an empty line: an LF alone, or behind another
abbrev pub ends_empty : List ℕ → ℕ → Bool
ends_empty s zero = false
ends_empty s (suc zero) = eqb (byte_at s 0) LF
ends_empty s (suc (suc n)) = eqb (byte_at s (suc n)) LF && eqb (byte_at s n) LF
