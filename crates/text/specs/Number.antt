-- A number has an optional minus and one to seven digits, without leading zeros and without -0.
use Rattle.std.specs.Prelude.{Option, if◌then◌else◌, Bool, List, ℕ, zero, suc, ◌+◌, ◌-◌, ◌*◌, ◌<◌, ltb, eqb, ℤ, pos, neg_ℤ, None, Some}
use Rattle.text.specs.Text.{ZERO, NINE, MINUS, byte_at}

-- what a byte says as a digit, or that it is none
abbrev pub NO_DIGIT : ℕ
NO_DIGIT = 10

abbrev pub digit_of : ℕ → ℕ
digit_of b = if ltb b ZERO then NO_DIGIT else (if ltb NINE b then NO_DIGIT else b - ZERO)

abbrev pub is_numeral : ℕ → Bool
is_numeral b = ltb (digit_of b) NO_DIGIT

unfoldable pub digit_at : List ℕ → ℕ → ℕ
digit_at s at = digit_of (byte_at s at)

-- the same, as the digit or none
abbrev pub digit_said : List ℕ → ℕ → Option ℕ
digit_said s at = if eqb (digit_at s at) NO_DIGIT then None else Some (digit_at s at)

-- what digits say and the place after them, or none
abbrev pub Digits : Type 0
Digits = Option (ℕ × ℕ)

-- a number and the place after it, or none
abbrev pub Number : Type 0
Number = Option (ℤ × ℕ)

-- up to `left` digits more, after digits that say v
unfoldable pub more_digits : (left v : ℕ) → List ℕ → ℕ → Digits
more_digits zero v s at = Some (v, at)
more_digits (suc left) v s at =
    let rest = more_digits left (v * 10 + digit_at s at) s (at + 1) in
    if eqb (digit_at s at) NO_DIGIT then Some (v, at) else rest

-- a zero alone, or a digit from 1 to 9 and up to six more. What follows is the next reader's
unfoldable pub natural_at : List ℕ → ℕ → Digits
natural_at s at =
    if eqb (digit_at s at) NO_DIGIT
    then None
    else (if eqb (digit_at s at) 0 then Some (0, at + 1) else more_digits 6 (digit_at s at) s (at + 1))

abbrev pub plain : Digits → Number
plain (Some (v, next)) = Some (pos v, next)
plain None = None

-- behind a minus: no zero
abbrev pub negative : Digits → Number
negative (Some (v, next)) = if eqb v 0 then None else Some (neg_ℤ (pos v), next)
negative None = None

unfoldable pub number_at : List ℕ → ℕ → Number
number_at s at = if eqb (byte_at s at) MINUS then negative (natural_at s (at + 1)) else plain (natural_at s at)

-- at most seven digits
abbrev pub Small : Digits → Type 0
Small (Some (v, next)) = v < 10000000
Small None = Unit {0}

-- a number that seven digits cannot say: it stands for one that is missing
abbrev pub missing : ℤ
missing = pos 10000000
