-- A row of marks as one word, hour 0 the lowest bit.
use Rattle.std.specs.Prelude.{if◌then◌else◌, Bool, ℕ, zero, suc, ◌+◌, ◌^◌}

unfoldable pub word : ℕ → (ℕ → Bool) → ℕ
word zero f = 0
word (suc n) f = word n f + (if f n then 2 ^ n else 0)
