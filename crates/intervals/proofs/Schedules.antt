-- The ranges of five schedules, from the array that holds them.
use mathlib.Core.Path.{◌≡◌}
use mathlib.Core.List.{List}
use Prim.Native.Nat.{ℕ, ◌<◌}
use lib.IntN.{ℤ}
use Rattle.exact.specs.Whole.{Within}
use Rattle.tariff.specs.declared.Kw.{Kw}
use Rattle.tariff.proofs.Ranks.{five, at_five}
use Rattle.derate.specs.Five.{kw_five, kw_at, Close}

pub schedules_within : (f : ℕ → ℤ) (q : List Kw) → q ≡ kw_five f → Close q → (j : ℕ) → j < 5 → Within 2000000 (f j)
schedules_within f q e h = at_five (λ j. Within 2000000 (f j)) (rw e at (five (λ j. Within 2000000 (kw_at q j)) h.close))
