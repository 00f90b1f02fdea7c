-- The words of the import's theorems: the block that refuses its day.
use Rattle.std.specs.Prelude.{◌≡◌, ℕ, ◌<◌}
use Rattle.tariff.specs.Reply.{Verdict, clear, fault}

-- of n blocks, from 0, block `hour` is refused, with number and place, and none before it is
pub record FirstRefused (block : ℕ → Verdict) (n hour number place : ℕ) : Type 0 where
  pub below : hour < n
  pub before : (j : ℕ) → j < hour → block j ≡ clear
  pub refuses : block hour ≡ fault number place
