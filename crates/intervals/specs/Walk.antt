-- What the walk over an hour's intervals finds and writes, whatever the intervals come to.
use Rattle.std.specs.Prelude.{◌≡◌, Bool, List, ℕ, ◌<◌, ◌≤◌, length, get_or, replicate, ℤ, pos, Err}
use Rattle.exact.specs.Whole.{Within}
use Rattle.tariff.specs.declared.Grains.{Grains}
use Rattle.tariff.specs.declared.Check.{Check}
use Rattle.tariff.specs.declared.Hour.{Hour}
use Rattle.tariff.specs.declared.IclHour.{IclHour}
use Rattle.tariff.specs.declared.Expected.{Expected}
use Rattle.tariff.specs.Units.{grains}
use Rattle.tariff.specs.Reply.{Verdict, shown, clear, ◌then◌, Found}
use Rattle.tariff.specs.Outcome.{Outcome, first_stop, amount, sum_by}
use Rattle.tariff.specs.Hour.{block_fault, outcome_at}
use Rattle.tariff.specs.Controllable.{icl_fault, icl_outcome_at}
use Rattle.intervals.specs.declared.steps.Walked.{Walked}
use Rattle.intervals.specs.declared.Contributions.{Contributions}

abbrev pub grains_at : List Grains → ℕ → ℤ
grains_at l i = (get_or l i (grains (pos 0))).0

-- each entry keeps within what an interval can contribute
pub record Bounded (l : List Grains) : Type 0 where
  pub each : (i : ℕ) → Within 100000000000000000 (grains_at l i)

-- the first fault of the intervals; where there is none, the contributions stand in front, and 0 behind them
pub record WalkedTo (outcome : ℕ → Outcome) (n : ℕ) (r : Walked) : Type 0 where
  pub first : shown r.found ≡ first_stop outcome n
  pub long : length r.parts ≡ 30
  pub bounded : Bounded r.parts
  pub written : shown r.found ≡ clear → (i : ℕ) → i < n → grains_at r.parts i ≡ amount (outcome i)
  pub rest : shown r.found ≡ clear → (i : ℕ) → n ≤ i → grains_at r.parts i ≡ pos 0

-- what a refused hour comes to: nothing
abbrev pub refused_by : Found → Contributions
refused_by found = record { found = found; parts = replicate 30 (grains (pos 0)); sum = grains (pos 0) }

-- what the checks of a block and of its intervals find; where they find nothing, the contributions stand in front, 0 behind them, and their
-- sum; a refused hour comes to nothing
pub record ContributionsBy (block : Verdict) (outcome : ℕ → Outcome) (n : ℕ) (r : Contributions) : Type 0 where
  pub found : shown r.found ≡ (block then first_stop outcome n)
  pub long : length r.parts ≡ 30
  pub few : shown r.found ≡ clear → n ≤ 30
  pub written : shown r.found ≡ clear → (i : ℕ) → i < n → grains_at r.parts i ≡ amount (outcome i)
  pub rest : shown r.found ≡ clear → (i : ℕ) → n ≤ i → grains_at r.parts i ≡ pos 0
  pub sum : shown r.found ≡ clear → r.sum.0 ≡ sum_by outcome n
  pub refused : (check : Check) → r.found ≡ Err check → r ≡ refused_by (Err check)

-- a generator's hour: every check of an hour but ROOM
abbrev pub ContributionsOf : Hour → Bool → Expected → Contributions → Type 0
ContributionsOf h is_excluded expected = ContributionsBy (block_fault h expected) (outcome_at h is_excluded) h.n

-- an internal controllable line's: checks 1 to 5 and 7
abbrev pub IclContributionsOf : IclHour → Bool → Expected → Contributions → Type 0
IclContributionsOf h is_excluded expected = ContributionsBy (icl_fault h expected) (icl_outcome_at h is_excluded) h.n
