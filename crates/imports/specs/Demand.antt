-- The words of the import's theorems: its blocks by their places, when it is refused or paid, two texts that begin alike, and hours that
-- differ in an interval that does not count.
use Rattle.std.specs.Prelude.{◌≡◌, Bool, true, false, List, ℕ, ◌<◌, ℤ}
use Rattle.exact.specs.Whole.{sum_to}
use Rattle.tariff.specs.declared.ImportHour.{ImportHour}
use Rattle.tariff.specs.Units.{cents_of}
use Rattle.tariff.specs.Reply.{Verdict, clear}
use Rattle.tariff.specs.Import.{curtailed, curtailed_in_range, counts}
use Rattle.lines.specs.Pieces.{rest_after, is_some}
use Rattle.imports.specs.Import.{name_in, cts_in, hours_in, head_fault, import_body, ImportBlock, broken, read, import_block_at, block_verdict, block_part}

-- block k of a text, the verdict on it, and its part of the day
abbrev pub block_in : List ℕ → ℕ → ImportBlock
block_in s k = import_block_at (rest_after k (import_body s)) 0

abbrev pub fault_in : List ℕ → ℕ → Verdict
fault_in s k = block_verdict (hours_in s) (block_in s k) k

abbrev pub part_in : List ℕ → ℕ → ℤ
part_in s k = block_part (cts_in s) (block_in s k)

-- whether bytes follow the last of the blocks
abbrev pub surplus_in : List ℕ → Bool
surplus_in s = is_some (rest_after (hours_in s) (import_body s))

-- ---- when an import is refused or paid

-- neither the first two lines nor a block before block `hour` is refused, and `line` is that block's first line that is not as printed
pub record FirstBroken (s : List ℕ) (hour line : ℕ) : Type 0 where
  pub head : head_fault s ≡ clear
  pub below : hour < hours_in s
  pub before : (j : ℕ) → j < hour → fault_in s j ≡ clear
  pub breaks : block_in s hour ≡ broken line

-- neither the first two lines nor a block is refused, and bytes follow the last block
pub record Surplus (s : List ℕ) : Type 0 where
  pub head : head_fault s ≡ clear
  pub blocks : (k : ℕ) → k < hours_in s → fault_in s k ≡ clear
  pub follow : surplus_in s ≡ true

-- neither the first two lines nor a block is refused, and no bytes follow the last; the import that line 1 names is paid the sum g of
-- all parts, and its cents c, to which g is rounded once
pub record PaidBy (s : List ℕ) (who g c : ℤ) : Type 0 where
  pub head : head_fault s ≡ clear
  pub blocks : (k : ℕ) → k < hours_in s → fault_in s k ≡ clear
  pub ends : surplus_in s ≡ false
  pub name : who ≡ name_in s
  pub grains : g ≡ sum_to (part_in s) (hours_in s)
  pub cents : c ≡ cents_of g

-- ---- two texts

-- the first two lines of two texts say the same
pub record SameHead (s t : List ℕ) : Type 0 where
  pub fault : head_fault s ≡ head_fault t
  pub name : name_in s ≡ name_in t
  pub cts : cts_in s ≡ cts_in t
  pub hours : hours_in s ≡ hours_in t

-- two hours that differ in one interval, which counts in neither, is as long in both, and in its range in both or in neither
pub record UncountedApart (cts : ℤ) (h g : ImportHour) : Type 0 where
  pub at : ℕ
  pub hour : h.hour ≡ g.hour
  pub den : h.den ≡ g.den
  pub dec : h.dec ≡ g.dec
  pub n : h.n ≡ g.n
  pub others : (j : ℕ) → (j ≡ at → ⊥) → curtailed h j ≡ curtailed g j
  pub not_one : counts cts h (curtailed h at) ≡ false
  pub not_other : counts cts g (curtailed g at) ≡ false
  pub seconds : (curtailed h at).s ≡ (curtailed g at).s
  pub range : curtailed_in_range (curtailed h at) ≡ curtailed_in_range (curtailed g at)

-- two blocks that are the same, or whose hours differ so
pub data ImportBlocksApart (cts : ℤ) (b c : ImportBlock) : Type 0 where
  same : b ≡ c → ImportBlocksApart cts b c
  apart : (h g : ImportHour) → b ≡ read h → c ≡ read g → UncountedApart cts h g → ImportBlocksApart cts b c
