-- Check 2 of a block's interval lines, the first of them line `first`: one test of each, and the first that fails it.
use mathlib.Core.Path.{◌≡◌}
use mathlib.Core.Bool.{Bool, true, false}
use Prim.Native.Nat.{ℕ, ◌+◌, ◌<◌}
use Rattle.tariff.specs.Reply.{Verdict, clear, fault, unless, first_of}
use Rattle.tariff.proofs.Checks.{clear_first, fault_first}

abbrev pub line_of : (ℕ → Bool) → ℕ → ℕ → Verdict
line_of test first i = unless (test i) 2 (i + first)

module _ (test : ℕ → Bool) (first i : ℕ) (before : (k : ℕ) → k < i → test k ≡ true) where
  line_clear : (k : ℕ) → k < i → line_of test first k ≡ clear
  line_clear k u = rw (before k u)

  pub lines_clear : (n : ℕ) → i ≡ n → first_of (line_of test first) n ≡ clear
  lines_clear n e = rw (← e) (clear_first (line_of test first) i line_clear)

  pub line_fault_lem : (n : ℕ) → i < n → test i ≡ false → first_of (line_of test first) n ≡ fault 2 (i + first)
  line_fault_lem n u e = fault_first (line_of test first) n 2 (i + first) (record { at = i; below = u; before = line_clear; gives = rw e })
