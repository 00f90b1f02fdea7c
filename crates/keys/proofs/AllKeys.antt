-- The table of keys: a test that each of them passes, and the empty key past its end.
use mathlib.Core.Path.{◌≡◌, ap, ◌∙◌}
use mathlib.Core.Bool.{Bool, true, ◌&&◌}
use mathlib.Core.List.{List, [], ◌∷◌}
use Prim.Native.Nat.{ℕ, zero, suc, ◌<◌}
use native.Mathlib.Decide.{dec_lt}
use native.Mathlib.Nat.{not-suc-le-zero, le_of_suc-le-suc}
use native.Mathlib.Omega.{arith}
use lib.ListN.{length, get_or, get_or-eq_default}
use Rattle.exact.proofs.Tests.{and_left, and_right}

abbrev pub all_of : (List ℕ → Bool) → List (List ℕ) → Bool
all_of test [] = true
all_of test (key ∷ rest) = test key && all_of test rest

pub table_at : (test : List ℕ → Bool) (table : List (List ℕ)) (k : ℕ) → k < length table → all_of test table ≡ true → test (get_or table k []) ≡ true
table_at test [] k h e = absurd (not-suc-le-zero h)
table_at test (key ∷ rest) zero h e = and_left (test key) (all_of test rest) e
table_at test (key ∷ rest) (suc k) h e = table_at test rest k (le_of_suc-le-suc h) (and_right (test key) (all_of test rest) e)

pub table_all : (test : List ℕ → Bool) (table : List (List ℕ)) (k : ℕ) → test [] ≡ true → all_of test table ≡ true → test (get_or table k []) ≡ true
table_all test table k none e = go (dec_lt k (length table))
  where
    go : Dec (k < length table) → test (get_or table k []) ≡ true
    go (yes h) = table_at test table k h e
    go (no h) = ap test (get_or-eq_default table [] {n = k} (omega arith)) ∙ none
