-- The table of keys, as the code reads it.
use Rattle.std.specs.Prelude.{Some}
use mathlib.Core.Path.{◌≡◌, sym, ap}
use mathlib.Core.List.{List, [], map}
use Prim.Native.Nat.{ℕ, ◌≤◌}
use lib.ListN.{get_or, get_or-map, get_or-eq_default}
use denote.Bor.{Bor}
use Rattle.text.specs.Text.{key_at}
use Rattle.keys.specs.Keys.{KEYS, keys, key_of}

abbrev pub read : Bor (List ℕ) → List ℕ
read r = r.now

-- what stands behind a reference of a table
pub read_at : (table : List (Bor (List ℕ))) (k : ℕ) (past : Bor (List ℕ)) → (get_or table k past).now ≡ get_or (map read table) k past.now
read_at table k past = sym (get_or-map read table k past)

-- past the table stands the empty key
pub key_none : (k : ℕ) (s : List ℕ) (at : ℕ) → KEYS ≤ k → Some at ≡ key_at (key_of k) s at
unfolding key_at
key_none k s at h = ap (λ (key : List ℕ). key_at key s at) (sym (get_or-eq_default keys [] h))
