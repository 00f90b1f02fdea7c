-- A text into a store: what is kept is placed byte by byte, as far as there is room, and a text in parts is taken in part by part.
use mathlib.Core.Path.{◌≡◌, refl, sym}
use mathlib.Core.List.{List, [], ◌∷◌}
use Prim.Native.Nat.{ℕ, ◌+◌, ◌≤◌, ◌<◌}
use native.Mathlib.Omega.{arith}
use borrow.Author.Tests.{le-leb, lt-leb}
use Rattle.std.proofs.lemmas.Grind.{common_steps}
use lib.ListN.{length}
use lib.Seq.{length-take-le}
use Rattle.io.specs.Counts.{IsPrefixLen}
use Rattle.intake.specs.declared.Intake.{Intake}
use Rattle.intake.specs.Intake.{kept, after, placed, after_all, store_all}
use Rattle.intake.proofs.Step.{counted, few}

pub placed_length : (store : List ℕ) (i : Intake) (b : ℕ) → i.n + 3 ≤ length store → length (placed store i.n (kept i b)) ≡ length store
placed_length store i b room = let f = few i b in grind (arith, common_steps)

-- of the store only its length decides how far the text is taken in
after_same : (store other : List ℕ) → length store ≡ length other → (i : Intake) (s : List ℕ) → after_all store i s ≡ after_all other i s
unfolding after_all
after_same store other e i [] = refl
after_same store other e i (b ∷ t) = rw (e, after_same store other e (after i b) t)

-- ---- one byte more, and none

abbrev pub Same : (store : List ℕ) → Intake → List ℕ → (other : List ℕ) → Intake → List ℕ → Type 0
Same store i s other j t = (after_all store i s ≡ after_all other j t) × (store_all store i s ≡ store_all other j t)

pub one_more : (store : List ℕ) (i : Intake) (b : ℕ) (t : List ℕ) → i.n + 3 ≤ length store
    → Same store i (b ∷ t) (placed store i.n (kept i b)) (after i b) t
unfolding after_all store_all
one_more store i b t room =
    rw (le-leb _ _ room) (after_same store (placed store i.n (kept i b)) (sym (placed_length store i b room)) (after i b) t, refl)

pub no_room_lem : (store : List ℕ) (i : Intake) (s : List ℕ) → length store < i.n + 3 → (i ≡ after_all store i s) × (store ≡ store_all store i s)
unfolding after_all store_all
no_room_lem store i [] full = (refl, refl)
no_room_lem store i (b ∷ t) full = rw (lt-leb _ _ full) (refl, refl)

pub all_taken : (store : List ℕ) (i : Intake) (s : List ℕ) → length s ≡ 0 → (i ≡ after_all store i s) × (store ≡ store_all store i s)
unfolding after_all store_all
all_taken store i [] e = (refl, refl)
all_taken store i (b ∷ t) e = absurd (omega arith)

-- ---- what is kept lies in the store

pub within : (store : List ℕ) (i : Intake) (s : List ℕ) → i.n ≤ length store → (after_all store i s).n ≤ length store
unfolding after_all
within store i [] h = h
within store i (b ∷ t) h = let more = within store (after i b) t in grind (arith, common_steps, few i b, counted i b)

pub kept_within : (store other : List ℕ) (i j : Intake) (s : List ℕ) → j ≡ after_all store i s → length other ≡ length store → i.n ≤ length store
    → j.n ≤ length other
kept_within store other i j s e f h = rw (e, f) (within store i s h)

-- so much of a store can be lent on
pub counts : (n : ℕ) (store : List ℕ) → n ≤ length store → IsPrefixLen n store
counts n store h = (h, sym (length-take-le n store h))
