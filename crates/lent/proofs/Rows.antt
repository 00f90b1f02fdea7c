-- What the row holds entry by entry, and what is answered with and without room.
use mathlib.Core.Path.{◌≡◌, refl}
use mathlib.Core.Bool.{true, false}
use mathlib.Core.List.{List, ◌++◌}
use Prim.Native.Nat.{ℕ, zero, suc, ◌<◌, ◌≤◌}
use native.Mathlib.Omega.{arith}
use borrow.Author.Tests.{le-leb, lt-leb}
use lib.IntN.{ℤ, pos}
use lib.ListN.{length, get_or, take, drop}
use lib.Seq.{take-suc}
use Rattle.std.proofs.lemmas.List.{take-map, map-append}
use Rattle.exact.specs.Whole.{up_to}
use Rattle.tariff.specs.declared.Grains.{Grains}
use Rattle.tariff.specs.Units.{grains, cents_of}
use Rattle.tariff.specs.Reply.{Reply, paid, refused, ROOM}
use Rattle.lent.specs.Lent.{fits, payment, raws, row_paid}

-- ---- the contributions

-- those of the first n intervals stand at the front
pub front_of : (l : List Grains) (n : ℕ) → take n (raws l) ≡ raws (take n l)
front_of l n = take-map (λ (g : Grains). g.0) n l

abbrev part_at : List Grains → ℕ → ℤ
part_at l i = (get_or l i (grains (pos 0))).0

pub raws_up : (l : List Grains) (n : ℕ) → n ≤ length l → raws (take n l) ≡ up_to (part_at l) n
unfolding up_to
raws_up l zero h = refl
raws_up l (suc n) h = rw (take-suc l n (grains (pos 0)) h, map-append, raws_up l n (omega arith))

-- ---- the answer

module _ (parts : List Grains) (n : ℕ) (sum : ℤ) (row : List ℤ) where
  -- what is answered, and the row that is left
  abbrev Answers : Reply → List ℤ → Type 0
  Answers r after = (r ≡ payment n sum (length row)) × (after ≡ row_paid parts n sum row)

  refuses : fits n (length row) ≡ false → Answers (refused ROOM 0) row
  unfolding payment row_paid
  refuses e = (rw e, rw e)

  pub too_many : 30 < n → Answers (refused ROOM 0) row
  too_many u = refuses (rw (lt-leb n 30 u))

  pub too_short : n ≤ 30 → length row < n → Answers (refused ROOM 0) row
  too_short u v = refuses (rw (le-leb n 30 u, lt-leb n (length row) v))

  pub pays : n ≤ 30 → n ≤ length row → (cents : ℤ) (after : List ℤ) → cents ≡ cents_of sum → after ≡ raws (take n parts) ++ drop n row → Answers (paid sum cents) after
  unfolding payment row_paid
  pays u v cents after t r = let e : fits n (length row) ≡ true = rw (le-leb n 30 u, le-leb n (length row) v) in (rw (e, t), rw e r)
