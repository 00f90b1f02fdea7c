-- How many steps of a curve are taken: those before the first that costs more than `pen`. The point stands behind them.
use mathlib.Core.Path.{◌≡◌, refl, sym, ◌∙◌, ap}
use mathlib.Core.Bool.{Bool, true, false, cond, ◌&&◌}
use mathlib.Core.List.{List, [], ◌∷◌}
use Prim.Native.Nat.{ℕ, suc, ◌+◌, ◌<◌, ◌≤◌}
use native.Mathlib.Decide.{dec_lt}
use native.Mathlib.Omega.{arith}
use borrow.Author.Tests.{le-leb, lt-leb, eq-eqb, eqb-true, ne_eqb}
use lib.Dec.{eqb}
use lib.IntN.{ℤ, pos}
use lib.ListN.{length, take, get_or}
use lib.Signed.{le_z}
use Rattle.std.specs.Prelude.{if◌then◌else◌, ◌++◌}
use Rattle.std.specs.List.{take_while, prefix_len}
use Rattle.std.proofs.lemmas.List.{length-take-le, get_or-take, take_more}
use Rattle.std.proofs.lemmas.List.Sums.{prefix_len-le-length}
use Rattle.std.proofs.lemmas.List.Folds.{length-prefix_len, prefix_len-append}
use Rattle.exact.proofs.Parts.{arithℤ, by_test}
use Rattle.tariff.specs.declared.Curve.{Curve}
use Rattle.tariff.specs.declared.Price.{Price}
use Rattle.tariff.specs.Units.{price}
use Rattle.tariff.specs.Sheet.{price_of, begin_of}
use Rattle.tariff.specs.Curve.{known, none}
use Rattle.tariff.specs.Point.{first_dearer, point_on}
use Rattle.tariff.proofs.Points.{Taken, without_steps, with_steps}
use Rattle.points.specs.Standing.{point_found}

abbrev cheap : (pen : ℤ) → Price → Bool
cheap pen p = le_z p.0 pen

module _ (prices : ℕ → ℤ) (pen : ℤ) where
  -- the first step that costs more than `pen` is one
  not_before : {left m k : ℕ} → Taken prices pen 0 left m → Taken prices pen 0 left k → m < k → ⊥
  not_before {left} {m} {k} p q u =
      let w = q.up_to in
      let x = p.dear (omega arith) in
      let y = q.cheap m (omega arith) u in
      omega arithℤ

  one_taken : {left m k : ℕ} → Taken prices pen 0 left m → Taken prices pen 0 left k → m ≡ k
  one_taken {left} {m} {k} p q = go (dec_lt m k) (dec_lt k m)
    where
      go : Dec (m < k) → Dec (k < m) → m ≡ k
      go (yes u) v = absurd (not_before p q u)
      go (no u) (yes v) = absurd (not_before q p v)
      go (no u) (no v) = omega arith

  taken_from : (j : ℕ) (at : List Price) → ((i k : ℕ) → i ≡ j + k → k < length at → prices i ≡ (get_or at k (price (pos 0))).0)
      → first_dearer prices pen j (length at) ≡ j + length (take_while (cheap pen) at)
  unfolding first_dearer
  taken_from j [] same = omega arith
  taken_from j (p ∷ at) same =
      let more = taken_from (j + 1) at (λ i k e u. same i (suc k) (omega arith) (omega arith)) in
      rw (same j 0 (omega arith) (omega arith))
      (by_test (cheap pen p)
      (λ t. (if t then first_dearer prices pen (j + 1) (length at) else j) ≡ j + length (take (cond t (1 + prefix_len (cheap pen) at) 0) (p ∷ at)))
      (λ e. let one : 1 + prefix_len (cheap pen) at ≡ suc (prefix_len (cheap pen) at) = omega arith in rw one (omega (arith, more)))
      (λ e. omega arith))

-- ---- a step more: it is taken where it is cheap and every step before it is taken

one_by : (k n : ℕ) (all t : Bool) → eqb n k ≡ all → cond all (k + cond t (1 + 0) 0) n ≡ (if all && t then k + 1 else n)
one_by k n true true e = omega arith
one_by k n true false e = omega (arith, eqb-true n k e)
one_by k n false t e = refl

all_by : (k n : ℕ) (t : Bool) → n ≤ k → t ≡ eqb (if t then k + 1 else n) (k + 1)
all_by k n true u = sym (eq-eqb (k + 1) (k + 1) refl)
all_by k n false u = sym (ne_eqb n (k + 1) (λ e. omega arith))

module _ (pen : ℤ) (at : List Price) where
  abbrev taken_to : ℕ → ℕ
  taken_to k = length (take_while (cheap pen) (take k at))

  one_more : (k : ℕ) (d : Price) → k < length at → taken_to (k + 1) ≡ (if eqb (taken_to k) k && cheap pen (get_or at k d) then k + 1 else taken_to k)
  one_more k d u =
      let n : length (take k at) ≡ k = length-take-le k at (omega arith) in
      rw (take_more at k d u, length-prefix_len (cheap pen) (take k at ++ get_or at k d ∷ []), length-prefix_len (cheap pen) (take k at), prefix_len-append (cheap pen) (take k at) (get_or at k d ∷ []), n)
      (one_by k (prefix_len (cheap pen) (take k at)) _ (cheap pen (get_or at k d)) refl)

  pub step_on : {k taken after : ℕ} {before now : Bool} (d : Price) → k < length at → taken ≡ taken_to k → before ≡ eqb taken k
      → now ≡ (before && cheap pen (get_or at k d)) → after ≡ (if now then k + 1 else taken)
      → (after ≡ taken_to (k + 1)) × (now ≡ eqb after (k + 1))
  step_on {k} {taken} {after} {before} {now} d u count all e f =
      let few : taken ≤ k = omega (arith, prefix_len-le-length (cheap pen) (take k at), length-prefix_len (cheap pen) (take k at), length-take-le k at (omega arith)) in
      (rw (one_more k d u, ← count, ← all, ← e) f, rw f (all_by k taken now few))

-- ---- the point of a curve, as the code finds it

module _ (c : Curve) (pen : ℤ) where
  pub found_known : c.n ≤ 12 → point_found c pen ≡ point_on c pen
  unfolding point_found
  found_known u = rw (le-leb c.n 12 u)

  pub found_none : c.n ≡ 0 → point_found c pen ≡ none
  found_none e = found_known (omega arith) ∙ without_steps c pen e

  pub found_many : 12 < c.n → point_found c pen ≡ none
  unfolding point_found
  found_many u = rw (lt-leb c.n 12 u)

  pub found_behind : 0 < c.n → c.n ≤ 12 → c.n ≤ length c.at → (taken : ℕ) → taken ≡ length (take_while (cheap pen) (take c.n c.at))
      → point_found c pen ≡ known (begin_of c taken)
  found_behind some few long taken e =
      let n : length (take c.n c.at) ≡ c.n = length-take-le c.n c.at long in
      let count =
      taken_from (price_of c) pen 0 (take c.n c.at)
      (λ i k e u. let same : i ≡ k = omega arith in rw (get_or-take c.n c.at k (price (pos 0)) (omega arith), same)) in
      let same : first_dearer (price_of c) pen 0 c.n ≡ taken = rw (← n) (omega (arith, count)) in
      found_known few ∙ with_steps c pen some ∙ ap (λ (k : ℕ). known (begin_of c k)) same
