-- Two texts that share bytes: lines among them are read as the same, whatever a line is, where one line is read as the same.
use Rattle.text.specs.Text.{Next}
use mathlib.Core.Path.{◌≡◌, refl, ap}
use mathlib.Core.List.{List}
use Prim.Native.Nat.{ℕ, zero, suc, ◌+◌, ◌*◌, ◌≤◌, ◌<◌}
use native.Mathlib.Omega.{arith}
use Rattle.std.specs.Prelude.{if◌then◌else◌}
use Rattle.lines.specs.Line.{closes}
use Rattle.lines.specs.Series.{series_place, series_from, series_in, Series, line_count, series_after, series_at}
use Rattle.lines.proofs.Along.{Placed, both, neither, moved_then}

-- `P w i` says that from the i-th byte on as many as w may be read. A line has at most `size`
module _ {s t : List ℕ} {f g : ℕ → ℕ} {P : ℕ → ℕ → Type 0} (fewer : (v w i : ℕ) → v ≤ w → P w i → P v i) (line : List ℕ → ℕ → Next) (size : ℕ)
    (one : (v w i : ℕ) → v + size ≤ w → P w i → Placed f g (P v) (line s (f i)) (line t (g i))) where
  pub place_shared : (n v w i : ℕ) → v + size * n ≤ w → P w i → Placed f g (P v) (series_place line s (f i) n) (series_place line t (g i) n)
  unfolding series_place
  place_shared zero v w i u h = both i (fewer v w i (omega arith) h)
  place_shared (suc n) v w i u h = moved_then _ _ (place_shared n (v + size) w i (omega arith) h) (λ j l. one v (v + size) j (omega arith) l)

  pub each_shared : {A : Type 0} (say : List ℕ → ℕ → A) (blank : A) → ((i : ℕ) → P size i → say s (f i) ≡ say t (g i))
      → (n w i : ℕ) → size * n + size ≤ w → P w i → series_in line say blank s (f i) n ≡ series_in line say blank t (g i) n
  unfolding series_in
  each_shared say blank same n w i u h = go (place_shared n size w i (omega arith) h)
    where
      go : {a b : Next} → Placed f g (P size) a b → series_from say blank s a ≡ series_from say blank t b
      go (both j l) = same j l
      go neither = refl

  pub series_shared : ((w i : ℕ) → 0 < w → P w i → closes s (f i) ≡ closes t (g i))
      → (before left k w i : ℕ) → size * left + 1 ≤ w → P w i → series_at line before left s (f i) k ≡ series_at line before left t (g i) k
  unfolding series_at
  series_shared close before zero k w i u h = rw (close w i (omega arith) h)
  series_shared close before (suc left) k w i u h =
      rw (close w i (omega arith) h)
      (ap (λ (r : Series). if closes t (g i) then line_count k else r)
      (go (λ j l. series_shared close before left (k + 1) (size * left + 1) j (omega arith) l) (one (size * left + 1) w i (omega arith) h)))
    where
      go : {a b : Next} → ((j : ℕ) → P (size * left + 1) j → series_at line before left s (f j) (k + 1) ≡ series_at line before left t (g j) (k + 1))
          → Placed f g (P (size * left + 1)) a b
          → series_after a (k + before) (λ next. series_at line before left s next (k + 1))
          ≡ series_after b (k + before) (λ next. series_at line before left t next (k + 1))
      go rest (both j l) = rest j l
      go rest neither = refl
