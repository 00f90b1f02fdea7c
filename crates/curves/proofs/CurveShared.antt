-- Two texts that share a curve line: it is read as the same, moved.
use Rattle.text.specs.Text.{Next}
use mathlib.Core.Path.{◌≡◌, ap}
use mathlib.Core.Bool.{true}
use mathlib.Core.List.{List}
use Prim.Native.Nat.{ℕ, ◌+◌, ◌<◌, ◌≤◌}
use native.Mathlib.Omega.{arith}
use lib.IntN.{ℤ, pos}
use lib.Signed.{le_z}
use Rattle.std.specs.Prelude.{if◌then◌else◌, None, Some}
use Rattle.exact.specs.Whole.{over}
use Rattle.exact.proofs.Parts.{arithℤ, apart, by_test}
use Rattle.exact.proofs.Sums.{up_same}
use Rattle.tariff.specs.declared.Curve.{Curve}
use Rattle.tariff.specs.Units.{kw, price}
use Rattle.tariff.specs.Sheet.{lies_in}
use Rattle.tariff.proofs.Tests.{and_right}
use Rattle.keys.specs.Keys.{key_of, PAIR}
use Rattle.lines.specs.Line.{and_then, value_in, line_feed}
use Rattle.curves.specs.CurveLine.{after_pair, after_pairs, end_said, price_said, end_of_pair, price_of_pair, pairs_at, curve_line, curve_from, curve_said}
use Rattle.lines.proofs.Along.{Placed, both, neither, moved_then, fields_placed, values_placed, feed_placed}
use Rattle.lines.proofs.Ended.{opens}
use Rattle.lines.proofs.Shared.{SharedLines, fields_shared, values_shared}
use Rattle.lines.proofs.SeriesShared.{place_shared, each_shared}

-- two readings of a curve line: none, or the same curve and the same place, moved
pub data SameCurve (f g : ℕ → ℕ) (P : ℕ → Type 0) (c d : Curve) : Next → Next → Type 0 where
  curve : (j : ℕ) → P j → c ≡ d → SameCurve f g P c d (Some (f j)) (Some (g j))
  no_curve_lem : SameCurve f g P c d None None

with_curve : {f g : ℕ → ℕ} {P : ℕ → Type 0} {c d : Curve} {x y : Next} → c ≡ d → Placed f g P x y → SameCurve f g P c d x y
with_curve e (both j l) = curve j l e
with_curve e neither = no_curve_lem

module _ {s t : List ℕ} {f g : ℕ → ℕ} {In Open : ℕ → ℕ → Type 0} (o : SharedLines s t f g In Open) where
  -- a pair has at most 32 bytes, a line of 2 fields and 12 pairs at most 417
  pair : (v w i : ℕ) → v + 32 ≤ w → In w i → Placed f g (In v) (after_pair s (f i)) (after_pair t (g i))
  pair v w i u h = fields_placed o.line PAIR 2 v w i u h

  pair_value : (n i : ℕ) → n < 2 → In 32 i → value_in PAIR s (f i) n ≡ value_in PAIR t (g i) n
  pair_value n i u h = values_placed o.line PAIR n 32 i (omega arith) h

  curve_same : (start n : ℤ) (w i : ℕ) → over n ≤ 12 → 384 ≤ w → In w i → curve_from start n s (Some (f i)) ≡ curve_from start n t (Some (g i))
  curve_same start n w i few u h =
      rw (
        up_same (end_of_pair s (f i)) (end_of_pair t (g i)) (over n) (λ j l.
            each_shared o.line.fewer after_pair 32 pair end_said _ (λ k r. ap kw (pair_value 0 k (omega arith) r)) j w i (omega arith) h),
        up_same (price_of_pair s (f i)) (price_of_pair t (g i)) (over n) (λ j l.
            each_shared o.line.fewer after_pair 32 pair price_said _ (λ k r. ap price (pair_value 1 k (omega arith) r)) j w i (omega arith) h),
      )

  curve_pairs : (start n : ℤ) (v i : ℕ) → In (v + 385) i
      → SameCurve f g (Open v) (curve_from start n s (Some (f i))) (curve_from start n t (Some (g i))) (pairs_at n s (f i)) (pairs_at n t (g i))
  curve_pairs start n v i h =
      by_test (lies_in (pos 0) (pos 12) n)
      (λ b. SameCurve f g (Open v) (curve_from start n s (Some (f i))) (curve_from start n t (Some (g i)))
      (if b then and_then (after_pairs (over n) s (f i)) (line_feed s) else None)
      (if b then and_then (after_pairs (over n) t (g i)) (line_feed t) else None))
      (λ e.
      let top = and_right (le_z (pos 0) n) (le_z n (pos 12)) e in
      let few : over n ≤ 12 = omega (arithℤ, apart n) in
      with_curve (curve_same start n (v + 385) i few (omega arith) h)
      (moved_then _ _ (place_shared o.line.fewer after_pair 32 pair (over n) (v + 1) (v + 385) i (omega arith) h)
      (λ j l. feed_placed o.line (v + 1) j (omega arith) l (o.fed v (v + 1) j (omega arith) l))))
      (λ e. no_curve_lem)

  pub curve_shared : (first : ℕ) → opens (key_of first) ≡ true → (v w i : ℕ) → v + 417 ≤ w → Open w i
      → SameCurve f g (Open v) (curve_said first s (f i)) (curve_said first t (g i)) (curve_line first s (f i)) (curve_line first t (g i))
  unfolding curve_line curve_said
  curve_shared first key v w i u h =
      rw (values_shared o first key 0 w i (omega arith) h, values_shared o first key 1 w i (omega arith) h)
      (go (value_in first t (g i) 0) (value_in first t (g i) 1) (fields_shared o first key 1 (v + 385) w i (omega arith) h))
    where
      go : (start n : ℤ) {x y : Next} → Placed f g (In (v + 385)) x y
          → SameCurve f g (Open v) (curve_from start n s x) (curve_from start n t y) (and_then x (pairs_at n s)) (and_then y (pairs_at n t))
      go start n (both j l) = curve_pairs start n v j l
      go start n neither = no_curve_lem
