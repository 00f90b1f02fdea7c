-- The pairs of a curve line, and the line.
use Rattle.text.specs.Text.{Next}
use mathlib.Core.Path.{◌≡◌, refl, sym, ap, ◌∙◌}
use mathlib.Core.Bool.{true}
use mathlib.Core.List.{List}
use Prim.Native.Nat.{ℕ, ◌+◌, ◌-◌, ◌<◌}
use native.Mathlib.Omega.{arith}
use lib.IntN.{ℤ, pos}
use Rattle.std.specs.Prelude.{if◌then◌else◌, Option, None, Some}
use Rattle.exact.specs.Whole.{over}
use Rattle.exact.proofs.Apart.{impossible}
use Rattle.exact.proofs.Parts.{by_test}
use Rattle.tariff.specs.declared.Curve.{Curve}
use Rattle.tariff.specs.Units.{kw}
use Rattle.tariff.specs.Sheet.{lies_in}
use Rattle.lines.specs.Line.{and_then, after_fields, value_in, line_feed}
use Rattle.lines.proofs.Series.{place_next, series_wrong}
use Rattle.curves.specs.CurveLine.{after_pair, after_pairs, pairs_at, curve_line, curve_said, curve_read, line_read_at}
use Rattle.curves.specs.Told.{count_of, curve_of}

-- ---- a pair that is not as printed: so are all behind it
pub pairs_break : (s : List ℕ) (at j i n : ℕ) → after_pairs j s at ≡ Some i → j < n → after_pair s i ≡ None → after_pairs n s at ≡ None
pairs_break s at j i n e h f =
    let all : j + 1 + (n - (j + 1)) ≡ n = omega arith in
    ap (λ (k : ℕ). after_pairs k s at) (sym all) ∙ series_wrong after_pair s at (j + 1) _ (place_next after_pair s at j i e ∙ f)

-- ---- the line: its head, its count, its pairs and its end

module _ (first : ℕ) (s : List ℕ) (at : ℕ) where
  pub no_head : after_fields first 2 s at ≡ None → None ≡ line_read_at first s at
  unfolding curve_line
  no_head e = rw e

  module _ (i : ℕ) (e : after_fields first 2 s at ≡ Some i) where
    pub no_count : None ≡ count_of (value_in first s at 1) → None ≡ line_read_at first s at
    unfolding curve_line
    no_count f = rw e (none (value_in first s at 1) f)
      where
        none : (n : ℤ) → None ≡ count_of n → None ≡ curve_read (pairs_at n s i) (curve_said first s at)
        none n =
            by_test (lies_in (pos 0) (pos 12) n)
            (λ b. ◌≡◌ {A = Option ℕ} None (if b then Some (over n) else None)
            → None ≡ curve_read (if b then and_then (after_pairs (over n) s i) (line_feed s) else None) (curve_said first s at))
            (λ t f. impossible cc)
            (λ t f. refl)

    module _ (n : ℕ) (count : Some n ≡ count_of (value_in first s at 1)) where
      counted : (lies_in (pos 0) (pos 12) (value_in first s at 1) ≡ true) × (n ≡ over (value_in first s at 1))
      counted =
          by_test (lies_in (pos 0) (pos 12) (value_in first s at 1))
          (λ b. ◌≡◌ {A = Option ℕ} (Some n) (if b then Some (over (value_in first s at 1)) else None) → (b ≡ true) × (n ≡ over (value_in first s at 1)))
          (λ t f. (refl, cc))
          (λ t f. impossible cc)
          count

      lies : lies_in (pos 0) (pos 12) (value_in first s at 1) ≡ true
      lies = counted.0

      same : n ≡ over (value_in first s at 1)
      same = counted.1

      -- the n pairs, and the line's end
      pub counted_line : curve_read (and_then (after_pairs n s i) (line_feed s)) (curve_of (kw (value_in first s at 0)) n s i) ≡ line_read_at first s at
      unfolding curve_line curve_said
      counted_line = rw (e, lies, ← same)

-- ---- what the code's reading says: where the line ends, and its curve

module _ (c : Curve) where
  pub not_told : (next : Next) → None ≡ curve_read next c → next ≡ None
  not_told (Some i) e = impossible cc
  not_told None e = refl

  pub curve_told : (next : Next) {d : Curve} {i : ℕ} → Some (d, i) ≡ curve_read next c → (next ≡ Some i) × (c ≡ d)
  curve_told (Some j) {d} {i} e =
      let both : ◌≡◌ {A = Curve × ℕ} (c, j) (d, i) = cc in
      (ap (λ (p : Curve × ℕ). Some p.1) both, ap (λ (p : Curve × ℕ). p.0) both)
  curve_told None e = impossible cc

module _ (s : List ℕ) (c : Curve) where
  pub no_pairs : (after : Next) → None ≡ curve_read after c → None ≡ curve_read (and_then after (line_feed s)) c
  no_pairs after e = rw (not_told c after e)

  pub pairs_end : (after : Next) {d : Curve} {i : ℕ} → Some (d, i) ≡ curve_read after c → (end : Next) → end ≡ line_feed s i
      → curve_read end d ≡ curve_read (and_then after (line_feed s)) c
  pairs_end after e end f = let told = curve_told c after e in rw (f, told.0, told.1)
