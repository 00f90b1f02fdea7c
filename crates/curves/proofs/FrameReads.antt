-- The record that a block of any kind is read to: of its line 1, of two curve lines of at most 12 steps, and of at most 30 interval lines.
use Rattle.text.specs.Text.{Next}
use mathlib.Core.Path.{◌≡◌, refl}
use mathlib.Core.List.{List}
use Prim.Native.Nat.{ℕ, ◌≤◌}
use borrow.Author.Tests.{le-leb}
use lib.IntN.{ℤ, pos}
use lib.Signed.{le_z}
use Rattle.std.specs.Prelude.{if◌then◌else◌, None, Some}
use Rattle.exact.specs.Whole.{over}
use Rattle.exact.proofs.Parts.{by_test, arithℤ, apart}
use Rattle.tariff.specs.Sheet.{lies_in}
use Rattle.tariff.specs.Reply.{clear}
use Rattle.tariff.specs.Checks.{form_in}
use Rattle.tariff.proofs.Tests.{and_right}
use Rattle.keys.specs.Keys.{DA, RT}
use Rattle.lines.specs.Line.{and_then, after_fields, value_in, line_feed}
use Rattle.lines.specs.Series.{Series, line_count, broken_line}
use Rattle.lines.proofs.Along.{never_at}
use Rattle.lines.proofs.Series.{series_few}
use Rattle.curves.specs.CurveLine.{after_pairs, pairs_at, curve_line, curve_from, curve_said}
use Rattle.curves.specs.Frame.{Kind, first_line, interval_line, interval_lines, read, hour_with, with_series, after_line3, after_line2, after_line1, framed_at}
use Rattle.curves.proofs.Frames.{never_read}

curve_few : (first : ℕ) (s : List ℕ) (at i : ℕ) → curve_line first s at ≡ Some i → (curve_said first s at).n ≤ 12
unfolding curve_line curve_said
curve_few first s at i = go (value_in first s at 0) (value_in first s at 1) (after_fields first 2 s at)
  where
    go : (start n : ℤ) (a : Next) → and_then a (pairs_at n s) ≡ Some i → (curve_from start n s a).n ≤ 12
    go start n (Some j) = by_test (lies_in (pos 0) (pos 12) n) (λ b. (if b then and_then (after_pairs (over n) s j) (line_feed s) else None) ≡ Some i → over n ≤ 12)
        (λ t e. omega (arithℤ, apart n, and_right (le_z (pos 0) n) (le_z n (pos 12)) t))
        (λ t e. absurd (never_at e))
    go start n None = λ e. absurd (never_at e)

module _ {I H : Type 0} (k : Kind I H) (s : List ℕ) (h : H) where
  -- the curve lines stand at `day` and `live`, and n interval lines from `at` on
  pub record ReadFrom : Type 0 where
    pub day : ℕ
    pub live : ℕ
    pub at : ℕ
    pub n : ℕ
    pub day_few : (curve_said DA s day).n ≤ 12
    pub live_few : (curve_said RT s live).n ≤ 12
    pub few : n ≤ 30
    pub same : hour_with k (value_in k.ahead s 0) (curve_said DA s day) (curve_said RT s live) s at n ≡ h

  -- FORM finds nothing in it
  pub from_form : (o : ReadFrom) → form_in (curve_said DA s o.day) (curve_said RT s o.live) o.n ≡ clear
  unfolding form_in
  from_form o = rw (le-leb _ 12 o.day_few, le-leb _ 12 o.live_few, le-leb o.n 30 o.few)

  module _ (a : ℕ) where
    module _ (b : ℕ) (d : (curve_said DA s a).n ≤ 12) where
      series_from_lem : (at : ℕ) → (curve_said RT s b).n ≤ 12 → (r : Series) → interval_lines k s at ≡ r
          → with_series k (value_in k.ahead s 0) (curve_said DA s a) (curve_said RT s b) s at r ≡ read h → ReadFrom
      series_from_lem at l (broken_line line) e q = absurd (never_read q)
      series_from_lem at l (line_count n) e q =
          record { day = a; live = b; at = at; n = n; day_few = d; live_few = l; few = series_few (interval_line k) 4 30 s at n e; same = cc }

      line3_from : (x : Next) → curve_line RT s b ≡ x → after_line3 k x (value_in k.ahead s 0) (curve_said DA s a) (curve_said RT s b) s ≡ read h → ReadFrom
      line3_from (Some at) e q = series_from_lem at (curve_few RT s b at e) (interval_lines k s at) refl q
      line3_from None e q = absurd (never_read q)

    line2_from : (x : Next) → curve_line DA s a ≡ x → after_line2 k x (value_in k.ahead s 0) (curve_said DA s a) s ≡ read h → ReadFrom
    line2_from (Some b) e q = line3_from b (curve_few DA s a b e) (curve_line RT s b) refl q
    line2_from None e q = absurd (never_read q)

  line1_from : (x : Next) → after_line1 k x s 0 ≡ read h → ReadFrom
  line1_from (Some a) q = line2_from a (curve_line DA s a) refl q
  line1_from None q = absurd (never_read q)

  pub read_from : framed_at k s 0 ≡ read h → ReadFrom
  unfolding framed_at
  read_from q = line1_from (first_line k s 0) q
