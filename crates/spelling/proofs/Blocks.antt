-- A block that is read is spelt as its record is printed, and then it closes.
use Rattle.text.specs.Text.{Next}
use Rattle.std.specs.Prelude.{None, Some}
use mathlib.Core.Path.{◌≡◌, refl, subst}
use mathlib.Core.List.{List}
use Prim.Native.Nat.{ℕ}
use native.Mathlib.Omega.{arith}
use Rattle.exact.specs.Whole.{up_to}
use Rattle.tariff.specs.declared.Interval.{Interval}
use Rattle.tariff.specs.declared.Hour.{Hour}
use Rattle.tariff.specs.Hour.{blank}
use Rattle.keys.specs.Keys.{AHEAD, DA, RT, INTERVAL}
use Rattle.lines.specs.Line.{value_in}
use Rattle.lines.specs.Series.{series_place, Series}
use Rattle.lines.specs.Print.{line}
use Rattle.lines.proofs.Series.{Found, all, broken_at, series_found}
use Rattle.curves.specs.CurveLine.{curve_line, curve_said}
use Rattle.blocks.specs.Block.{ahead_line, interval_line, interval_said, hour_with, read, with_series, after_line1, after_line2, after_line3, block_at, block_of}
use Rattle.sheet.specs.Print.{amount_texts, intervals_text, text_of}
use Rattle.sheet.proofs.Apart.{never_read}
use Rattle.spelling.specs.Spelt.{Spelt, Bytes, IsText}
use Rattle.spelling.specs.Value.{value_text, value_texts}
use Rattle.spelling.proofs.Places.{both_spelt}
use Rattle.spelling.proofs.Ends.{ClosedText, closed_text}
use Rattle.spelling.proofs.Fields.{line_spelt}
use Rattle.spelling.proofs.Series.{series_spelt}
use Rattle.spelling.proofs.Curves.{curve_spelt}

module _ (s : List ℕ) where
  interval_spelt : (at next : ℕ) → interval_line s at ≡ Some next → Spelt s at (line INTERVAL 20 (amount_texts (interval_said s at))) next
  unfolding value_texts value_text up_to
  interval_spelt at next e = line_spelt INTERVAL s at 20 next e

module _ (s : List ℕ) (h : Hour) where
  module _ (a b : ℕ) (one : ahead_line s 0 ≡ Some a) (two : curve_line DA s a ≡ Some b) where
    abbrev hour : (k n : ℕ) → Hour
    hour = hour_with (value_in AHEAD s 0) (curve_said DA s a) (curve_said RT s b) s

    hour_spelt : (k n end : ℕ) → curve_line RT s b ≡ Some k → series_place interval_line s k n ≡ Some end → Spelt s 0 (text_of (hour k n)) end
    unfolding text_of intervals_text value_texts value_text up_to
    hour_spelt k n end three p =
        let texts : ℕ → List ℕ = λ m. intervals_text m (hour k n) in
        let printed : Interval → List ℕ = λ v. line INTERVAL 20 (amount_texts v) in
        let series = series_spelt interval_line interval_said blank printed s k (interval_spelt s) n 30 texts refl (λ m. refl) n end (omega arith) p in
        both_spelt (line_spelt AHEAD s 0 10 a one)
        (both_spelt (curve_spelt DA s a b (omega arith) two) (both_spelt (curve_spelt RT s b k (omega arith) three) series))

    series_read : (k : ℕ) → curve_line RT s b ≡ Some k → {r : Series} → Found interval_line 4 30 s k r
        → with_series (value_in AHEAD s 0) (curve_said DA s a) (curve_said RT s b) s k r ≡ read h → ClosedText s (text_of h)
    series_read k three (broken_at i) q = absurd (never_read q)
    series_read k three (all n end few place close) q =
        record { end = end; text = subst (λ (g : Hour). Spelt s 0 (text_of g) end) (cc) (hour_spelt k n end three place); close = close }

    line3_read : (x : Next) → curve_line RT s b ≡ x → after_line3 x (value_in AHEAD s 0) (curve_said DA s a) (curve_said RT s b) s ≡ read h
        → ClosedText s (text_of h)
    line3_read (Some k) e q = series_read k e (series_found interval_line 4 30 s k) q
    line3_read None e q = absurd (never_read q)

  line2_read : (a : ℕ) → ahead_line s 0 ≡ Some a → (x : Next) → curve_line DA s a ≡ x → after_line2 x (value_in AHEAD s 0) (curve_said DA s a) s ≡ read h
      → ClosedText s (text_of h)
  line2_read a one (Some b) e q = line3_read a b one e (curve_line RT s b) refl q
  line2_read a one None e q = absurd (never_read q)

  line1_read : (x : Next) → ahead_line s 0 ≡ x → after_line1 x s 0 ≡ read h → ClosedText s (text_of h)
  line1_read (Some a) e q = line2_read a e (curve_line DA s a) refl q
  line1_read None e q = absurd (never_read q)

  block_spelt : block_of s ≡ read h → ClosedText s (text_of h)
  unfolding block_of block_at
  block_spelt q = line1_read (ahead_line s 0) refl q

  pub block_text_lem : Bytes s → block_of s ≡ read h → IsText s (text_of h)
  block_text_lem b e = closed_text s (text_of h) b (block_spelt e)
