-- An import's first two lines and its blocks, where they are read, are spelt as they are printed.
use Rattle.text.specs.Text.{Next}
use mathlib.Core.Path.{◌≡◌, refl, subst}
use mathlib.Core.List.{List, [], ◌∷◌, ◌++◌}
use Prim.Native.Nat.{ℕ}
use native.Mathlib.Omega.{arith}
use lib.IntN.{pos}
use Rattle.std.specs.Prelude.{if◌then◌else◌, None, Some}
use Rattle.exact.specs.Whole.{up_to}
use Rattle.exact.proofs.Apart.{impossible}
use Rattle.exact.proofs.Parts.{by_test}
use Rattle.tariff.specs.declared.Curtailed.{Curtailed}
use Rattle.tariff.specs.declared.ImportHour.{ImportHour}
use Rattle.tariff.specs.Reply.{FORM, RANGE, Verdict, clear, unless, ◌then◌}
use Rattle.tariff.specs.Import.{blank_curtailed}
use Rattle.tariff.specs.Sheet.{USUAL_DAY}
use Rattle.tariff.proofs.Checks.{then_clear, unless_clear}
use Rattle.text.specs.Decimal.{number}
use Rattle.keys.specs.Keys.{IMPORT, IMPORT_HOUR, CURTAILED}
use Rattle.lines.specs.Line.{is_at, place_in, value_in, line_at}
use Rattle.lines.specs.Series.{series_place, Series}
use Rattle.lines.specs.Print.{fields, line}
use Rattle.lines.proofs.Series.{Found, all, broken_at, series_found}
use Rattle.header.proofs.HeaderLines.{is_at_lem}
use Rattle.imports.specs.Import.{says_hours, pairs_in, head_line, head_place, name_in, cts_in, count_in, head_in_range, head_fault, import_body, import_hour_line, curtailed_line, curtailed_said, import_hour_with, broken, read, with_curtailed, after_import_line1, import_block_at}
use Rattle.spelling.specs.Spelt.{Spelt, Bytes, IsText}
use Rattle.spelling.specs.Value.{value_text, value_texts}
use Rattle.spelling.specs.Import.{head_text, curtailed_texts, curtailed_text, block_text}
use Rattle.spelling.proofs.Places.{both_spelt, fed_spelt}
use Rattle.spelling.proofs.Ends.{ClosedText, closed_text}
use Rattle.spelling.proofs.Fields.{line_spelt}
use Rattle.spelling.proofs.Series.{series_spelt}

-- ---- the first two lines
module _ (s : List ℕ) where
  head_stands : head_fault s ≡ clear → head_place s ≡ Some (place_in (head_place s))
  unfolding head_fault
  head_stands e =
      let range : Verdict = unless (head_in_range s) RANGE 1 in
      let second : Verdict = unless (is_at (head_place s)) FORM 2 in
      let behind = (then_clear (unless (is_at (head_line s)) FORM 1) (second then range) e).1 in
      is_at_lem (head_place s) (unless_clear (is_at (head_place s)) FORM 2 (then_clear second range behind).0)

  -- line 1 has a text for its third pair, which is printed where it has that pair
  line_stands : (i : ℕ) → head_line s ≡ Some i
      → Spelt s 0 (line IMPORT (pairs_in s) (number (name_in s) ∷ number (cts_in s) ∷ number (count_in s) ∷ [])) i
  unfolding count_in value_texts value_text up_to line fields
  line_stands i =
      by_test (says_hours s)
      (λ t.
      line_at IMPORT (if t then 3 else 2) s 0 ≡ Some i
      → Spelt s 0 (line IMPORT (if t then 3 else 2) (number (name_in s) ∷ number (cts_in s) ∷ number (if t then value_in IMPORT s 0 2 else pos USUAL_DAY) ∷ [])) i)
      (λ e. line_spelt IMPORT s 0 3 i)
      (λ e. line_spelt IMPORT s 0 2 i)

  pub head_text_lem : head_fault s ≡ clear → s ≡ head_text (name_in s) (cts_in s) (says_hours s) (count_in s) ++ import_body s
  unfolding head_place head_text
  head_text_lem e = (fed_spelt (head_line s) line_stands (head_stands e)).bytes

-- ---- a block
never_read : {line : ℕ} {h : ImportHour} → broken line ≡ read h → ⊥
never_read e = impossible cc

module _ (s : List ℕ) where
  curtailed_spelt : (at next : ℕ) → curtailed_line s at ≡ Some next → Spelt s at (line CURTAILED 7 (curtailed_texts (curtailed_said s at))) next
  unfolding value_texts value_text up_to
  curtailed_spelt at next e = line_spelt CURTAILED s at 7 next e

module _ (s : List ℕ) (h : ImportHour) where
  module _ (k : ℕ) (one : import_hour_line s 0 ≡ Some k) where
    abbrev hour : (n : ℕ) → ImportHour
    hour = import_hour_with (value_in IMPORT_HOUR s 0) s k

    hour_spelt : (n end : ℕ) → series_place curtailed_line s k n ≡ Some end → Spelt s 0 (block_text (hour n)) end
    unfolding block_text curtailed_text value_texts value_text up_to
    hour_spelt n end p =
        let texts : ℕ → List ℕ = λ m. curtailed_text m (hour n) in
        let printed : Curtailed → List ℕ = λ v. line CURTAILED 7 (curtailed_texts v) in
        both_spelt (line_spelt IMPORT_HOUR s 0 3 k one)
        (series_spelt curtailed_line curtailed_said blank_curtailed printed s k (curtailed_spelt s) n 30 texts refl (λ m. refl) n end (omega arith) p)

    series_read : {r : Series} → Found curtailed_line 2 30 s k r → with_curtailed (value_in IMPORT_HOUR s 0) s k r ≡ read h → ClosedText s (block_text h)
    series_read (broken_at i) q = absurd (never_read q)
    series_read (all n end few place close) q =
        record { end = end; text = subst (λ (g : ImportHour). Spelt s 0 (block_text g) end) (cc) (hour_spelt n end place); close = close }

  line_read : (x : Next) → import_hour_line s 0 ≡ x → after_import_line1 x s 0 ≡ read h → ClosedText s (block_text h)
  line_read (Some k) e q = series_read k e (series_found curtailed_line 2 30 s k) q
  line_read None e q = absurd (never_read q)

  block_spelt : import_block_at s 0 ≡ read h → ClosedText s (block_text h)
  unfolding import_block_at
  block_spelt q = line_read (import_hour_line s 0) refl q

  pub import_block_text : Bytes s → import_block_at s 0 ≡ read h → IsText s (block_text h)
  import_block_text b e = closed_text s (block_text h) b (block_spelt e)
