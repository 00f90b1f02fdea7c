-- An import's block, line by line as the code reads it; and what is given back says what the block is.
use Rattle.std.specs.Prelude.{None, Some, Result, Ok, Err}
use mathlib.Core.Path.{◌≡◌, refl, ap, ◌∙◌}
use mathlib.Core.List.{List}
use Prim.Native.Nat.{ℕ}
use native.Mathlib.Omega.{arith}
use lib.IntN.{ℤ}
use Rattle.exact.proofs.Apart.{impossible}
use Rattle.tariff.specs.declared.Curtailed.{Curtailed}
use Rattle.tariff.specs.declared.ImportHour.{ImportHour}
use Rattle.tariff.specs.Units.{kw, price}
use Rattle.tariff.specs.Import.{blank_curtailed}
use Rattle.text.specs.Text.{Next}
use Rattle.keys.specs.Keys.{IMPORT_HOUR, CURTAILED}
use Rattle.lines.specs.Line.{value_in}
use Rattle.lines.specs.Series.{Series, line_count, broken_line}
use Rattle.lines.proofs.Series.{series_line}
use Rattle.records.specs.declared.series.Series as declared
use Rattle.records.specs.Records.{curtailed_of}
use Rattle.records.specs.Told.{series_read, series_read_at}
use Rattle.imports.specs.Import.{import_hour_line, curtailed_line, curtailed_at, curtailed_lines, ImportBlock, broken, read, with_curtailed, after_import_line1, import_block_at}
use Rattle.imports.specs.Read.{import_read_of}

module _ (s : List ℕ) (from : ℕ) where
  abbrev all : Result ImportHour ℕ
  all = import_read_of (import_block_at s from)

  pub block_line1 : import_hour_line s from ≡ None → Err 1 ≡ all
  unfolding import_block_at
  block_line1 e = rw e

  module _ {at : ℕ} (e1 : import_hour_line s from ≡ Some at) where
    -- the record of the intervals, or the line of them that is not as printed
    abbrev with : (ℕ → ℤ) → Result (declared.Series Curtailed) ℕ → Result ImportHour ℕ
    with v (Ok iv) = Ok (record { hour = v 0; den = kw (v 1); dec = price (v 2); n = iv.n; iv = iv.iv })
    with v (Err line) = Err line

    counted : (v : ℕ → ℤ) (r : Series) → with v (series_read (curtailed_at s at) blank_curtailed r) ≡ import_read_of (with_curtailed v s at r)
    counted v (line_count n) = refl
    counted v (broken_line line) = refl

    pub block_series : (r : Result (declared.Series Curtailed) ℕ) → r ≡ series_read_at CURTAILED 7 curtailed_of blank_curtailed 2 s at
        → with (value_in IMPORT_HOUR s from) r ≡ all
    unfolding import_block_at
    block_series r e = ap (with (value_in IMPORT_HOUR s from)) e ∙ counted (value_in IMPORT_HOUR s from) (curtailed_lines s at) ∙ rw e1

-- ---- lines count from 1

no_line_0 : (s : List ℕ) (from : ℕ) → import_block_at s from ≡ broken 0 → ⊥
unfolding import_block_at
no_line_0 s from = line1 (import_hour_line s from)
  where
    series : (v : ℕ → ℤ) (at : ℕ) (r : Series) → (r ≡ broken_line 0 → ⊥) → with_curtailed v s at r ≡ broken 0 → ⊥
    series v at (line_count n) never e = impossible cc
    series v at (broken_line line) never e = never (ap broken_line (cc))

    line1 : (next : Next) → after_import_line1 next s from ≡ broken 0 → ⊥
    line1 None e = let z : ◌≡◌ {A = ℕ} 1 0 = cc in omega arith
    line1 (Some at) e = series (value_in IMPORT_HOUR s from) at (curtailed_lines s at) (series_line curtailed_line 2 30 s at (omega arith)) e

-- ---- what is given back says what the block is

pub told_broken : (b : ImportBlock) {line : ℕ} → Err line ≡ import_read_of b → b ≡ broken line
told_broken (broken line) e = ap broken (cc)
told_broken (read h) e = impossible cc

pub told_read : (b : ImportBlock) {h : ImportHour} → Ok h ≡ import_read_of b → b ≡ read h
told_read (broken line) e = impossible cc
told_read (read h) e = ap read (cc)
