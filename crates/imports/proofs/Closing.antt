-- Two texts that share the lines of an import's block: it is read as the same. So it is decided by the first 10,640 bytes, however long its
-- lines are, and by its first piece: what stands behind its empty line is not read, and the end of the text closes it as the empty line does.
use mathlib.Core.Path.{◌≡◌, refl, ap}
use mathlib.Core.List.{List, [], ◌∷◌, ◌++◌}
use Prim.Native.Nat.{ℕ, ◌+◌, ◌<◌, ◌≤◌}
use native.Mathlib.Omega.{arith}
use lib.IntN.{ℤ}
use lib.ListN.{take}
use lib.Seq.{get_or-take}
use Rattle.tariff.specs.Units.{kw, price}
use Rattle.tariff.specs.Import.{blank_curtailed}
use Rattle.text.specs.Text.{byte_at, Next}
use Rattle.keys.specs.Keys.{IMPORT_HOUR, CURTAILED}
use Rattle.lines.specs.Line.{value_in}
use Rattle.lines.specs.Series.{Series, line_count, broken_line}
use Rattle.lines.specs.Pieces.{PIECE, first_piece}
use Rattle.lines.proofs.Fill.{filled_same}
use Rattle.lines.proofs.Along.{closing, Placed, both, neither}
use Rattle.lines.proofs.Ended.{line_closed, Ended}
use Rattle.lines.proofs.Shared.{SharedLines, closes_shared, values_shared, line_shared, ended_lines}
use Rattle.lines.proofs.Agree.{first_lines_lem}
use Rattle.lines.proofs.Series.{series_few}
use Rattle.lines.proofs.SeriesShared.{each_shared, series_shared}
use Rattle.lines.proofs.BlockEnds as ends
use Rattle.imports.specs.Import.{curtailed_line, curtailed_said, curtailed_at, curtailed_lines, ImportBlock, broken, read, with_curtailed, after_import_line1, import_block_at}
use Rattle.records.specs.Laws.{curtailed_laws}

-- line 1 has 3 fields and at most 49 bytes, an interval line 7 and at most 113; 30 of these, and the byte at which the block closes
module _ {s t : List ℕ} {f g : ℕ → ℕ} {In Open : ℕ → ℕ → Type 0} (o : SharedLines s t f g In Open) where
  one : (v w i : ℕ) → v + 113 ≤ w → Open w i → Placed f g (Open v) (curtailed_line s (f i)) (curtailed_line t (g i))
  one v w i u h = line_shared o CURTAILED refl 6 v w i u h

  said : (i : ℕ) → Open 113 i → curtailed_said s (f i) ≡ curtailed_said t (g i)
  said i h = curtailed_laws.reads _ _ (λ n l. values_shared o CURTAILED refl n 113 i (omega arith) h)

  with_series_lem : (v v' : ℕ → ℤ) → ((n : ℕ) → n < 3 → v n ≡ v' n) → (i : ℕ) → Open 3391 i → (r : Series) → curtailed_lines t (g i) ≡ r
      → with_curtailed v s (f i) r ≡ with_curtailed v' t (g i) r
  with_series_lem v v' e i h (line_count n) q =
      let few = series_few curtailed_line 2 30 t (g i) n q in
      let hour = e 0 (omega arith) in
      let den = e 1 (omega arith) in
      let dec = e 2 (omega arith) in
      let each = each_shared o.fewer curtailed_line 113 one curtailed_said blank_curtailed said in
      let lists = filled_same (curtailed_at s (f i)) (curtailed_at t (g i)) blank_curtailed n 30 (λ k u. each k 3391 i (omega arith) h) in
      λ z. read (record { hour = hour z; den = kw (den z); dec = price (dec z); n = n; iv = lists z })
  with_series_lem v v' e i h (broken_line line) q = refl

  block_shared : (w i : ℕ) → 3440 ≤ w → Open w i → import_block_at s (f i) ≡ import_block_at t (g i)
  unfolding import_block_at
  block_shared w i u h = go (line_shared o IMPORT_HOUR refl 2 3391 w i (omega arith) h)
    where
      go : {a b : Next} → Placed f g (Open 3391) a b → after_import_line1 a s (f i) ≡ after_import_line1 b t (g i)
      go (both j l) =
          rw (series_shared o.fewer curtailed_line 113 one (closes_shared o) 2 30 0 3391 j (omega arith) l)
          (with_series_lem (value_in IMPORT_HOUR s (f i)) (value_in IMPORT_HOUR t (g i)) (λ n k. values_shared o IMPORT_HOUR refl n w i (omega arith) h)
          j l (curtailed_lines t (g j)) refl)
      go neither = refl

-- ---- by its first bytes
pub decided : (s : List ℕ) → import_block_at (take PIECE s) 0 ≡ import_block_at s 0
decided s = block_shared (first_lines_lem (take PIECE s) s PIECE (λ i h. get_or-take PIECE s i 256 h)) 3440 0 (omega arith) (omega arith)

-- ---- up to its end
abbrev block : List ℕ → ImportBlock
block s = import_block_at s 0

starts_empty : (s : List ℕ) → byte_at s 0 ≡ 10 → block s ≡ broken 1
unfolding import_block_at
starts_empty s e = rw (line_closed s 0 (ap closing e) IMPORT_HOUR 2 refl)

block_ended : (s t : List ℕ) (m : ℕ) → Ended s t 0 0 m → block s ≡ block t
block_ended s t m o = block_shared (ended_lines o) 3440 0 (omega arith) (omega arith)

pub piece_decides : (s : List ℕ) → import_block_at (first_piece s) 0 ≡ import_block_at s 0
piece_decides = ends.piece_decides block (broken 1) starts_empty block_ended

pub closed_or_ended : (front behind : List ℕ) → import_block_at (front ++ (10 ∷ 10 ∷ behind)) 0 ≡ import_block_at (front ++ (10 ∷ [])) 0
closed_or_ended = ends.closed_or_ended block (broken 1) starts_empty block_ended
