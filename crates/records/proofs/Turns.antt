-- The interval lines of a block, read one after the other: what each way out of a turn of the loop says of all of them.
use Rattle.std.specs.Prelude.{None, Some, Ok, Err}
use mathlib.Core.Path.{◌≡◌, sym, ap, ◌∙◌}
use mathlib.Core.Bool.{true, false}
use mathlib.Core.List.{List}
use Prim.Native.Nat.{ℕ, ◌+◌, ◌≤◌, ◌<◌}
use native.Mathlib.Omega.{arith}
use lib.IntN.{ℤ, pos}
use lib.ListN.{get_or, set, replicate}
use Rattle.text.specs.Text.{Next}
use Rattle.lines.specs.declared.Fields.{Fields}
use Rattle.lines.specs.Line.{fields_at, and_then, value_in, line_feed, line_at, closes}
use Rattle.lines.proofs.Lines.{FieldsRead, fields_read, line_is}
use Rattle.lines.proofs.Series.{ReadTo, series_begin, series_end, series_over, series_break, series_next}
use Rattle.std.specs.Prelude.{Result}
use Rattle.records.specs.declared.series.Series.{Series}
use Rattle.records.specs.Laws.{LineLaws}
use Rattle.records.specs.Told.{series_read_at}

module _ {A : Type 0} (first fields : ℕ) (of : (ℕ → ℤ) → A) (blank : A) (before : ℕ) (s : List ℕ) (at : ℕ) where
  abbrev line : List ℕ → ℕ → Next
  line = line_at first fields

  abbrev say : List ℕ → ℕ → A
  say s at = of (value_in first s at)

  -- the array after n lines, which end at the place i
  pub record Read (array : List A) (i n : ℕ) : Type 0 where
    pub lines : ReadTo line before 30 say blank s at array i n

  pub read_begin : (v : A) → v ≡ blank → Read (replicate 30 v) at 0
  read_begin v e = record { lines = series_begin line before 30 say blank s at v e }

module _ {A : Type 0} {first fields : ℕ} {of : (ℕ → ℤ) → A} {blank : A} {before : ℕ} {s : List ℕ} {at : ℕ} {array : List A} {i n : ℕ}
    (h : Read first fields of blank before s at array i n) where
  abbrev found : Result (Series A) ℕ
  found = series_read_at first fields of blank before s at

  pub read_end : closes s i ≡ true → Ok (record { n = n; iv = array }) ≡ found
  read_end e = rw (series_end _ before 30 _ blank s at array i n h.lines e, h.lines.series)

  -- behind as many as there may be
  pub read_all : closes s i ≡ true → 30 ≤ n → Ok (record { n = 30; iv = array }) ≡ found
  read_all e u =
      let all : n ≡ 30 = let l = h.lines.few in omega arith in
      ap full (sym all) ∙ read_end e
    where
      full : ℕ → Result (Series A) ℕ
      full m = Ok (record { n = m; iv = array })

  module _ (e : closes s i ≡ false) where
    pub read_over : 30 ≤ n → Err (30 + before) ≡ found
    read_over u = rw (series_over _ before 30 _ blank s at array i n h.lines e u)

    module _ (laws : LineLaws first fields of) (u : n < 30) {r : Fields} (q : r ≡ fields_at first fields s i) {end : Next}
        (f : end ≡ and_then r.next (line_feed s)) where
      told : FieldsRead first fields s i r
      told = fields_read first fields s i r laws.is_a_line q

      ends : line_at first fields s i ≡ end
      ends = line_is first fields s i r.next end told.next f

      pub read_break : end ≡ None → Err (n + before) ≡ found
      read_break w = rw (series_break _ before 30 _ blank s at array i n h.lines e u (ends ∙ w))

      pub read_next : {next : ℕ} {v : A} → end ≡ Some next → v ≡ of (λ k. get_or r.values k (pos 0))
          → Read first fields of blank before s at (set array n v) next (n + 1)
      read_next w p = record { lines = series_next _ before 30 _ blank s at array i n h.lines e u _ _ (ends ∙ w) (p ∙ laws.reads _ _ told.values) }
