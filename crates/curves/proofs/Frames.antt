-- A block of any kind, line by line as the code reads it: its first line that is not as printed, or its record.
use Rattle.text.specs.Text.{Next}
use Rattle.std.specs.Prelude.{None, Some, Result, Ok, Err}
use mathlib.Core.Path.{◌≡◌, refl, sym, ap, ◌∙◌}
use mathlib.Core.List.{List}
use mathlib.Core.Logic.{◌↔◌}
use Prim.Native.Nat.{ℕ}
use native.Mathlib.Omega.{arith}
use lib.IntN.{ℤ, pos}
use lib.ListN.{get_or}
use Rattle.exact.proofs.Apart.{impossible}
use Rattle.tariff.specs.declared.Curve.{Curve}
use Rattle.tariff.specs.Reply.{Reply, refused, FORM}
use Rattle.keys.specs.Keys.{DA, RT}
use Rattle.lines.specs.declared.Fields.{Fields}
use Rattle.lines.specs.Line.{fields_at, and_then, value_in, line_feed}
use Rattle.lines.proofs.Lines.{FieldsRead, fields_read, line_is}
use Rattle.lines.specs.Series.{Series, line_count, broken_line}
use Rattle.lines.proofs.Series.{series_line}
use Rattle.records.specs.declared.series.Series as declared
use Rattle.records.specs.Laws.{LineLaws}
use Rattle.records.specs.Told.{series_read, series_read_at}
use Rattle.curves.specs.CurveLine.{curve_line, curve_said, line_read_at}
use Rattle.curves.specs.Frame.{Kind, first_line, interval_line, interval_at, interval_lines, Framed, broken, read, with_series, after_line3, after_line2, after_line1, framed_at, framed_read}
use Rattle.curves.proofs.CurveLines.{not_told, curve_told}

pub never_read : {H : Type 0} {line : ℕ} {h : H} → ◌≡◌ {A = Framed H} (broken line) (read h) → ⊥
never_read e = impossible cc

-- FORM, where it is the reply to no record that is read, is that of a line that is not as printed
pub form_when_broken : {H : Type 0} (to : Framed H → Reply) (b : Framed H) (line : ℕ)
    → ((l : ℕ) → to (broken l) ≡ refused FORM l)
    → ((h : H) → b ≡ read h → to (read h) ≡ refused FORM line → ⊥)
    → (to b ≡ refused FORM line) ↔ (b ≡ broken line)
form_when_broken {H} to b line form never = (go b never, λ e. ap to e ∙ form line)
  where
    go : (b : Framed H) → ((h : H) → b ≡ read h → to (read h) ≡ refused FORM line → ⊥) → to b ≡ refused FORM line → b ≡ broken line
    go (broken l) never e = let same = sym (form l) ∙ e in ap broken (cc)
    go (read h) never e = absurd (never h refl e)

-- ---- a block, line by line as the code reads it

module _ {I H : Type 0} (k : Kind I H) (s : List ℕ) (from : ℕ) where
  abbrev all : Result H ℕ
  all = framed_read (framed_at k s from)

  -- line 1 as its fields are read
  module _ {r : Fields} (q : r ≡ fields_at k.ahead k.ahead_fields s from) {A : Type 0} {of : (ℕ → ℤ) → A} (laws : LineLaws k.ahead k.ahead_fields of) where
    told : FieldsRead k.ahead k.ahead_fields s from r
    told = fields_read k.ahead k.ahead_fields s from r laws.is_a_line q

    pub line1_is : {end : Next} → end ≡ and_then r.next (line_feed s) → first_line k s from ≡ end
    line1_is f = line_is k.ahead k.ahead_fields s from r.next _ told.next f

    pub line1_said : of (λ n. get_or r.values n (pos 0)) ≡ of (value_in k.ahead s from)
    line1_said = laws.reads _ _ told.values

  pub frame_line1 : first_line k s from ≡ None → Err 1 ≡ all
  unfolding framed_at
  frame_line1 e = rw e

  module _ {p1 : ℕ} (e1 : first_line k s from ≡ Some p1) where
    pub frame_line2 : None ≡ line_read_at DA s p1 → Err 2 ≡ all
    unfolding framed_at
    frame_line2 e = rw (e1, not_told _ _ e)

    module _ {p2 : ℕ} {da : Curve} (e2 : Some (da, p2) ≡ line_read_at DA s p1) where
      pub frame_line3 : None ≡ line_read_at RT s p2 → Err 3 ≡ all
      unfolding framed_at
      frame_line3 e = rw (e1, (curve_told _ _ e2).0, not_told _ _ e)

      module _ {p3 : ℕ} {rt : Curve} (e3 : Some (rt, p3) ≡ line_read_at RT s p2) where
        -- the record of the intervals, or the line of them that is not as printed
        abbrev with : Result (declared.Series I) ℕ → Result H ℕ
        with (Ok iv) = Ok (k.hour_of (value_in k.ahead s from) da rt iv.n iv.iv)
        with (Err line) = Err line

        counted : (r : Series) → with (series_read (interval_at k s p3) k.blank r) ≡ framed_read (with_series k (value_in k.ahead s from) da rt s p3 r)
        counted (line_count n) = refl
        counted (broken_line line) = refl

        pub frame_series : (r : Result (declared.Series I) ℕ) → r ≡ series_read_at k.interval k.interval_fields k.interval_of k.blank 4 s p3 → with r ≡ all
        unfolding framed_at
        frame_series r e =
            let da = curve_told _ _ e2 in
            let rt = curve_told _ _ e3 in
            ap with e ∙ counted (interval_lines k s p3) ∙ rw (e1, da.0, da.1, rt.0, rt.1)

-- ---- lines count from 1

module _ {I H : Type 0} (k : Kind I H) where
  pub no_line_0 : (s : List ℕ) (from : ℕ) → framed_at k s from ≡ broken 0 → ⊥
  unfolding framed_at
  no_line_0 s from = line1 (first_line k s from)
    where
      series : (v : ℕ → ℤ) (da rt : Curve) (at : ℕ) (r : Series) → (r ≡ broken_line 0 → ⊥) → with_series k v da rt s at r ≡ broken 0 → ⊥
      series v da rt at (line_count n) never e = impossible cc
      series v da rt at (broken_line line) never e = never (ap broken_line (cc))

      line3 : (next : Next) (v : ℕ → ℤ) (da rt : Curve) → after_line3 k next v da rt s ≡ broken 0 → ⊥
      line3 None v da rt e = let z : ◌≡◌ {A = ℕ} 3 0 = cc in omega arith
      line3 (Some at) v da rt e = series v da rt at (interval_lines k s at) (series_line (interval_line k) 4 30 s at (omega arith)) e

      line2 : (next : Next) (v : ℕ → ℤ) (da : Curve) → after_line2 k next v da s ≡ broken 0 → ⊥
      line2 None v da e = let z : ◌≡◌ {A = ℕ} 2 0 = cc in omega arith
      line2 (Some at) v da e = line3 (curve_line RT s at) v da (curve_said RT s at) e

      line1 : (next : Next) → after_line1 k next s from ≡ broken 0 → ⊥
      line1 None e = let z : ◌≡◌ {A = ℕ} 1 0 = cc in omega arith
      line1 (Some at) e = line2 (curve_line DA s at) (value_in k.ahead s from) (curve_said DA s at) e

-- ---- what is given back says what the block is

module _ {H : Type 0} where
  pub told_broken : (b : Framed H) {line : ℕ} → Err line ≡ framed_read b → b ≡ broken line
  told_broken (broken line) e = ap broken (cc)
  told_broken (read h) e = impossible cc

  pub told_read : (b : Framed H) {h : H} → Ok h ≡ framed_read b → b ≡ read h
  told_read (broken line) e = impossible cc
  told_read (read h) e = ap read (cc)
