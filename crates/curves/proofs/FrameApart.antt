-- Two block texts of one kind that differ in their curve lines only are read to records that are made of the same but for two curves.
use Rattle.std.specs.Prelude.{None, Some}
use mathlib.Core.Path.{◌≡◌, sym, ap, fun_ext, ◌∙◌}
use mathlib.Core.Bool.{true}
use mathlib.Core.List.{List, ◌++◌, append_assoc}
use Prim.Native.Nat.{ℕ, ◌+◌, ◌*◌, ◌≤◌, ◌<◌}
use native.Mathlib.Nat.{add-zero, zero-add}
use native.Mathlib.Omega.{arith}
use lib.IntN.{ℤ}
use lib.ListN.{length, length-append, get_or-append, get_or-eq_default}
use lib.Seq.{get_or-append-add}
use Rattle.tariff.specs.declared.Curve.{Curve}
use Rattle.text.specs.Text.{byte_at, Next}
use Rattle.keys.specs.Keys.{DA, RT}
use Rattle.lines.specs.Line.{and_then, value_in, filled}
use Rattle.lines.specs.Series.{Series, line_count, broken_line}
use Rattle.lines.proofs.Along.{closing, Along, never_at, values_along}
use Rattle.lines.proofs.Ended.{Fed, line_fed, Ended}
use Rattle.lines.proofs.Shared.{ended_lines}
use Rattle.curves.specs.CurveLine.{curve_line, curve_said}
use Rattle.curves.specs.Frame.{Kind, first_line, interval_at, interval_lines, broken, read, with_series, after_line2, framed_at}
use Rattle.curves.specs.Apart.{InThree, CurvesApart}
use Rattle.curves.proofs.Frames.{never_read}
use Rattle.curves.proofs.FrameShared.{Bounded, interval_shared, intervals_shared}

-- two records of one line 1 and the same intervals
pub record ButCurves {I H : Type 0} (k : Kind I H) (h g : H) : Type 0 where
  pub ahead : ℕ → ℤ
  pub n : ℕ
  pub iv : List I
  pub da : Curve
  pub rt : Curve
  pub da' : Curve
  pub rt' : Curve
  pub one : k.hour_of ahead da rt n iv ≡ h
  pub other : k.hour_of ahead da' rt' n iv ≡ g

-- a part of theirs that no curve changes
pub but_curves : {I H : Type 0} {k : Kind I H} {h g : H} (o : ButCurves k h g) {A : Type 0} (part : H → A)
    → part (k.hour_of o.ahead o.da o.rt o.n o.iv) ≡ part (k.hour_of o.ahead o.da' o.rt' o.n o.iv)
    → part h ≡ part g
but_curves o part e = ap part (sym o.one) ∙ e ∙ ap part o.other

-- which is the one and which the other is nothing to them
pub turned : {head : List ℕ → ℕ → Next} (s t : List ℕ) → CurvesApart head s t → CurvesApart head t s
turned s t o = record { first = o.first; curves = o.others; others = o.curves; rest = o.rest; one = o.other; other = o.one }

module _ {I H : Type 0} (k : Kind I H) (b : Bounded k) where
  -- ---- a text in three parts: its bytes, and what it is read as
  module _ {s first curves rest : List ℕ} (o : InThree (first_line k) s first curves rest) where
    abbrev behind : ℕ
    behind = length first + length curves

    first_byte : (i : ℕ) → i < length first → byte_at s i ≡ byte_at first i
    first_byte i h = rw (o.parts, append_assoc first curves rest) (get_or-append first (curves ++ rest) 256 i h)

    rest_byte : (i : ℕ) → byte_at s (behind + i) ≡ byte_at rest i
    rest_byte i = rw (o.parts, ← length-append first curves) (get_or-append-add (first ++ curves) rest i 256)

    rest_ends : (i : ℕ) → length rest ≤ i → closing (byte_at s (behind + i)) ≡ true
    rest_ends i h = rw (rest_byte i, get_or-eq_default rest 256 h)

    record Behind : Type 0 where
      da : Curve
      rt : Curve
      same : framed_at k s 0 ≡ with_series k (value_in k.ahead s 0) da rt s behind (interval_lines k s behind)

    after_curves : (v : ℕ → ℤ) (da : Curve) (a : Next) → and_then a (curve_line RT s) ≡ Some behind
        → (rt : Curve) × (after_line2 k a v da s ≡ with_series k v da rt s behind (interval_lines k s behind))
    after_curves v da (Some i) e = (curve_said RT s i, rw e)
    after_curves v da None e = absurd (never_at e)

    frame_behind : Behind
    unfolding framed_at
    frame_behind =
        let r = after_curves (value_in k.ahead s 0) (curve_said DA s (length first)) (curve_line DA s (length first)) o.lines23 in
        record { da = curve_said DA s (length first); rt = r.0; same = rw o.line1 r.1 }

  -- ---- two texts that differ in the middle part
  module _ {s t first curves others rest : List ℕ} (o : InThree (first_line k) s first curves rest) (u : InThree (first_line k) t first others rest) where
    first_same : value_in k.ahead s 0 ≡ value_in k.ahead t 0
    first_same = fun_ext (λ n. values_along along k.ahead n 0 (omega arith))
      where
        f : Fed s (length first)
        f = line_fed k.ahead k.ahead_fields s 0 (length first) o.line1

        along : Along s t 0 0 f.at
        along = record {
          same = λ i h. rw zero-add (let l : i < length first = omega (arith, f.next) in first_byte o i l ∙ sym (first_byte u i l));
          stop = rw (zero-add, f.feed);
        }

    rest_ended : Ended s t (behind o) (behind u) (length rest)
    rest_ended = record {
      along = record { same = λ i h. rest_byte o i ∙ sym (rest_byte u i); stop = rest_ends o (length rest) (omega arith) };
      one = rest_ends o (length rest + 1) (omega arith);
      other = rest_ends u (length rest + 1) (omega arith);
    }

    series_same : interval_lines k s (behind o) ≡ interval_lines k t (behind u)
    series_same = simp add-zero at (intervals_shared (ended_lines rest_ended) k b 9631 0 (omega arith) (omega arith))

    intervals_same : interval_at k s (behind o) ≡ interval_at k t (behind u)
    intervals_same = fun_ext (λ n. simp add-zero at (interval_shared (ended_lines rest_ended) k b n (321 * n + 321) 0 (omega arith) (omega arith)))

  -- ---- their records
  module _ (v : ℕ → ℤ) (s t : List ℕ) (i j : ℕ) (e : interval_at k s i ≡ interval_at k t j) (da rt da' rt' : Curve) where
    series_but : (h g : H) (r : Series) → with_series k v da rt s i r ≡ read h → with_series k v da' rt' t j r ≡ read g → ButCurves k h g
    series_but h g (broken_line line) x y = absurd (never_read x)
    series_but h g (line_count n) x y = record {
      ahead = v;
      n = n;
      iv = filled n 30 (interval_at k s i) k.blank;
      da = da;
      rt = rt;
      da' = da';
      rt' = rt';
      one = cc;
      other = ap (λ f. k.hour_of v da' rt' n (filled n 30 f k.blank)) e ∙ cc;
    }

    series_broken : (line : ℕ) (r : Series) → with_series k v da rt s i r ≡ broken line → with_series k v da' rt' t j r ≡ broken line
    series_broken line (broken_line l) x = x
    series_broken line (line_count n) x = absurd (never_read (sym x))

  module _ (s t : List ℕ) (o : CurvesApart (first_line k) s t) where
    abbrev one : Behind o.one
    one = frame_behind o.one

    abbrev other : Behind o.other
    other = frame_behind o.other

    abbrev series : Series
    series = interval_lines k s (behind o.one)

    other_same : framed_at k t 0 ≡ with_series k (value_in k.ahead s 0) other.da other.rt t (behind o.other) series
    other_same = rw (first_same o.one o.other, series_same o.one o.other) other.same

    pub apart_but_curves : (h g : H) → framed_at k s 0 ≡ read h → framed_at k t 0 ≡ read g → ButCurves k h g
    apart_but_curves h g x y =
        series_but (value_in k.ahead s 0) s t _ _ (intervals_same o.one o.other) one.da one.rt other.da other.rt h g series
        (sym one.same ∙ x)
        (sym other_same ∙ y)

    pub apart_broken : (line : ℕ) → framed_at k s 0 ≡ broken line → framed_at k t 0 ≡ broken line
    apart_broken line x =
        other_same
        ∙ series_broken (value_in k.ahead s 0) s t _ _ (intervals_same o.one o.other) one.da one.rt other.da other.rt line series (sym one.same ∙ x)
