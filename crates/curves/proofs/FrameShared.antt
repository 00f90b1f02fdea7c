-- Two texts that share the lines of a block of any kind: it is read as the same.
use Rattle.text.specs.Text.{Next}
use mathlib.Core.Path.{◌≡◌, refl}
use mathlib.Core.Bool.{true}
use mathlib.Core.List.{List}
use Prim.Native.Nat.{ℕ, zero, suc, ◌+◌, ◌*◌, ◌<◌, ◌≤◌}
use native.Mathlib.Nat.{not-suc-le-zero}
use native.Mathlib.Omega.{arith}
use lib.IntN.{ℤ}
use Rattle.tariff.specs.declared.Curve.{Curve}
use Rattle.keys.specs.Keys.{key_of, DA, RT}
use Rattle.lines.specs.Line.{value_in, line_at}
use Rattle.lines.specs.Series.{Series, line_count, broken_line}
use Rattle.lines.proofs.Along.{Placed, both, neither}
use Rattle.lines.proofs.Ended.{opens}
use Rattle.lines.proofs.Fill.{filled_same}
use Rattle.lines.proofs.Shared.{SharedLines, closes_shared, values_shared, line_shared}
use Rattle.lines.proofs.Series.{series_few}
use Rattle.lines.proofs.SeriesShared.{each_shared, series_shared}
use Rattle.curves.specs.Frame.{Kind, interval_line, interval_said, interval_at, interval_lines, read, with_series, after_line3, after_line2, after_line1, framed_at}
use Rattle.curves.proofs.CurveShared.{SameCurve, curve, no_curve_lem, curve_shared}

-- what is asked of a kind: no line of it begins with a line's end, line 1 has at most 10 fields and an interval line at most 20, and a line's
-- record reads no more values than the line has
pub record Bounded {I H : Type 0} (k : Kind I H) : Type 0 where
  pub ahead_key_lem : opens (key_of k.ahead) ≡ true
  pub ahead_some : 0 < k.ahead_fields
  pub ahead_few : k.ahead_fields ≤ 10
  pub ahead_same : (f g : ℕ → ℤ) → ((n : ℕ) → n < k.ahead_fields → f n ≡ g n) → k.hour_of f ≡ k.hour_of g
  pub interval_key : opens (key_of k.interval) ≡ true
  pub interval_some : 0 < k.interval_fields
  pub interval_few : k.interval_fields ≤ 20
  pub interval_same : (f g : ℕ → ℤ) → ((n : ℕ) → n < k.interval_fields → f n ≡ g n) → k.interval_of f ≡ k.interval_of g

module _ {s t : List ℕ} {f g : ℕ → ℕ} {In Open : ℕ → ℕ → Type 0} (o : SharedLines s t f g In Open) where
  -- a line of so many fields, if of any
  line_of : (first : ℕ) → opens (key_of first) ≡ true → (count : ℕ) → 0 < count → (v w i : ℕ) → v + (count * 16 + 1) ≤ w → Open w i
      → Placed f g (Open v) (line_at first count s (f i)) (line_at first count t (g i))
  line_of first key zero l v w i u h = absurd (not-suc-le-zero l)
  line_of first key (suc n) l v w i u h = line_shared o first key n v w i u h

  module _ {I H : Type 0} (k : Kind I H) (b : Bounded k) where
    -- ---- interval lines: one of 20 fields has at most 321 bytes

    one : (v w i : ℕ) → v + 321 ≤ w → Open w i → Placed f g (Open v) (interval_line k s (f i)) (interval_line k t (g i))
    one v w i u h = line_of k.interval b.interval_key k.interval_fields b.interval_some v w i (omega (arith, b.interval_few)) h

    pub interval_shared : (n w i : ℕ) → 321 * n + 321 ≤ w → Open w i → interval_at k s (f i) n ≡ interval_at k t (g i) n
    interval_shared =
        each_shared o.fewer (interval_line k) 321 one (interval_said k) k.blank
        (λ i h. b.interval_same _ _ (λ n l. values_shared o k.interval b.interval_key n 321 i (omega (arith, b.interval_few)) h))

    pub intervals_shared : (w i : ℕ) → 9631 ≤ w → Open w i → interval_lines k s (f i) ≡ interval_lines k t (g i)
    intervals_shared w i u h = series_shared o.fewer (interval_line k) 321 one (closes_shared o) 4 30 0 w i (omega arith) h

    -- ---- the block: 161 bytes of line 1, two curve lines, 30 interval lines, and the byte at which it closes

    module _ (v v' : ℕ → ℤ) (same : (n : ℕ) → n < k.ahead_fields → v n ≡ v' n) where
      with_series_lem : {da da' rt rt' : Curve} (i : ℕ) → Open 9631 i → da ≡ da' → rt ≡ rt' → (r : Series) → interval_lines k t (g i) ≡ r
          → with_series k v da rt s (f i) r ≡ with_series k v' da' rt' t (g i) r
      with_series_lem i h p q (line_count n) e =
          let few = series_few (interval_line k) 4 30 t (g i) n e in
          let aheads = b.ahead_same v v' same in
          let lists = filled_same (interval_at k s (f i)) (interval_at k t (g i)) k.blank n 30 (λ j u. interval_shared j 9631 i (omega arith) h) in
          λ z. read (aheads z (p z) (q z) n (lists z))
      with_series_lem i h p q (broken_line line) e = refl

      line3 : {da da' rt rt' : Curve} {x y : Next} → da ≡ da' → SameCurve f g (Open 9631) rt rt' x y → after_line3 k x v da rt s ≡ after_line3 k y v' da' rt' t
      line3 p (curve j h q) = rw (intervals_shared 9631 j (omega arith) h) (with_series_lem j h p q (interval_lines k t (g j)) refl)
      line3 p no_curve_lem = refl

      line2 : {da da' : Curve} {x y : Next} → SameCurve f g (Open 10048) da da' x y → after_line2 k x v da s ≡ after_line2 k y v' da' t
      line2 (curve j h p) = line3 p (curve_shared o RT refl 9631 10048 j (omega arith) h)
      line2 no_curve_lem = refl

    pub frame_shared : (w i : ℕ) → 10626 ≤ w → Open w i → framed_at k s (f i) ≡ framed_at k t (g i)
    unfolding framed_at
    frame_shared w i u h = line1 (line_of k.ahead b.ahead_key_lem k.ahead_fields b.ahead_some 10465 w i (omega (arith, b.ahead_few)) h)
      where
        line1 : {x y : Next} → Placed f g (Open 10465) x y → after_line1 k x s (f i) ≡ after_line1 k y t (g i)
        line1 (both j l) =
            line2 (value_in k.ahead s (f i)) (value_in k.ahead t (g i))
            (λ n m. values_shared o k.ahead b.ahead_key_lem n w i (omega (arith, b.ahead_few)) h)
            (curve_shared o DA refl 10048 10465 j (omega arith) l)
        line1 neither = refl
