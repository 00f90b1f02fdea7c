-- Lines that two texts share: each begins in a stretch that both have, or where the blocks of both end.
use mathlib.Core.Path.{◌≡◌, sym, ap, ◌∙◌}
use mathlib.Core.Bool.{true}
use mathlib.Core.List.{List}
use Prim.Native.Nat.{ℕ, suc, ◌+◌, ◌*◌, ◌≤◌, ◌<◌}
use native.Mathlib.Omega.{arith}
use Rattle.text.specs.Text.{byte_at}
use Rattle.keys.specs.Keys.{key_of}
use Rattle.lines.specs.Line.{after_fields, value_in, line_at, closes}
use Rattle.lines.proofs.Along.{closing, Placed, neither, Stretch, moved_then, fields_placed, values_placed, feed_placed, stretch}
use Rattle.lines.proofs.Ended.{opens, fields_closed, values_closed, Ended, last_or}

pub data Begins (s t : List ℕ) (f g : ℕ → ℕ) (In : ℕ → ℕ → Type 0) (w i : ℕ) : Type 0 where
  inside : In w i → Begins s t f g In w i
  ended : closing (byte_at s (f i)) ≡ true → closing (byte_at t (g i)) ≡ true → Begins s t f g In w i

-- `Open w i` says that a line may begin at the i-th byte, from where on as many as w may be read; so behind a line feed of the stretch
pub record SharedLines (s t : List ℕ) (f g : ℕ → ℕ) (In Open : ℕ → ℕ → Type 0) : Type 0 where
  pub line : Stretch s t f g In
  pub begins : (w i : ℕ) → Open w i → Begins s t f g In w i
  pub fed : (v w i : ℕ) → v < w → In w i → byte_at s (f i) ≡ 10 → Open v (i + 1)
  pub fewer : (v w i : ℕ) → v ≤ w → Open w i → Open v i

module _ {s t : List ℕ} {f g : ℕ → ℕ} {In Open : ℕ → ℕ → Type 0} (o : SharedLines s t f g In Open) where
  pub closes_shared : (w i : ℕ) → 0 < w → Open w i → closes s (f i) ≡ closes t (g i)
  unfolding closes
  closes_shared w i u h = go (o.begins w i h)
    where
      go : Begins s t f g In w i → closing (byte_at s (f i)) ≡ closing (byte_at t (g i))
      go (inside l) = ap closing (o.line.same w i u l)
      go (ended a b) = a ∙ sym b

  -- fields and lines whose first key ends no line
  module _ (first : ℕ) (key : opens (key_of first) ≡ true) where
    pub fields_shared : (n v w i : ℕ) → v + suc n * 16 ≤ w → Open w i
        → Placed f g (In v) (after_fields first (suc n) s (f i)) (after_fields first (suc n) t (g i))
    fields_shared n v w i u h = go (o.begins w i h)
      where
        go : Begins s t f g In w i → Placed f g (In v) (after_fields first (suc n) s (f i)) (after_fields first (suc n) t (g i))
        go (inside l) = fields_placed o.line first (suc n) v w i u l
        go (ended a b) = rw (fields_closed s _ a first n key, fields_closed t _ b first n key) neither

    pub values_shared : (n w i : ℕ) → n * 16 + 16 ≤ w → Open w i → value_in first s (f i) n ≡ value_in first t (g i) n
    values_shared n w i u h = go (o.begins w i h)
      where
        go : Begins s t f g In w i → value_in first s (f i) n ≡ value_in first t (g i) n
        go (inside l) = values_placed o.line first n w i u l
        go (ended a b) = values_closed s _ a first n key ∙ sym (values_closed t _ b first n key)

    pub line_shared : (n v w i : ℕ) → v + (suc n * 16 + 1) ≤ w → Open w i
        → Placed f g (Open v) (line_at first (suc n) s (f i)) (line_at first (suc n) t (g i))
    unfolding line_at
    line_shared n v w i u h =
        moved_then _ _ (fields_shared n (v + 1) w i (omega arith) h) (λ j l. feed_placed o.line (v + 1) j (omega arith) l (o.fed v (v + 1) j (omega arith) l))

-- ---- up to where the blocks of both end
module _ {s t : List ℕ} {p q m : ℕ} (o : Ended s t p q m) where
  pub ended_lines : SharedLines s t (λ i. p + i) (λ i. q + i) (λ w i. i ≤ m) (λ w i. i ≤ m + 1)
  ended_lines = record {
    line = stretch o.along;
    begins = λ w i h. last_or o (λ i. Begins s t (λ i. p + i) (λ i. q + i) (λ w i. i ≤ m) w i) i h (λ j l. inside l) (ended o.one o.other);
    fed = λ v w i u h e. omega arith;
    fewer = λ v w i u h. h;
  }
