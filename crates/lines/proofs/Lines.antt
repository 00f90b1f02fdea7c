-- Keys, fields and lines at a place of a text, step by step as the code reads them.
use mathlib.Core.Path.{◌≡◌, refl, sym, ap, ap₂, ◌∙◌, fun_ext}
use mathlib.Core.Bool.{true, and-false}
use mathlib.Core.List.{List, ◌++◌, append-nil}
use Prim.Native.Nat.{ℕ, zero, suc, ◌+◌, ◌-◌, ◌≤◌, ◌<◌}
use native.Mathlib.Decide.{dec_lt}
use native.Mathlib.Numerals.{add-one}
use native.Mathlib.Nat.{add-zero, add-suc, sub-zero}
use native.Mathlib.Omega.{arith}
use borrow.Author.Tests.{ltb-true, le-leb, lt-leb}
use lib.Dec.{ltb, leb}
use lib.IntN.{ℤ, pos}
use lib.ListN.{length, get_or, set, take, drop, replicate}
use Rattle.std.proofs.lemmas.List.{length-replicate, take-replicate, drop-replicate}
use Rattle.std.specs.Prelude.{if◌then◌else◌, None, Some}
use Rattle.exact.specs.Whole.{up_to}
use Rattle.exact.proofs.Parts.{by_test}
use Rattle.text.specs.Text.{key_at, Next}
use Rattle.lines.specs.declared.Fields.{Fields}
use Rattle.keys.specs.Keys.{KEYS, key_of}
use Rattle.lines.specs.Line.{value_after, field_at, next_of, value_of, and_then, after_fields, value_in, filled, is_line, no_fields, fields_at, line_feed, line_at}
use Rattle.lines.proofs.Fill.{filled_at, fill_next, fill_rest}

-- ---- a field
pub field_after : (k : ℕ) (s : List ℕ) (at : ℕ) (next : Next) → next ≡ key_at (key_of k) s at → value_after k s next ≡ field_at k s at
unfolding field_at
field_after k s at next e = ap (value_after k s) e

-- ---- what is a line, and what is none
pub is_line_lem : (first count : ℕ) → first + count ≤ KEYS → count ≤ 20 → is_line first count ≡ true
is_line_lem first count h k = rw (le-leb (first + count) KEYS h, le-leb count 20 k)

module _ (first count : ℕ) where
  pub too_many : (s : List ℕ) (at : ℕ) → 20 < count → no_fields ≡ fields_at first count s at
  too_many s at h = rw (lt-leb count 20 h, and-false (leb (first + count) KEYS))

  pub past_table : (s : List ℕ) (at : ℕ) → KEYS - count < first → no_fields ≡ fields_at first count s at
  past_table s at h = rw (lt-leb (first + count) KEYS (omega arith))

-- ---- the fields of a line, one by one
module _ (first : ℕ) (s : List ℕ) (at total : ℕ) where
  -- n fields are read, up to the place i, and behind their values stand zeros
  pub record Reading (values : List ℤ) (i n : ℕ) : Type 0 where
    pub place : after_fields first n s at ≡ Some i
    pub read : values ≡ filled n total (value_in first s at) (pos 0)

  pub fields_begin : {values : List ℤ} → values ≡ replicate total (pos 0) → Reading values at 0
  unfolding after_fields up_to
  fields_begin e = record { place = refl; read = e ∙ rw sub-zero }

  stays_wrong : (n d : ℕ) → after_fields first n s at ≡ None → after_fields first (n + d) s at ≡ None
  unfolding after_fields
  stays_wrong n zero e = rw add-zero e
  stays_wrong n (suc d) e = rw (add-suc n d, stays_wrong n d e)

  -- all of them: the place behind, and the values
  abbrev pub Read : Next → List ℤ → Type 0
  Read next values = (next ≡ after_fields first total s at) × (values ≡ up_to (value_in first s at) total)

  no_rest : (f : ℕ → ℤ) → filled total total f (pos 0) ≡ up_to f total
  no_rest f = let e : total - total ≡ 0 = omega arith in rw e (append-nil _)

  module _ (values : List ℤ) (i n : ℕ) (o : Reading values i n) where
    place_next : after_fields first (suc n) s at ≡ next_of (field_at (first + n) s i)
    unfolding after_fields
    place_next = rw o.place

    value_next : value_in first s at n ≡ value_of (field_at (first + n) s i)
    unfolding value_in
    value_next = rw o.place

    -- a field more
    pub fields_more : (v : ℤ) (next : ℕ) → n < total → Some (v, next) ≡ field_at (first + n) s i → Reading (set values n v) next (n + 1)
    fields_more v next h e = record {
      place = rw (add-one n) (place_next ∙ ap next_of (sym e));
      read = fill_next (value_in first s at) (pos 0) n total h o.read (sym (value_next ∙ ap value_of (sym e)));
    }

    -- a field that is wrong: so is the line, and every value from there on is 0
    wrong_place : (k : ℕ) → n < k → field_at (first + n) s i ≡ None → after_fields first k s at ≡ None
    wrong_place k h e =
        let q : suc n + (k - suc n) ≡ k = omega arith in
        ap (λ (m : ℕ). after_fields first m s at) (sym q) ∙ stays_wrong (suc n) (k - suc n) (place_next ∙ ap next_of e)

    wrong_value : field_at (first + n) s i ≡ None → (k : ℕ) → n ≤ k → value_in first s at k ≡ pos 0
    unfolding value_in
    wrong_value e k h = go (dec_lt n k)
      where
        go : Dec (n < k) → value_in first s at k ≡ pos 0
        go (yes p) = rw (wrong_place k p e)
        go (no q) = let same : k ≡ n = omega arith in rw same (value_next ∙ ap value_of e)

    pub fields_wrong : n < total → None ≡ field_at (first + n) s i → Read None values
    fields_wrong l e =
        let all : n + (total - n) ≡ total = omega arith in (
          sym (wrong_place total l (sym e)),
          o.read ∙ fill_rest (value_in first s at) (pos 0) n total (total - n) (omega arith) (wrong_value (sym e)) ∙ rw all (no_rest _),
        )

module _ (first : ℕ) (s : List ℕ) (at : ℕ) where
  -- the whole line
  fields_are : (count : ℕ) (next : Next) (values : List ℤ) → first + count ≤ KEYS → count ≤ 20 → next ≡ after_fields first count s at
      → values ≡ filled count 20 (value_in first s at) (pos 0) → record { next = next; values = values } ≡ fields_at first count s at
  fields_are count next values h k p q = rw (is_line_lem first count h k) (ap₂ fields_of p q)
    where
      fields_of : Next → List ℤ → Fields
      fields_of next values = record { next = next; values = values }

  module _ (values : List ℤ) (i n : ℕ) (o : Reading first s at 20 values i n) where
    -- all fields are read
    pub fields_end : (count : ℕ) → first + count ≤ KEYS → count ≤ 20 → n ≡ count → record { next = Some i; values = values } ≡ fields_at first count s at
    fields_end count h k e = fields_are count (Some i) values h k (rw e at (sym o.place)) (rw e at o.read)

-- the values in front of an array of zeros
abbrev blank : List ℤ
blank = replicate 20 (pos 0)

front_length : (count : ℕ) → count ≤ 20 → length (take count blank) ≡ count
front_length count h = ap length (take-replicate count 20 (pos 0) h) ∙ length-replicate count (pos 0)

pub blank_front : (count : ℕ) → count ≤ 20 → take count blank ≡ replicate (length (take count blank)) (pos 0)
blank_front count h = take-replicate count 20 (pos 0) h ∙ ap (λ (n : ℕ). replicate n (pos 0)) (sym (front_length count h))

module _ (first count : ℕ) (s : List ℕ) (at : ℕ) (next : Next) (values : List ℤ) (h : first + count ≤ KEYS) (k : count ≤ 20) where
  pub fields_in_front : next ≡ after_fields first (length (take count blank)) s at → values ≡ up_to (value_in first s at) (length (take count blank))
      → record { next = next; values = values ++ drop count blank } ≡ fields_at first count s at
  fields_in_front p q =
      let n = front_length count k in
      rw (is_line_lem first count h k)
      (ap₂ fields_of (rw n at p)
      ((λ i. (rw n at q) i ++ drop count blank) ∙ ap (λ (l : List ℤ). up_to (value_in first s at) count ++ l) (drop-replicate count 20 (pos 0))))
    where
      fields_of : Next → List ℤ → Fields
      fields_of next values = record { next = next; values = values }

-- ---- what a line's fields say: the place after them, and each value
pub record FieldsRead (first count : ℕ) (s : List ℕ) (at : ℕ) (r : Fields) : Type 0 where
  pub next : r.next ≡ after_fields first count s at
  pub values : (n : ℕ) → n < count → get_or r.values n (pos 0) ≡ value_in first s at n

pub fields_read : (first count : ℕ) (s : List ℕ) (at : ℕ) (r : Fields) → is_line first count ≡ true → r ≡ fields_at first count s at
    → FieldsRead first count s at r
fields_read first count s at r h e =
    let q : r ≡ record { next = after_fields first count s at; values = filled count 20 (value_in first s at) (pos 0) } = e ∙ rw h in
    record {
      next = ap (λ (f : Fields). f.next) q;
      values = λ n l. ap (λ (f : Fields). get_or f.values n (pos 0)) q ∙ sym (filled_at (value_in first s at) (pos 0) count 20 n l);
    }

pub line_is : (first n : ℕ) (s : List ℕ) (at : ℕ) (fields end : Next) → fields ≡ after_fields first n s at → end ≡ and_then fields (line_feed s)
    → line_at first n s at ≡ end
unfolding line_at
line_is first n s at fields end p q = sym (q ∙ ap (λ (x : Next). and_then x (line_feed s)) p)

-- values that a line does not have are not read
abbrev pub first_only : ℕ → (ℕ → ℤ) → ℕ → ℤ
first_only m f n = if ltb n m then f n else pos 0

pub first_same : (m : ℕ) (f g : ℕ → ℤ) → ((n : ℕ) → n < m → f n ≡ g n) → first_only m f ≡ first_only m g
first_same m f g h =
    fun_ext (λ n. by_test (ltb n m) (λ b. (if b then f n else pos 0) ≡ (if b then g n else pos 0)) (λ e. h n (ltb-true n m e)) (λ e. refl))
