-- Where lines and blocks end: a line that is read ends with its line feed, where it ends no key stands, and two texts may be the same up to
-- where a block of both ends.
use mathlib.Core.Path.{◌≡◌, refl, sym, ap, ◌∙◌}
use mathlib.Core.Bool.{Bool, true, false, not, false≢true}
use mathlib.Core.List.{List, [], ◌∷◌, ◌++◌}
use Prim.Native.Nat.{ℕ, zero, suc, ◌+◌, ◌≤◌, ◌<◌}
use native.Mathlib.Decide.{dec_le, dec_lt}
use native.Mathlib.Nat.{add-zero, zero-add}
use native.Mathlib.Omega.{arith}
use borrow.Author.Tests.{eqb-true, ne_eqb, not-true}
use lib.Dec.{eqb}
use lib.IntN.{pos}
use lib.ListN.{length, length-append, get_or-append, get_or-eq_default}
use lib.Seq.{get_or-append_seam}
use Rattle.std.specs.Prelude.{if◌then◌else◌, None, Some}
use Rattle.exact.proofs.Parts.{by_test}
use Rattle.text.specs.Text.{byte_at, key_at, Next}
use Rattle.keys.specs.Keys.{key_of}
use Rattle.lines.specs.Line.{place_in, field_at, and_then, after_fields, value_in, line_feed, line_at}
use Rattle.lines.proofs.Along.{closing, never_at, feed_placed, Along, Moved, stretch}

-- a line feed that is found
pub feed_ends : (s : List ℕ) (x k : ℕ) → line_feed s x ≡ Some k → (byte_at s x ≡ 10) × (x + 1 ≡ k)
unfolding key_at
feed_ends s x k =
    by_test (eqb (byte_at s x) 10) (λ b. (if b then Some (x + 1) else None) ≡ Some k → (byte_at s x ≡ 10) × (x + 1 ≡ k))
    (λ h e. (eqb-true (byte_at s x) 10 h, cc))
    (λ h e. absurd (never_at e))

-- a line that is read ends in one
pub record Fed (s : List ℕ) (k : ℕ) : Type 0 where
  pub at : ℕ
  pub next : at + 1 ≡ k
  pub feed : byte_at s at ≡ 10

pub fed : (s : List ℕ) (k : ℕ) (a : Next) → and_then a (line_feed s) ≡ Some k → Fed s k
fed s k (Some i) e = let end = feed_ends s i k e in record { at = i; next = end.1; feed = end.0 }
fed s k None e = absurd (never_at e)

pub line_fed : (first n : ℕ) (s : List ℕ) (at k : ℕ) → line_at first n s at ≡ Some k → Fed s k
unfolding line_at
line_fed first n s at k e = fed s k (after_fields first n s at) e

pub fed_inside : (s : List ℕ) (k : ℕ) → Fed s k → k ≤ length s
fed_inside s k f = go (dec_lt f.at (length s))
  where
    go : Dec (f.at < length s) → k ≤ length s
    go (yes h) = omega (arith, f.next)
    go (no h) = absurd (let z : 256 ≡ 10 = sym (get_or-eq_default s 256 (omega arith)) ∙ f.feed in omega arith)

-- the place behind a line feed lies in the text
pub feed_inside : (s : List ℕ) (x : Next) → place_in (and_then x (line_feed s)) ≤ length s
feed_inside s x = go (and_then x (line_feed s)) refl
  where
    go : (y : Next) → and_then x (line_feed s) ≡ y → place_in y ≤ length s
    go (Some k) e = fed_inside s k (fed s k x e)
    go None e = omega arith

-- ---- a place where a line ends: no key stands there
abbrev pub opens : List ℕ → Bool
opens [] = false
opens (k ∷ ks) = not (closing k)

module _ (s : List ℕ) (at : ℕ) (c : closing (byte_at s at) ≡ true) where
  pub key_closed : (key : List ℕ) → opens key ≡ true → key_at key s at ≡ None
  unfolding key_at
  key_closed [] e = absurd (false≢true e)
  key_closed (k ∷ ks) e = rw (ne_eqb (byte_at s at) k (λ z. false≢true (sym (not-true (closing k) e) ∙ ap closing (sym z) ∙ c)))

  field_closed : (k : ℕ) → opens (key_of k) ≡ true → field_at k s at ≡ None
  unfolding field_at
  field_closed k e = rw (key_closed (key_of k) e)

  pub fields_closed : (first n : ℕ) → opens (key_of first) ≡ true → after_fields first (suc n) s at ≡ None
  unfolding after_fields
  fields_closed first zero e = rw (add-zero first, field_closed first e)
  fields_closed first (suc n) e = rw (fields_closed first n e)

  pub line_closed : (first n : ℕ) → opens (key_of first) ≡ true → line_at first (suc n) s at ≡ None
  unfolding line_at
  line_closed first n e = rw (fields_closed first n e)

  pub values_closed : (first n : ℕ) → opens (key_of first) ≡ true → value_in first s at n ≡ pos 0
  unfolding value_in after_fields
  values_closed first zero e = rw (add-zero first, field_closed first e)
  values_closed first (suc n) e = rw (fields_closed first n e)

-- ---- two texts that are the same up to a line's end
pub feed_along : {s t : List ℕ} {p q m : ℕ} → Along s t p q m → (i : ℕ) → i ≤ m → Moved p q (m + 1) (line_feed s (p + i)) (line_feed t (q + i))
feed_along o i h = feed_placed (stretch o) 1 i (omega arith) h (λ e. omega arith)

-- ---- and up to where both blocks end: that is their end, whatever follows
pub record Ended (s t : List ℕ) (p q m : ℕ) : Type 0 where
  pub along : Along s t p q m
  pub one : closing (byte_at s (p + (m + 1))) ≡ true
  pub other : closing (byte_at t (q + (m + 1))) ≡ true

pub both_end : {s t : List ℕ} {p q m : ℕ} → Along s t p q m → Along s t p q (m + 1) → Ended s t p q m
both_end {m = m} line empty = record { along = line; one = empty.stop; other = ap closing (sym (empty.same (m + 1) (omega arith))) ∙ empty.stop }

module _ {s t : List ℕ} {p q m : ℕ} (o : Ended s t p q m) where
  pub last_or : (P : ℕ → Type 0) (i : ℕ) → i ≤ m + 1 → ((j : ℕ) → j ≤ m → P j) → P (m + 1) → P i
  last_or P i h f r = go (dec_le i m)
    where
      go : Dec (i ≤ m) → P i
      go (yes l) = f i l
      go (no l) = let e : i ≡ m + 1 = omega arith in rw e r

-- ---- an empty line, and the end of the text
module _ (front behind : List ℕ) where
  abbrev pub lines : List ℕ
  lines = front ++ (10 ∷ [])

  long : length lines ≡ length front + 1
  long = length-append front (10 ∷ [])

  last_feed : byte_at (lines ++ (10 ∷ behind)) (0 + length front) ≡ 10
  last_feed = rw zero-add (get_or-append lines (10 ∷ behind) 256 (length front) (omega (arith, long)) ∙ get_or-append_seam front 10 [] 256)

  next_feed : byte_at (lines ++ (10 ∷ behind)) (0 + (length front + 1)) ≡ 10
  next_feed = rw (zero-add, ← long) (get_or-append_seam lines 10 behind 256)

  text_ends : byte_at lines (0 + (length front + 1)) ≡ 256
  text_ends = get_or-eq_default lines 256 (omega (arith, long))

  pub lines_ended : Ended (lines ++ (10 ∷ behind)) lines 0 0 (length front)
  lines_ended = record {
    along = record { same = λ i h. get_or-append lines (10 ∷ behind) 256 (0 + i) (omega (arith, long)); stop = ap closing last_feed };
    one = ap closing next_feed;
    other = ap closing text_ends;
  }
