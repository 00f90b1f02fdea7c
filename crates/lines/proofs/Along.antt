-- Two texts that share a stretch of bytes, each from a place of its own on: what is read there is the same, moved.
use mathlib.Core.Path.{◌≡◌, refl, sym, ap, ◌∙◌}
use mathlib.Core.Bool.{Bool, true, false, not, ◌&&◌, ◌||◌, false≢true}
use mathlib.Core.List.{List, [], ◌∷◌}
use Prim.Native.Nat.{ℕ, zero, suc, ◌+◌, ◌*◌, ◌≤◌, ◌<◌}
use native.Mathlib.Decide.{dec_lt}
use native.Mathlib.Nat.{add_assoc}
use native.Mathlib.Omega.{arith}
use borrow.Author.Tests.{eqb-true, eqb-false, ne_eqb, not-true, leb-true}
use lib.Dec.{eqb, leb}
use lib.ListN.{length}
use lib.IntN.{ℤ, pos, neg_ℤ}
use Rattle.std.specs.Prelude.{if◌then◌else◌, None, Some}
use Rattle.exact.proofs.Apart.{impossible}
use Rattle.exact.proofs.Tests.{and_left, and_right}
use Rattle.text.specs.Text.{byte_at, key_at, Next}
use Rattle.text.specs.Number.{digit_of, digit_at, more_digits, natural_at, plain, negative, number_at, missing, Digits, Number}
use Rattle.keys.specs.Keys.{keys, key_of, may_miss}
use Rattle.lines.specs.Line.{or_missing, value_at, value_after, field_at, next_of, value_of, and_then, after_fields, value_from, value_in, line_feed, line_at}
use Rattle.keys.proofs.AllKeys.{table_all}

-- the end of a line, or of the text
abbrev pub closing : ℕ → Bool
closing b = eqb b 256 || eqb b 10

-- ---- two readings that are the same, moved: both at f j and g j for a j of which P holds, or neither

pub data Placed (f g : ℕ → ℕ) (P : ℕ → Type 0) : Next → Next → Type 0 where
  both : (j : ℕ) → P j → Placed f g P (Some (f j)) (Some (g j))
  neither : Placed f g P None None

data DigitsPlaced (f g : ℕ → ℕ) (P : ℕ → Type 0) : Digits → Digits → Type 0 where
  naturals : (v j : ℕ) → P j → DigitsPlaced f g P (Some (v, f j)) (Some (v, g j))
  none : DigitsPlaced f g P None None

data NumberPlaced (f g : ℕ → ℕ) (P : ℕ → Type 0) : Number → Number → Type 0 where
  numbers : (v : ℤ) (j : ℕ) → P j → NumberPlaced f g P (Some (v, f j)) (Some (v, g j))
  bad : NumberPlaced f g P None None

pub never_at : {i : ℕ} → None ≡ Some i → ⊥
never_at e = impossible cc

-- a place behind two readings, one after the other: the first has one
pub went : (x : Next) (f : ℕ → Next) (k : ℕ) → and_then x f ≡ Some k → (i : ℕ) × (x ≡ Some i)
went (Some i) f k e = (i, refl)
went None f k e = absurd (never_at e)

-- two choices by one test
pub choose : {A : Type 0} (R : A → A → Type 0) (x : Bool) {a b c d : A} → (x ≡ true → R a b) → (x ≡ false → R c d) → R (if x then a else c) (if x then b else d)
choose R true f g = f refl
choose R false f g = g refl

-- two readings at one place
pub unmoved : {f : ℕ → ℕ} {P : ℕ → Type 0} {x y : Next} → Placed f f P x y → x ≡ y
unmoved (both j l) = refl
unmoved neither = refl

module _ {f g : ℕ → ℕ} {P : ℕ → Type 0} where
  pub moved_then : {Q : ℕ → Type 0} {a b : Next} (h k : ℕ → Next) → Placed f g P a b → ((j : ℕ) → P j → Placed f g Q (h (f j)) (k (g j)))
      → Placed f g Q (and_then a h) (and_then b k)
  moved_then h k (both j l) r = r j l
  moved_then h k neither r = neither

  moved_plain : {a b : Digits} → DigitsPlaced f g P a b → NumberPlaced f g P (plain a) (plain b)
  moved_plain (naturals v j l) = numbers (pos v) j l
  moved_plain none = bad

  moved_negative : {a b : Digits} → DigitsPlaced f g P a b → NumberPlaced f g P (negative a) (negative b)
  moved_negative (naturals v j l) = choose (NumberPlaced f g P) (eqb v 0) (λ e. bad) (λ e. numbers (neg_ℤ (pos v)) j l)
  moved_negative none = bad

  moved_next : {a b : Number} → NumberPlaced f g P a b → Placed f g P (next_of a) (next_of b)
  moved_next (numbers v j l) = both j l
  moved_next bad = neither

  moved_value : {a b : Number} → NumberPlaced f g P a b → value_of a ≡ value_of b
  moved_value (numbers v j l) = refl
  moved_value bad = refl

-- ---- bytes that end no line
not_closing : (b : ℕ) → (b ≡ 256 → ⊥) → (b ≡ 10 → ⊥) → closing b ≡ false
not_closing b h k = rw (ne_eqb b 256 h, ne_eqb b 10 k)

digit_open : (b : ℕ) → (digit_of b ≡ 10 → ⊥) → closing b ≡ false
digit_open b h = not_closing b (λ e. h (ap digit_of e)) (λ e. h (ap digit_of e))

-- no key ends a line
abbrev pub printed : List ℕ → Bool
printed [] = true
printed (k ∷ ks) = not (closing k) && printed ks

printed_first : (k : ℕ) (ks : List ℕ) → printed (k ∷ ks) ≡ true → closing k ≡ false
printed_first k ks e = not-true (closing k) (and_left (not (closing k)) (printed ks) e)

pub key_printed : (k : ℕ) → printed (key_of k) ≡ true
key_printed k = table_all printed keys k refl refl

-- no key is longer than eight bytes
pub key_short : (k : ℕ) → length (key_of k) ≤ 8
key_short k = leb-true (length (key_of k)) 8 (table_all (λ key. leb (length key) 8) keys k refl refl)

-- ---- a stretch of bytes that two texts share: its i-th byte stands at f i in the one and at g i in the other. `In w i` says that from the
-- i-th on as many as w may be read: such a byte is the same in both, and behind one that ends no line a byte less may be read

pub record Stretch (s t : List ℕ) (f g : ℕ → ℕ) (In : ℕ → ℕ → Type 0) : Type 0 where
  pub next : (i : ℕ) → (f (i + 1) ≡ f i + 1) × (g (i + 1) ≡ g i + 1)
  pub fewer : (v w i : ℕ) → v ≤ w → In w i → In v i
  pub same : (w i : ℕ) → 0 < w → In w i → byte_at s (f i) ≡ byte_at t (g i)
  pub on : (v w i : ℕ) → v < w → In w i → closing (byte_at s (f i)) ≡ false → In v (i + 1)

-- the readings, from the i-th byte on: a number has at most 8 bytes, a field 16
module _ {s t : List ℕ} {f g : ℕ → ℕ} {In : ℕ → ℕ → Type 0} (o : Stretch s t f g In) where
  -- ---- digits and numbers
  pub digit_placed : (w i : ℕ) → 0 < w → In w i → digit_at t (g i) ≡ digit_at s (f i)
  unfolding digit_at
  digit_placed w i u h = ap digit_of (sym (o.same w i u h))

  pub digit_further : (v w i : ℕ) → v < w → In w i → (digit_at s (f i) ≡ 10 → ⊥) → In v (i + 1)
  unfolding digit_at
  digit_further v w i u h e = o.on v w i u h (digit_open (byte_at s (f i)) e)

  more_placed : (left n v w i : ℕ) → v + left ≤ w → In w i → DigitsPlaced f g (In v) (more_digits left n s (f i)) (more_digits left n t (g i))
  unfolding more_digits
  more_placed zero n v w i u h = naturals n i (o.fewer v w i (omega arith) h)
  more_placed (suc left) n v w i u h =
      rw (digit_placed w i (omega arith) h, ← (o.next i).0, ← (o.next i).1)
      (choose (DigitsPlaced f g (In v)) (eqb (digit_at s (f i)) 10)
      (λ e. naturals n i (o.fewer v w i (omega arith) h))
      (λ e. more_placed left _ v (v + left) (i + 1) (omega arith) (digit_further (v + left) w i (omega arith) h (eqb-false _ _ e))))

  natural_placed : (v w i : ℕ) → v + 7 ≤ w → In w i → DigitsPlaced f g (In v) (natural_at s (f i)) (natural_at t (g i))
  unfolding natural_at
  natural_placed v w i u h =
      rw (digit_placed w i (omega arith) h, ← (o.next i).0, ← (o.next i).1)
      (choose (DigitsPlaced f g (In v)) (eqb (digit_at s (f i)) 10)
      (λ e. none)
      (λ e. choose (DigitsPlaced f g (In v)) (eqb (digit_at s (f i)) 0)
      (λ z. naturals 0 (i + 1) (digit_further v w i (omega arith) h (eqb-false _ _ e)))
      (λ z. more_placed 6 _ v (v + 6) (i + 1) (omega arith) (digit_further (v + 6) w i (omega arith) h (eqb-false _ _ e)))))

  minus_further : (v w i : ℕ) → v < w → In w i → eqb (byte_at s (f i)) 45 ≡ true → In v (i + 1)
  minus_further v w i u h e = o.on v w i u h (ap closing (eqb-true (byte_at s (f i)) 45 e))

  number_placed : (v w i : ℕ) → v + 8 ≤ w → In w i → NumberPlaced f g (In v) (number_at s (f i)) (number_at t (g i))
  unfolding number_at
  number_placed v w i u h =
      rw (← o.same w i (omega arith) h, ← (o.next i).0, ← (o.next i).1)
      (choose (NumberPlaced f g (In v)) (eqb (byte_at s (f i)) 45)
      (λ e. moved_negative (natural_placed v (v + 7) (i + 1) (omega arith) (minus_further (v + 7) w i (omega arith) h e)))
      (λ e. moved_plain (natural_placed v w i (omega arith) h)))

  -- ---- keys and fields
  pub key_placed : (key : List ℕ) → printed key ≡ true → (v w i : ℕ) → v + length key ≤ w → In w i
      → Placed f g (In v) (key_at key s (f i)) (key_at key t (g i))
  unfolding key_at
  key_placed [] e v w i u h = both i (o.fewer v w i (omega arith) h)
  key_placed (k ∷ ks) e v w i u h =
      rw (← o.same w i (omega arith) h, ← (o.next i).0, ← (o.next i).1)
      (choose (Placed f g (In v)) (eqb (byte_at s (f i)) k)
      (λ z. key_placed ks (and_right (not (closing k)) (printed ks) e) v (v + length ks) (i + 1) (omega arith)
      (o.on (v + length ks) w i (omega arith) h (ap closing (eqb-true (byte_at s (f i)) k z) ∙ printed_first k ks e)))
      (λ z. neither))

  or_placed : {a b : Number} (v w i : ℕ) → v < w → In w i → NumberPlaced f g (In v) a b
      → NumberPlaced f g (In v) (or_missing a s (f i)) (or_missing b t (g i))
  or_placed v w i u h (numbers n j l) = numbers n j l
  or_placed v w i u h bad =
      rw (← o.same w i (omega arith) h, ← (o.next i).0, ← (o.next i).1)
      (choose (NumberPlaced f g (In v)) (eqb (byte_at s (f i)) 45) (λ e. numbers missing (i + 1) (minus_further v w i u h e)) (λ e. bad))

  value_placed : (k v w i : ℕ) → v + 8 ≤ w → In w i → NumberPlaced f g (In v) (value_at k s (f i)) (value_at k t (g i))
  unfolding value_at
  value_placed k v w i u h =
      let n = number_placed v w i u h in
      choose (NumberPlaced f g (In v)) (may_miss k) (λ e. or_placed v w i (omega arith) h n) (λ e. n)

  field_placed : (k v w i : ℕ) → v + 16 ≤ w → In w i → NumberPlaced f g (In v) (field_at k s (f i)) (field_at k t (g i))
  unfolding field_at
  field_placed k v w i u h = go (key_placed (key_of k) (key_printed k) (v + 8) w i (omega (arith, key_short k)) h)
    where
      go : {a b : Next} → Placed f g (In (v + 8)) a b → NumberPlaced f g (In v) (value_after k s a) (value_after k t b)
      go (both j l) = value_placed k v (v + 8) j (omega arith) l
      go neither = bad

  pub fields_placed : (first n v w i : ℕ) → v + n * 16 ≤ w → In w i → Placed f g (In v) (after_fields first n s (f i)) (after_fields first n t (g i))
  unfolding after_fields
  fields_placed first zero v w i u h = both i (o.fewer v w i (omega arith) h)
  fields_placed first (suc n) v w i u h =
      moved_then _ _ (fields_placed first n (v + 16) w i (omega arith) h) (λ j l. moved_next (field_placed (first + n) v (v + 16) j (omega arith) l))

  pub values_placed : (first n w i : ℕ) → n * 16 + 16 ≤ w → In w i → value_in first s (f i) n ≡ value_in first t (g i) n
  unfolding value_in
  values_placed first n w i u h = go (fields_placed first n 16 w i (omega arith) h)
    where
      go : {a b : Next} → Placed f g (In 16) a b → value_from (first + n) s a ≡ value_from (first + n) t b
      go (both j l) = moved_value (field_placed (first + n) 0 16 j (omega arith) l)
      go neither = refl

  -- ---- the end of the line
  pub feed_placed : {Q : ℕ → Type 0} (w i : ℕ) → 0 < w → In w i → (byte_at s (f i) ≡ 10 → Q (i + 1)) → Placed f g Q (line_feed s (f i)) (line_feed t (g i))
  unfolding key_at
  feed_placed {Q} w i u h r =
      rw (← o.same w i u h, ← (o.next i).0, ← (o.next i).1)
      (choose (Placed f g Q) (eqb (byte_at s (f i)) 10) (λ e. both (i + 1) (r (eqb-true _ _ e))) (λ e. neither))

  pub line_placed : {Q : ℕ → Type 0} (first n v w i : ℕ) → v + n * 16 + 1 ≤ w → In w i → ((j : ℕ) → In (v + 1) j → byte_at s (f j) ≡ 10 → Q (j + 1))
      → Placed f g Q (line_at first n s (f i)) (line_at first n t (g i))
  unfolding line_at
  line_placed first n v w i u h r = moved_then _ _ (fields_placed first n (v + 1) w i (omega arith) h) (λ j l. feed_placed (v + 1) j (omega arith) l (r j l))

-- ---- a stretch up to a line's end: whatever is read of a line stays in front of that

-- the bytes from p of s and from q of t on are the same up to the m-th, which ends a line
pub record Along (s t : List ℕ) (p q m : ℕ) : Type 0 where
  pub same : (i : ℕ) → i ≤ m → byte_at s (p + i) ≡ byte_at t (q + i)
  pub stop : closing (byte_at s (p + m)) ≡ true

abbrev pub Moved : (p q m : ℕ) → Next → Next → Type 0
Moved p q m = Placed (λ j. p + j) (λ j. q + j) (λ j. j ≤ m)

pub unmoved_within : {m : ℕ} {x y : Next} (k : ℕ) → Moved 0 0 m x y → x ≡ Some k → k ≤ m
unmoved_within k (both j l) e = let same : 0 + j ≡ k = cc in omega arith
unmoved_within k neither e = absurd (never_at e)

module _ {s t : List ℕ} {p q m : ℕ} (o : Along s t p q m) where
  -- a byte that ends no line stands before the m-th
  goes_on : (i : ℕ) → i ≤ m → closing (byte_at s (p + i)) ≡ false → i + 1 ≤ m
  goes_on i h e = go (dec_lt i m)
    where
      go : Dec (i < m) → i + 1 ≤ m
      go (yes l) = omega arith
      go (no l) =
          let last : i ≡ m = omega arith in
          absurd (false≢true (sym e ∙ ap (λ (n : ℕ). closing (byte_at s (p + n))) last ∙ o.stop))

  pub stretch : Stretch s t (λ i. p + i) (λ i. q + i) (λ w i. i ≤ m)
  stretch = record {
    next = λ i. (sym (add_assoc p i 1), sym (add_assoc q i 1));
    fewer = λ v w i u h. h;
    same = λ w i u h. o.same i h;
    on = λ v w i u h e. goes_on i h e;
  }

  pub digit_same : (i : ℕ) → i ≤ m → digit_at t (q + i) ≡ digit_at s (p + i)
  digit_same i h = digit_placed stretch 1 i (omega arith) h

  pub digit_on_lem : (i : ℕ) → i ≤ m → (digit_at s (p + i) ≡ 10 → ⊥) → i + 1 ≤ m
  digit_on_lem i h e = digit_further stretch 0 1 i (omega arith) h e

  pub key_along : (key : List ℕ) → printed key ≡ true → (i : ℕ) → i ≤ m → Moved p q m (key_at key s (p + i)) (key_at key t (q + i))
  key_along key e i h = key_placed stretch key e 0 (length key) i (omega arith) h

  pub fields_along : (first n i : ℕ) → i ≤ m → Moved p q m (after_fields first n s (p + i)) (after_fields first n t (q + i))
  fields_along first n i h = fields_placed stretch first n 0 (n * 16) i (omega arith) h

  pub values_along : (first n i : ℕ) → i ≤ m → value_in first s (p + i) n ≡ value_in first t (q + i) n
  values_along first n i h = values_placed stretch first n (n * 16 + 16) i (omega arith) h
