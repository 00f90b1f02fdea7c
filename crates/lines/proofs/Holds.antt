-- A text that stands in another at a place: its parts, its keys and its numbers are read.
use mathlib.Core.Path.{◌≡◌, ap, ◌∙◌}
use mathlib.Core.Bool.{true}
use mathlib.Core.List.{List, [], ◌∷◌, ◌++◌}
use Prim.Native.Nat.{ℕ, zero, suc, ◌+◌, ◌-◌, ◌*◌, ◌/◌, ◌%◌, ◌^◌, ◌≤◌, ◌<◌}
use native.Mathlib.Nat.{add-zero, add_assoc, pow-suc}
use native.Mathlib.Omega.{arith}
use borrow.Author.Tests.{eq-eqb, ne_eqb, le-ltb, ltb-true, ltb-false}
use lib.Dec.{ltb}
use lib.IntN.{ℤ, pos, negsuc}
use lib.ListN.{length, length-append}
use lib.Seq.{append_snoc, get_or-append_seam}
use Rattle.std.specs.Prelude.{if◌then◌else◌, None, Some}
use Rattle.exact.specs.Whole.{Within}
use Rattle.exact.proofs.Apart.{impossible}
use Rattle.exact.proofs.Parts.{by_test}
use Rattle.text.specs.Text.{byte_at, key_at}
use Rattle.text.specs.Number.{digit_of, digit_at, more_digits, natural_at, number_at, missing}
use Rattle.keys.specs.Keys.{may_miss}
use Rattle.lines.specs.Line.{or_missing, value_at}
use Rattle.text.specs.Decimal.{natural, number}
use Rattle.text.proofs.Numbers.{more_stops, more_goes_on}

abbrev pub Holds : List ℕ → ℕ → List ℕ → Type 0
Holds s at [] = Unit {0}
Holds s at (b ∷ x) = (byte_at s at ≡ b) × Holds s (at + 1) x

-- ---- its parts
pub holds_split : (s : List ℕ) (at : ℕ) (x y : List ℕ) → Holds s at (x ++ y) → Holds s at x × Holds s (at + length x) y
holds_split s at [] y h = (tt, rw add-zero h)
holds_split s at (b ∷ x) y h =
    let r = holds_split s (at + 1) x y h.1 in
    let e : at + 1 + length x ≡ at + suc (length x) = omega arith in
    ((h.0, r.0), rw e at r.1)

pub after_both : (at : ℕ) (x y : List ℕ) → at + length x + length y ≡ at + length (x ++ y)
after_both at x y = rw length-append (add_assoc at _ _)

pub holds_end : (a x : List ℕ) → Holds (a ++ x) (length a) x
holds_end a [] = tt
holds_end a (b ∷ x) =
    let r = holds_end (a ++ (b ∷ [])) x in
    (get_or-append_seam a b x 256, rw (append_snoc a b x, length-append a (b ∷ [])) at r)

-- ---- a key
pub holds_key : (key s : List ℕ) (at : ℕ) → Holds s at key → key_at key s at ≡ Some (at + length key)
unfolding key_at
holds_key [] s at h = rw add-zero
holds_key (k ∷ ks) s at h =
    let e : at + 1 + length ks ≡ at + suc (length ks) = omega arith in
    rw (eq-eqb (byte_at s at) k h.0) (holds_key ks s (at + 1) h.1 ∙ ap Some e)

-- ---- a number
digit_said : (d : ℕ) → d < 10 → digit_of (48 + d) ≡ d
digit_said d h = rw (le-ltb (48 + d) 48 (omega arith), le-ltb 57 (48 + d) (omega arith)) (omega arith)

module _ (s : List ℕ) where
  -- its digits are read, whatever follows
  record Digits-read (left n at : ℕ) (x : List ℕ) : Type 0 where
    reads : natural_at s at ≡ more_digits (7 - length x) n s (at + length x)
    short : length x ≤ left

  digit_here : (at d : ℕ) → d < 10 → byte_at s at ≡ 48 + d → digit_at s at ≡ d
  unfolding digit_at
  digit_here at d h e = ap digit_of e ∙ digit_said d h

  first_digit : (left n at : ℕ) → 0 < n → n < 10 → byte_at s at ≡ 48 + n → Digits-read (suc left) n at ((48 + n) ∷ [])
  unfolding natural_at
  first_digit left n at p h e =
      let d = digit_here at n h e in
      record {
        reads = rw (ne_eqb (digit_at s at) 10 (λ z. omega arith), ne_eqb (digit_at s at) 0 (λ z. omega arith), d);
        short = omega arith;
      }

  next_digit : (left n at : ℕ) (x : List ℕ) → left < 7 → byte_at s (at + length x) ≡ 48 + n % 10 → Digits-read left (n / 10) at x
      → Digits-read (suc left) n at (x ++ ((48 + n % 10) ∷ []))
  next_digit left n at x h e r =
      let d = digit_here (at + length x) (n % 10) (omega arith) e in
      let l : length (x ++ ((48 + n % 10) ∷ [])) ≡ length x + 1 = length-append x _ in
      let u = r.short in
      let w : 7 - length x - 1 ≡ 7 - (length x + 1) = omega arith in
      let all : n / 10 * 10 + n % 10 ≡ n = omega arith in
      record {
        reads = r.reads ∙ more_goes_on (7 - length x) (n / 10) s (at + length x) (omega arith) (λ z. omega arith) ∙ rw (d, all, w, l, add_assoc at (length x) 1);
        short = omega arith;
      }

  natural_reads : (left n at : ℕ) → left ≤ 7 → 0 < n → n < 10 ^ left → Holds s at (natural left n) → Digits-read left n at (natural left n)
  unfolding natural
  natural_reads zero n at h p b = absurd (omega arith)
  natural_reads (suc left) n at h p b =
      by_test (ltb n 10) (λ t. Holds s at (if t then (48 + n) ∷ [] else natural left (n / 10) ++ ((48 + n % 10) ∷ [])) → Digits-read (suc left) n at (if t then (48 + n) ∷ [] else natural left (n / 10) ++ ((48 + n % 10) ∷ [])))
      (λ t o. first_digit left n at p (ltb-true n 10 t) o.0)
      (λ t o.
      let l = ltb-false n 10 t in
      let w : 10 ^ suc left ≡ 10 ^ left * 10 = pow-suc 10 left in
      let r = holds_split s at (natural left (n / 10)) _ o in
      next_digit left n at (natural left (n / 10)) h r.1.0 (natural_reads left (n / 10) at (omega arith) (omega arith) (omega arith) r.0))

  -- and no digit follows
  natural_said : (n at : ℕ) → 0 < n → n < 10000000 → Holds s at (natural 7 n) → digit_at s (at + length (natural 7 n)) ≡ 10
      → natural_at s at ≡ Some (n, at + length (natural 7 n))
  natural_said n at p b o e = (natural_reads 7 n at (omega arith) p (omega arith) o).reads ∙ more_stops _ n s _ e

  zero_said : (at : ℕ) → Holds s at (natural 7 0) → natural_at s at ≡ Some (0, at + length (natural 7 0))
  unfolding natural_at natural
  zero_said at o = rw (digit_here at 0 (omega arith) o.0)

  no_minus : (at v next : ℕ) → natural_at s at ≡ Some (v, next) → byte_at s at ≡ 45 → ⊥
  unfolding natural_at digit_at
  no_minus at v next e m =
      let q : natural_at s at ≡ None = rw m in
      impossible cc

-- the text x behind key k says z
abbrev pub Says : ℕ → List ℕ → ℤ → Type 0
Says k x z = (s : List ℕ) (at : ℕ) → Holds s at x → digit_at s (at + length x) ≡ 10 → value_at k s at ≡ Some (z, at + length x)

value_said : (k : ℕ) (s : List ℕ) (at : ℕ) (z : ℤ) (next : ℕ) → number_at s at ≡ Some (z, next) → value_at k s at ≡ Some (z, next)
unfolding value_at
value_said k s at z next e = by_test (may_miss k) (λ b. (if b then or_missing (number_at s at) s at else number_at s at) ≡ Some (z, next)) (λ t. rw e) (λ t. e)

module _ (s : List ℕ) (at : ℕ) where
  positive_said : (n next : ℕ) → natural_at s at ≡ Some (n, next) → number_at s at ≡ Some (pos n, next)
  unfolding number_at
  positive_said n next e = rw (ne_eqb (byte_at s at) 45 (no_minus s at n next e), e)

  negative_said : (n next : ℕ) → byte_at s at ≡ 45 → natural_at s (at + 1) ≡ Some (suc n, next) → number_at s at ≡ Some (negsuc n, next)
  unfolding number_at
  negative_said n next m e = rw (eq-eqb (byte_at s at) 45 m, e, ne_eqb (suc n) 0 (λ z. omega arith))

pub number_said : (k : ℕ) (z : ℤ) → Within 9999999 z → Says k (number z) z
number_said k (pos n) w s at o e = value_said k s at (pos n) _ (positive_said s at n _ (go n w o e))
  where
    go : (n : ℕ) → Within 9999999 (pos n) → Holds s at (natural 7 n) → digit_at s (at + length (natural 7 n)) ≡ 10 → natural_at s at ≡ Some (n, at + length (natural 7 n))
    go zero w o e = zero_said s at o
    go (suc n) w o e = natural_said s (suc n) at (omega arith) (omega arith) o e
number_said k (negsuc n) w s at o e =
    let q : at + 1 + length (natural 7 (suc n)) ≡ at + suc (length (natural 7 (suc n))) = omega arith in
    value_said k s at (negsuc n) _ (negative_said s at n _ o.0 (natural_said s (suc n) (at + 1) (omega arith) (omega arith) o.1 (rw q e) ∙ ap (λ (i : ℕ). Some (suc n, i)) q))

-- a minus alone, where a number may be missing
pub missing_said : (k : ℕ) → may_miss k ≡ true → Says k (45 ∷ []) missing
unfolding value_at number_at natural_at
missing_said k may s at o e = let m = eq-eqb (byte_at s at) 45 o.0 in rw (may, m, e, m)
