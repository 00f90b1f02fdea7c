-- A number that is read is spelt as it is printed.
use mathlib.Core.Path.{◌≡◌, refl, sym, ap, ap₂, ◌∙◌}
use mathlib.Core.Bool.{Bool, true, false}
use mathlib.Core.List.{List, [], ◌∷◌, ◌++◌, append_assoc}
use Prim.Native.Nat.{ℕ, zero, suc, ◌+◌, ◌-◌, ◌*◌, ◌/◌, ◌%◌, ◌^◌, ◌≤◌, ◌<◌}
use native.Mathlib.Nat.{not-suc-le-zero, le_of_suc-le-suc, pow-suc, pow-le-pow_right}
use native.Mathlib.Omega.{arith}
use borrow.Author.Tests.{eqb-true, eqb-false, lt-ltb, le-ltb, ltb-false}
use lib.Dec.{eqb, ltb, lit<}
use lib.IntN.{ℤ, pos, neg_ℤ}
use lib.ListN.{drop}
use Rattle.std.specs.Prelude.{if◌then◌else◌, None, Some}
use Rattle.exact.specs.Whole.{Within}
use Rattle.exact.proofs.Apart.{impossible}
use Rattle.exact.proofs.Parts.{by_test}
use Rattle.text.specs.Text.{byte_at}
use Rattle.text.specs.Number.{digit_of, digit_at, more_digits, natural_at, plain, negative, number_at, Digits, Number}
use Rattle.text.specs.Decimal.{natural, number}
use Rattle.spelling.proofs.Pairs.{same_said, same_behind}
use Rattle.spelling.specs.Spelt.{Spelt}
use Rattle.spelling.proofs.Places.{both_spelt, byte_spelt}

-- ---- a digit
abbrev IsDigit : (b d : ℕ) → Type 0
IsDigit b d = (d ≡ 10 → ⊥) → (d < 10) × (b ≡ 48 + d)

digit_byte : (b : ℕ) → IsDigit b (digit_of b)
digit_byte b = go (ltb b 48) (ltb 57 b) refl refl
  where
    go : (below above : Bool) → ltb b 48 ≡ below → ltb 57 b ≡ above → IsDigit b (if below then 10 else (if above then 10 else b - 48))
    go true above p q n = absurd (n refl)
    go false true p q n = absurd (n refl)
    go false false p q n = let l = ltb-false b 48 p in let u = ltb-false 57 b q in (omega arith, omega arith)

pub digit_small : (s : List ℕ) (at : ℕ) → (digit_at s at ≡ 10 → ⊥) → digit_at s at < 10
unfolding digit_at
digit_small s at n = (digit_byte (byte_at s at) n).0

pub digit_spelt : (s : List ℕ) (at : ℕ) → (digit_at s at ≡ 10 → ⊥) → Spelt s at ((48 + digit_at s at) ∷ []) (at + 1)
unfolding digit_at
digit_spelt s at n = let d = digit_byte (byte_at s at) n in byte_spelt s at (48 + digit_of (byte_at s at)) d.1 (omega arith)

-- ---- the digits x, `used` of them, are all that is printed of v
abbrev Printed : (used v : ℕ) → List ℕ → Type 0
Printed used v x = (m : ℕ) → used ≤ m → natural m v ≡ x

one_printed : (d : ℕ) → d < 10 → Printed 1 d ((48 + d) ∷ [])
unfolding natural
one_printed d h zero u = absurd (not-suc-le-zero u)
one_printed d h (suc m) u = rw (lt-ltb d 10 h)

more_printed : (used v d : ℕ) (x : List ℕ) → 0 < v → d < 10 → Printed used v x → Printed (suc used) (v * 10 + d) (x ++ ((48 + d) ∷ []))
unfolding natural
more_printed used v d x p h o zero u = absurd (not-suc-le-zero u)
more_printed used v d x p h o (suc m) u =
    let front : (v * 10 + d) / 10 ≡ v = omega arith in
    let last : (v * 10 + d) % 10 ≡ d = omega arith in
    rw (le-ltb (v * 10 + d) 10 (omega arith), front, last, o m (le_of_suc-le-suc u))

module _ (s : List ℕ) where
  -- the digits x, and those that stand from `at` on, up to `next`, are all that is printed of w
  record DigitsSpelt (x : List ℕ) (at w next : ℕ) : Type 0 where
    text : x ++ drop at s ≡ natural 7 w ++ drop next s
    small : w < 10000000

  digits_stop : (used v at w next : ℕ) (x : List ℕ) → used ≤ 7 → v < 10 ^ used → Printed used v x → ◌≡◌ {A = Digits} (Some (v, at)) (Some (w, next)) → DigitsSpelt x at w next
  digits_stop used v at w next x u b o e =
      let p : v ≡ w = same_said e in
      let q : at ≡ next = same_behind e in
      let most : 10 ^ used ≤ 10 ^ 7 = pow-le-pow_right (lit< tt) u in
      record {
        text = ap (λ (y : List ℕ). y ++ drop at s) (sym (o 7 u)) ∙ ap₂ (λ (w next : ℕ). natural 7 w ++ drop next s) p q;
        small = omega arith;
      }

  digits_spelt : (left used v at w next : ℕ) (x : List ℕ) → 0 < v → used + left ≤ 7 → v < 10 ^ used → Printed used v x → more_digits left v s at ≡ Some (w, next)
      → DigitsSpelt x at w next
  unfolding more_digits
  digits_spelt zero used v at w next x p u b o = λ e. digits_stop used v at w next x (omega arith) b o e
  digits_spelt (suc left) used v at w next x p u b o =
      by_test (eqb (digit_at s at) 10) (λ t. (if t then Some (v, at) else more_digits left (v * 10 + digit_at s at) s (at + 1)) ≡ Some (w, next) → DigitsSpelt x at w next)
      (λ t e. digits_stop used v at w next x (omega arith) b o e)
      (λ t e.
      let d = digit_at s at in
      let n = eqb-false d 10 t in
      let h = digit_small s at n in
      let power : 10 ^ suc used ≡ 10 ^ used * 10 = pow-suc 10 used in
      let r = digits_spelt left (suc used) (v * 10 + d) (at + 1) w next (x ++ ((48 + d) ∷ [])) (omega arith) (omega arith) (omega arith) (more_printed used v d x p h o) e in
      record {
        text = ap (λ (y : List ℕ). x ++ y) (digit_spelt s at n).bytes ∙ sym (append_assoc x ((48 + d) ∷ []) (drop (at + 1) s)) ∙ r.text;
        small = r.small;
      })

  -- ---- a zero alone, or digits that begin with none
  first_spelt : (at w next : ℕ) → (digit_at s at ≡ 10 → ⊥) → DigitsSpelt ((48 + digit_at s at) ∷ []) (at + 1) w next → DigitsSpelt [] at w next
  first_spelt at w next n r = record { text = (digit_spelt s at n).bytes ∙ r.text; small = r.small }

  natural_spelt : (at w next : ℕ) → natural_at s at ≡ Some (w, next) → DigitsSpelt [] at w next
  unfolding natural_at
  natural_spelt at w next =
      let d = digit_at s at in
      by_test (eqb d 10) (λ t. (if t then None else (if eqb d 0 then Some (0, at + 1) else more_digits 6 d s (at + 1))) ≡ Some (w, next) → DigitsSpelt [] at w next)
      (λ t e. impossible cc)
      (λ t.
      let n = eqb-false d 10 t in
      let h = digit_small s at n in
      by_test (eqb d 0) (λ z. (if z then Some (0, at + 1) else more_digits 6 d s (at + 1)) ≡ Some (w, next) → DigitsSpelt [] at w next)
      (λ z e. first_spelt at w next n (digits_stop 1 d (at + 1) w next _ (omega arith) (omega arith) (one_printed d h) (ap (λ (v : ℕ). Some (v, at + 1)) (eqb-true d 0 z) ∙ e)))
      (λ z e. let o = eqb-false d 0 z in first_spelt at w next n (digits_spelt 6 1 d (at + 1) w next _ (omega arith) (omega arith) (omega arith) (one_printed d h) e)))

  -- ---- a number
  pub record NumberSpelt (at : ℕ) (z : ℤ) (next : ℕ) : Type 0 where
    pub text : Spelt s at (number z) next
    pub small : Within 9999999 z

  module _ (at : ℕ) (z : ℤ) (next : ℕ) where
    plain_spelt : (d : Digits) → natural_at s at ≡ d → plain d ≡ Some (z, next) → NumberSpelt at z next
    plain_spelt (Some (v, k)) e f =
        let p : pos v ≡ z = same_said f in
        let q : k ≡ next = same_behind f in
        let r = natural_spelt at v k e in
        let is : NumberSpelt at (pos v) k = record { text = record { bytes = r.text }; small = let u = r.small in omega arith } in
        rw (← p, ← q) is
    plain_spelt None e f = impossible cc

    minus_spelt : byte_at s at ≡ 45 → (v k : ℕ) → natural_at s (at + 1) ≡ Some (v, k) → (v ≡ 0 → ⊥) → NumberSpelt at (neg_ℤ (pos v)) k
    minus_spelt m zero k e n = absurd (n refl)
    minus_spelt m (suc v) k e n =
        let r = natural_spelt (at + 1) (suc v) k e in
        let digits : Spelt s (at + 1) (natural 7 (suc v)) k = record { bytes = r.text } in
        record { text = both_spelt (byte_spelt s at 45 m (lit< tt)) digits; small = let u = r.small in omega arith }

    negative_spelt : byte_at s at ≡ 45 → (d : Digits) → natural_at s (at + 1) ≡ d → negative d ≡ Some (z, next) → NumberSpelt at z next
    negative_spelt m (Some (v, k)) e =
        by_test (eqb v 0) (λ t. ◌≡◌ {A = Number} (if◌then◌else◌ {A = Number} t None (Some (neg_ℤ (pos v), k))) (Some (z, next)) → NumberSpelt at z next)
        (λ t f. impossible cc)
        (λ t f.
        let p : neg_ℤ (pos v) ≡ z = same_said f in
        let q : k ≡ next = same_behind f in
        let is = minus_spelt m v k e (eqb-false v 0 t) in
        rw (← p, ← q) is)
    negative_spelt m None e = λ f. impossible cc

    pub number_spelt : number_at s at ≡ Some (z, next) → NumberSpelt at z next
    unfolding number_at
    number_spelt =
        by_test (eqb (byte_at s at) 45) (λ t. (if t then negative (natural_at s (at + 1)) else plain (natural_at s at)) ≡ Some (z, next) → NumberSpelt at z next)
        (λ t e. negative_spelt (eqb-true (byte_at s at) 45 t) (natural_at s (at + 1)) refl e)
        (λ t e. plain_spelt (natural_at s at) refl e)
