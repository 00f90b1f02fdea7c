-- Fields and lines that are read are spelt as they are printed.
use mathlib.Core.Path.{◌≡◌, refl, ap, ◌∙◌}
use mathlib.Core.List.{List, [], ◌++◌}
use Prim.Native.Nat.{ℕ, zero, suc, ◌+◌, ◌<◌}
use native.Mathlib.Omega.{arith}
use borrow.Author.Tests.{eqb-true, ne_eqb}
use lib.Dec.{eqb, lit<}
use lib.IntN.{ℤ}
use lib.ListN.{get_or}
use Rattle.std.specs.Prelude.{if◌then◌else◌, None, Some}
use Rattle.exact.specs.Whole.{Within}
use Rattle.exact.proofs.Apart.{impossible}
use Rattle.exact.proofs.Parts.{by_test, false-eq_z}
use Rattle.exact.proofs.Sums.{up_at}
use Rattle.text.specs.Text.{byte_at, key_at, Next}
use Rattle.text.specs.Number.{missing, number_at, Number}
use Rattle.text.specs.Decimal.{number}
use Rattle.keys.specs.Keys.{key_of, EOP, UOL, may_miss}
use Rattle.lines.specs.Line.{or_missing, value_at, value_after, field_at, next_of, value_of, and_then, after_fields, value_from, value_in, line_at}
use Rattle.lines.specs.Print.{fields, line}
use Rattle.lines.proofs.Along.{never_at}
use Rattle.records.specs.Records.{maybe_of}
use Rattle.sheet.specs.Print.{maybe_text}
use Rattle.spelling.proofs.Pairs.{same_said, same_behind}
use Rattle.spelling.specs.Spelt.{Spelt}
use Rattle.spelling.specs.Value.{value_text, value_texts}
use Rattle.spelling.proofs.Places.{none_spelt, both_spelt, byte_spelt, key_spelt, fed_spelt}
use Rattle.spelling.proofs.Digits.{number_spelt}

never_got : {z : ℤ} {next : ℕ} → ◌≡◌ {A = Number} None (Some (z, next)) → ⊥
never_got e = impossible cc

-- ---- a value
maybe_number : (z : ℤ) → Within 9999999 z → maybe_text (maybe_of z) ≡ number z
maybe_number z w = rw (false-eq_z z missing (λ e. let q = rw e at w in omega arith))

module _ (s : List ℕ) (at : ℕ) (z : ℤ) (next : ℕ) where
  maybe_spelt : (n : Number) → number_at s at ≡ n → or_missing n s at ≡ Some (z, next) → Spelt s at (maybe_text (maybe_of z)) next
  maybe_spelt (Some (v, k)) e = λ f. let r = number_spelt s at z next (e ∙ f) in rw (maybe_number z r.small) r.text
  maybe_spelt None e =
      by_test (eqb (byte_at s at) 45) (λ t. ◌≡◌ {A = Number} (if◌then◌else◌ {A = Number} t (Some (missing, at + 1)) None) (Some (z, next)) → Spelt s at (maybe_text (maybe_of z)) next)
      (λ t f.
      let p : missing ≡ z = same_said f in
      let q : at + 1 ≡ next = same_behind f in
      rw (← p, ← q) (byte_spelt s at 45 (eqb-true (byte_at s at) 45 t) (lit< tt)))
      (λ t f. absurd (never_got f))

  value_spelt : (k : ℕ) → value_at k s at ≡ Some (z, next) → Spelt s at (value_text k z) next
  unfolding value_at value_text
  value_spelt k =
      by_test (may_miss k) (λ t. (if t then or_missing (number_at s at) s at else number_at s at) ≡ Some (z, next) → Spelt s at (if t then maybe_text (maybe_of z) else number z) next)
      (λ t. maybe_spelt (number_at s at) refl)
      (λ t e. (number_spelt s at z next e).text)

pub value_number : (k : ℕ) (z : ℤ) → (k ≡ EOP → ⊥) → (k ≡ UOL → ⊥) → value_text k z ≡ number z
unfolding value_text
value_number k z m n = rw (ne_eqb k EOP m, ne_eqb k UOL n)

-- ---- a key and its value
field_spelt : (k : ℕ) (s : List ℕ) (at : ℕ) (z : ℤ) (next : ℕ) → field_at k s at ≡ Some (z, next) → Spelt s at (key_of k ++ value_text k z) next
unfolding field_at
field_spelt k s at z next = go (key_at (key_of k) s at) refl
  where
    go : (a : Next) → key_at (key_of k) s at ≡ a → value_after k s a ≡ Some (z, next) → Spelt s at (key_of k ++ value_text k z) next
    go (Some i) p e = both_spelt (key_spelt k s at i p) (value_spelt s i z next k e)
    go None p e = absurd (never_got e)

-- the place behind it, and the value there
place_spelt : (k : ℕ) (s : List ℕ) (at next : ℕ) (x : List ℕ) (v : Number) → field_at k s at ≡ v → next_of v ≡ Some next → x ≡ value_text k (value_of v)
    → Spelt s at (key_of k ++ x) next
place_spelt k s at next x (Some (z, i)) p e t =
    let same : i ≡ next = cc in
    rw t (field_spelt k s at z next (p ∙ ap (λ (i : ℕ). Some (z, i)) same))
place_spelt k s at next x None p e t = absurd (never_at e)

-- ---- n fields, whose texts are those of the values
module _ (first : ℕ) (s : List ℕ) (at : ℕ) where
  abbrev pub Texts : (n : ℕ) → List (List ℕ) → Type 0
  Texts n texts = (j : ℕ) → j < n → get_or texts j [] ≡ value_text (first + j) (value_in first s at j)

  fields_more : (n next : ℕ) (x y : List ℕ) (a : Next) → ((i : ℕ) → a ≡ Some i → Spelt s at x i) → y ≡ value_text (first + n) (value_from (first + n) s a)
      → and_then a (λ i. next_of (field_at (first + n) s i)) ≡ Some next → Spelt s at (x ++ (key_of (first + n) ++ y)) next
  fields_more n next x y (Some i) before t e = both_spelt (before i refl) (place_spelt (first + n) s i next y (field_at (first + n) s i) refl e t)
  fields_more n next x y None before t e = absurd (never_at e)

  pub fields_spelt : (texts : List (List ℕ)) (n next : ℕ) → Texts n texts → after_fields first n s at ≡ Some next → Spelt s at (fields first n texts) next
  unfolding after_fields value_in fields
  fields_spelt texts zero next t e = none_spelt s at next (cc)
  fields_spelt texts (suc n) next t e =
      fields_more n next (fields first n texts) (get_or texts n []) (after_fields first n s at) (λ i. fields_spelt texts n i (λ j l. t j (omega arith))) (t n (omega arith)) e

  values_texts : (n : ℕ) → Texts n (value_texts first n s at)
  unfolding value_texts
  values_texts n j l = up_at (λ j. value_text (first + j) (value_in first s at j)) [] n j l

  -- ---- a line of them
  pub line_spelt : (n next : ℕ) → line_at first n s at ≡ Some next → Spelt s at (line first n (value_texts first n s at)) next
  unfolding line_at line
  line_spelt n next e = fed_spelt (after_fields first n s at) (λ i. fields_spelt (value_texts first n s at) n i (values_texts n)) e
