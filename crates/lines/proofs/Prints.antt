-- A printed line is read to what it was printed from.
use Rattle.std.specs.Prelude.{Some}
use mathlib.Core.Path.{◌≡◌, refl, ap, ◌∙◌}
use mathlib.Core.Bool.{Bool, true, false, false≢true}
use mathlib.Core.List.{List, [], ◌∷◌, ◌++◌}
use Prim.Native.Nat.{ℕ, zero, suc, ◌+◌, ◌≤◌, ◌<◌}
use native.Mathlib.Decide.{dec_lt}
use native.Mathlib.Nat.{add-zero, not-suc-le-zero, le_of_suc-le-suc}
use native.Mathlib.Omega.{arith}
use borrow.Author.Tests.{eqb-true}
use lib.Dec.{eqb}
use lib.IntN.{ℤ, pos}
use lib.ListN.{length, get_or}
use Rattle.text.specs.Number.{digit_of, digit_at}
use Rattle.keys.specs.Keys.{KEYS, keys, key_of}
use Rattle.lines.specs.Line.{field_at, after_fields, value_in, line_at}
use Rattle.lines.specs.Print.{fields, line}
use Rattle.keys.proofs.AllKeys.{table_at}
use Rattle.lines.proofs.Holds.{Holds, holds_split, after_both, holds_key, Says}

-- ---- no key begins with a digit
abbrev leads : List ℕ → Bool
leads [] = false
leads (b ∷ ks) = eqb (digit_of b) 10

lead_digit : (key x s : List ℕ) (at : ℕ) → leads key ≡ true → Holds s at (key ++ x) → digit_at s at ≡ 10
unfolding digit_at
lead_digit [] x s at e o = absurd (false≢true e)
lead_digit (b ∷ key) x s at e o = ap digit_of o.0 ∙ eqb-true (digit_of b) 10 e

pub key_digit : (k : ℕ) (x s : List ℕ) (at : ℕ) → k < KEYS → Holds s at (key_of k ++ x) → digit_at s at ≡ 10
key_digit k x s at h o = lead_digit (key_of k) x s at (table_at leads keys k h refl) o

-- ---- texts that say numbers, from key k on
infixr 2 ◌and◌
pub data AllSay : ℕ → List (List ℕ) → List ℤ → Type 0 where
  nothing : {k : ℕ} → AllSay k [] []
  ◌and◌ : {k : ℕ} {x : List ℕ} {z : ℤ} {xs : List (List ℕ)} {zs : List ℤ} → Says k x z → AllSay (k + 1) xs zs → AllSay k (x ∷ xs) (z ∷ zs)

pub say_at : (k : ℕ) (xs : List (List ℕ)) (zs : List ℤ) → AllSay k xs zs → (j : ℕ) → j < length zs → Says (k + j) (get_or xs j []) (get_or zs j (pos 0))
say_at k [] [] nothing j h = absurd (not-suc-le-zero h)
say_at k [] (z ∷ zs) o j h = elim o [ ]
say_at k (x ∷ xs) [] o j h = elim o [ ]
say_at k (x ∷ xs) (z ∷ zs) (o and os) zero h = rw add-zero o
say_at k (x ∷ xs) (z ∷ zs) (o and os) (suc j) h =
    let e : k + 1 + j ≡ k + suc j = omega arith in
    rw e at (say_at (k + 1) xs zs os j (le_of_suc-le-suc h))

-- ---- fields and lines
pub field_said : (k : ℕ) (x : List ℕ) (z : ℤ) (s : List ℕ) (at : ℕ) → Says k x z → Holds s at (key_of k ++ x) → digit_at s (at + length (key_of k ++ x)) ≡ 10
    → field_at k s at ≡ Some (z, at + length (key_of k ++ x))
unfolding field_at
field_said k x z s at say o e =
    let r = holds_split s at (key_of k) x o in
    let q = after_both at (key_of k) x in
    rw (holds_key (key_of k) s at r.0) (say s (at + length (key_of k)) r.1 (rw q e) ∙ ap (λ (i : ℕ). Some (z, i)) q)

-- n texts say n numbers
module _ (first : ℕ) (texts : List (List ℕ)) (v : ℕ → ℤ) (s : List ℕ) (at : ℕ) where
  pub record FieldsSaid (n : ℕ) : Type 0 where
    pub place : after_fields first n s at ≡ Some (at + length (fields first n texts))
    pub values : (j : ℕ) → j < n → value_in first s at j ≡ v j

  fields_more : (n : ℕ) (x : List ℕ) → FieldsSaid n → field_at (first + n) s (at + length (fields first n texts)) ≡ Some (v n, at + length (fields first n texts) + length x)
      → (after_fields first (suc n) s at ≡ Some (at + length (fields first n texts ++ x))) × ((j : ℕ) → j < suc n → value_in first s at j ≡ v j)
  unfolding after_fields value_in
  fields_more n x o e = (rw (o.place, e) (ap Some (after_both at (fields first n texts) x)), λ j l. each j l (dec_lt j n))
    where
      each : (j : ℕ) → j < suc n → Dec (j < n) → value_in first s at j ≡ v j
      each j l (yes p) = o.values j p
      each j l (no p) = let same : j ≡ n = omega arith in rw (same, o.place, e)

  pub fields_said : (n : ℕ) → ((j : ℕ) → j < n → Says (first + j) (get_or texts j []) (v j)) → first + n ≤ KEYS → Holds s at (fields first n texts)
      → digit_at s (at + length (fields first n texts)) ≡ 10 → FieldsSaid n
  unfolding fields after_fields
  fields_said zero say h o e = record { place = rw add-zero; values = λ j l. absurd (not-suc-le-zero l) }
  fields_said (suc n) say h o e =
      let x = fields first n texts in
      let y = key_of (first + n) ++ get_or texts n [] in
      let r = holds_split s at x y o in
      let q = after_both at x y in
      let before = fields_said n (λ j l. say j (omega arith)) (omega arith) r.0 (key_digit (first + n) (get_or texts n []) s (at + length x) (omega arith) r.1) in
      let m = fields_more n y before (field_said (first + n) (get_or texts n []) (v n) s (at + length x) (say n (omega arith)) r.1 (rw q e)) in
      record { place = m.0; values = m.1 }

  pub record LineSaid (n : ℕ) : Type 0 where
    pub place : line_at first n s at ≡ Some (at + length (line first n texts))
    pub values : (j : ℕ) → j < n → value_in first s at j ≡ v j

  pub line_said : (n : ℕ) → ((j : ℕ) → j < n → Says (first + j) (get_or texts j []) (v j)) → first + n ≤ KEYS → Holds s at (line first n texts) → LineSaid n
  unfolding line line_at digit_at
  line_said n say h o =
      let x = fields first n texts in
      let r = holds_split s at x (10 ∷ []) o in
      let f = fields_said n say h r.0 (ap digit_of r.1.0) in
      record {
        place = rw f.place (holds_key (10 ∷ []) s (at + length x) r.1 ∙ ap Some (after_both at x (10 ∷ [])));
        values = f.values;
      }
