-- The lines of a header, read alike from two texts that share a stretch of bytes.
use mathlib.Core.Path.{◌≡◌, refl, sym, ◌∙◌, ap}
use mathlib.Core.Bool.{Bool, true, false, ◌&&◌}
use mathlib.Core.List.{List, [], ◌∷◌}
use Prim.Native.Nat.{ℕ, zero, suc, ◌+◌, ◌≤◌, ◌<◌}
use native.Mathlib.Decide.{dec_lt}
use native.Mathlib.Numerals.{add-one}
use native.Mathlib.Nat.{add-zero}
use native.Mathlib.Omega.{arith}
use borrow.Author.Tests.{ltb-true}
use lib.Dec.{ltb}
use lib.ListN.{length, drop, length-drop, drop_of_length-le}
use lib.Seq.{drop-cons}
use Rattle.std.specs.Prelude.{if◌then◌else◌, None, Some}
use Rattle.exact.proofs.Parts.{by_test}
use Rattle.tariff.specs.Sheet.{all_to}
use Rattle.tariff.proofs.Tests.{all_at}
use Rattle.text.specs.Text.{byte_at, Next}
use Rattle.text.specs.Number.{digit_of, digit_at}
use Rattle.text.proofs.Numbers.{digit_inside}
use Rattle.keys.specs.Keys.{key_of}
use Rattle.lines.specs.Line.{is_at, and_then, line_feed}
use Rattle.lines.proofs.Along.{Placed, both, neither, moved_then, Stretch, key_printed, digit_placed, digit_further, key_placed, fields_placed, values_placed, feed_placed}
use Rattle.header.specs.declared.layout.Line.{Line}
use Rattle.header.specs.declared.layout.Line.TheVariants.{Number, Row, Run, Close}
use Rattle.header.specs.Layout.{digits_at, row_at, run_of, behind_run, said_at, header_line, digit_in}
use Rattle.header.proofs.Digits.{is_digit}
use Rattle.header.proofs.HeaderAlike.{SaysSame}

-- ---- a run, digit by digit
module _ (s : List ℕ) (i : ℕ) where
  run_on_lem : ltb (digit_at s i) 10 ≡ true → run_of (drop i s) ≡ suc (run_of (drop (i + 1) s))
  unfolding run_of digit_at
  run_on_lem e =
      let inside = digit_inside s i (λ z. let l = ltb-true (digit_at s i) 10 e in omega arith) in
      rw (drop-cons s i 256 inside, e, add-one i)

  run_none : ltb (digit_at s i) 10 ≡ false → run_of (drop i s) ≡ 0
  unfolding run_of digit_at
  run_none e = go (dec_lt i (length s))
    where
      go : Dec (i < length s) → run_of (drop i s) ≡ 0
      go (yes h) = rw (drop-cons s i 256 h, e)
      go (no h) = rw (drop_of_length-le s {i = i} (omega arith))

run_few : (u : List ℕ) → run_of u ≤ length u
unfolding run_of
run_few [] = omega arith
run_few (b ∷ t) =
    by_test (ltb (digit_of b) 10) (λ x. (if x then suc (run_of t) else 0) ≤ suc (length t))
    (λ e. let more = run_few t in omega arith)
    (λ e. omega arith)

-- as many bytes as what a line says may take
abbrev pub width_of : (hours : ℕ) → Line → List ℕ → ℕ
width_of hours (Number key least most) s = 16
width_of hours (Row key admitted) s = length (key_of key) + hours
width_of hours (Run key) s = length (key_of key) + length s + 1
width_of hours Close s = 0

data Counted (P : Type 0) : Bool → Bool → Type 0 where
  counted : P → Counted P true true
  stopped : Counted P false false

module _ {s t : List ℕ} {f g : ℕ → ℕ} {In : ℕ → ℕ → Type 0} (o : Stretch s t f g In) where
  steps : (k i : ℕ) → (f (i + k) ≡ f i + k) × (g (i + k) ≡ g i + k)
  steps zero i = (ap f (add-zero i) ∙ sym (add-zero (f i)), ap g (add-zero i) ∙ sym (add-zero (g i)))
  steps (suc k) i =
      let further : i + suc k ≡ i + k + 1 = omega arith in
      let before = steps k i in
      let one = ap f further ∙ (o.next (i + k)).0 in
      let other = ap g further ∙ (o.next (i + k)).1 in
      (omega (arith, one, before.0), omega (arith, other, before.1))

  -- ---- a row
  one_placed : (v w i : ℕ) → v < w → In w i → Counted (In v (i + 1)) (ltb (digit_at s (f i)) 10) (ltb (digit_at t (g i)) 10)
  one_placed v w i u h =
      rw (digit_placed o w i (omega arith) h)
      (by_test (ltb (digit_at s (f i)) 10) (λ b. Counted (In v (i + 1)) b b)
      (λ e. counted (digit_further o v w i u h (λ z. let l = ltb-true (digit_at s (f i)) 10 e in omega arith)))
      (λ e. stopped))

  all_placed : (h v w i : ℕ) → v + h ≤ w → In w i → Counted (In v (i + h)) (all_to (is_digit s (f i)) h) (all_to (is_digit t (g i)) h)
  unfolding all_to
  all_placed zero v w i u l = counted (rw (add-zero i) (o.fewer v w i (omega arith) l))
  all_placed (suc h) v w i u l = go (all_placed h (v + 1) w i (omega arith) l)
    where
      go : {a b : Bool} → Counted (In (v + 1) (i + h)) a b → Counted (In v (i + suc h)) (a && is_digit s (f i) h) (b && is_digit t (g i) h)
      go (counted m) =
          let next : i + suc h ≡ i + h + 1 = omega arith in
          rw (next, ← (steps h i).0, ← (steps h i).1) (one_placed v (v + 1) (i + h) (omega arith) m)
      go stopped = stopped

  digits_placed : (hours v w i : ℕ) → v + hours ≤ w → In w i → Placed f g (In v) (digits_at hours s (f i)) (digits_at hours t (g i))
  unfolding digits_at
  digits_placed hours v w i u l = go (all_placed hours v w i u l)
    where
      go : {a b : Bool} → Counted (In v (i + hours)) a b → Placed f g (In v) (if a then Some (f i + hours) else None) (if b then Some (g i + hours) else None)
      go (counted m) = rw (← (steps hours i).0, ← (steps hours i).1) (both (i + hours) m)
      go stopped = neither

  -- ---- a run of at most n digits
  run_stops : (v w i : ℕ) → v < w → In w i → ltb (digit_at s (f i)) 10 ≡ false → Placed f g (In v) (behind_run s (f i)) (behind_run t (g i))
  run_stops v w i u l e =
      rw (run_none s (f i) e, run_none t (g i) (ap (λ (d : ℕ). ltb d 10) (digit_placed o w i (omega arith) l) ∙ e), add-zero (f i), add-zero (g i))
      (both i (o.fewer v w i (omega arith) l))

  pub run_placed : (n v w i : ℕ) → run_of (drop (f i) s) ≤ n → v + n < w → In w i → Placed f g (In v) (behind_run s (f i)) (behind_run t (g i))
  run_placed zero v w i few u l =
      by_test (ltb (digit_at s (f i)) 10) (λ x. Placed f g (In v) (behind_run s (f i)) (behind_run t (g i)))
      (λ e. absurd (let more = run_on_lem s (f i) e in omega arith))
      (λ e. run_stops v w i (omega arith) l e)
  run_placed (suc n) v w i few u l =
      by_test (ltb (digit_at s (f i)) 10) (λ x. Placed f g (In v) (behind_run s (f i)) (behind_run t (g i)))
      (λ e.
      let one = run_on_lem s (f i) e in
      let other = run_on_lem t (g i) (ap (λ (d : ℕ). ltb d 10) (digit_placed o w i (omega arith) l) ∙ e) in
      let p : f i + run_of (drop (f i) s) ≡ f (i + 1) + run_of (drop (f (i + 1)) s) = rw (o.next i).0 (omega arith) in
      let q : g i + run_of (drop (g i) t) ≡ g (i + 1) + run_of (drop (g (i + 1)) t) = rw (o.next i).1 (omega arith) in
      let fewer : run_of (drop (f (i + 1)) s) ≤ n = rw (o.next i).0 (omega arith) in
      rw (p, q)
      (run_placed n v (v + n + 1) (i + 1) fewer (omega arith)
      (digit_further o (v + n + 1) w i (omega arith) l (λ z. let m = ltb-true (digit_at s (f i)) 10 e in omega arith))))
      (λ e. run_stops v w i (omega arith) l e)

  -- ---- what a line says, the line, and its end
  module _ (hours : ℕ) where
    pub said_placed : (line : Line) (v w i : ℕ) → v + width_of hours line s ≤ w → In w i → Placed f g (In v) (said_at hours line s (f i)) (said_at hours line t (g i))
    unfolding said_at row_at
    said_placed (Number key least most) v w i u l = fields_placed o key 1 v w i (omega arith) l
    said_placed (Row key admitted) v w i u l =
        moved_then _ _ (key_placed o (key_of key) (key_printed key) (v + hours) w i (omega arith) l) (λ j m. digits_placed hours v (v + hours) j (omega arith) m)
    said_placed (Run key) v w i u l =
        moved_then _ _ (key_placed o (key_of key) (key_printed key) (v + length s + 1) w i (omega arith) l)
        (λ j m. run_placed (length s) v (v + length s + 1) j (omega (arith, run_few (drop (f j) s), length-drop (f j) s)) (omega arith) m)
    said_placed Close v w i u l = both i (o.fewer v w i (omega arith) l)

    pub line_placed : {Q : ℕ → Type 0} (line : Line) (w i : ℕ) → width_of hours line s < w → In w i → ((j : ℕ) → In 1 j → byte_at s (f j) ≡ 10 → Q (j + 1))
        → Placed f g Q (header_line hours line s (f i)) (header_line hours line t (g i))
    unfolding header_line
    line_placed line w i u l r = moved_then _ _ (said_placed line 1 w i (omega arith) l) (λ j m. feed_placed o 1 j (omega arith) m (r j m))

    -- a row that is as printed has a digit for each hour
    row_printed : (at : ℕ) → is_at (and_then (digits_at hours s at) (line_feed s)) ≡ true → all_to (is_digit s at) hours ≡ true
    unfolding digits_at
    row_printed at =
        by_test (all_to (is_digit s at) hours) (λ b. is_at (and_then (if b then Some (at + hours) else None) (line_feed s)) ≡ true → b ≡ true)
        (λ e p. refl)
        (λ e p. p)

    digits_in : (h v w i : ℕ) → v + h ≤ w → In w i → ((k : ℕ) → k < h → is_digit s (f i) k ≡ true) → In v (i + h)
    digits_in zero v w i u l are = rw (add-zero i) (o.fewer v w i (omega arith) l)
    digits_in (suc h) v w i u l are =
        let before = digits_in h (v + 1) w i (omega arith) l (λ k m. are k (omega arith)) in
        let next : i + suc h ≡ i + h + 1 = omega arith in
        let digit = ltb-true (digit_at s (f i + h)) 10 (are h (omega arith)) in
        rw next (digit_further o v (v + 1) (i + h) (omega arith) before (λ z. let here = ap (digit_at s) (steps h i).0 in omega arith))

    pub says_placed : (line : Line) (w i : ℕ) → width_of hours line s ≤ w → In w i → SaysSame hours line s t (Some (f i)) (Some (g i))
    unfolding header_line said_at row_at
    says_placed (Number key least most) w i u l = values_placed o key 0 w i (omega arith) l
    says_placed (Row key admitted) w i u l = λ printed h m. go h m (key_placed o (key_of key) (key_printed key) hours w i (omega arith) l) printed
      where
        go : (h : ℕ) → h < hours → {x y : Next} → Placed f g (In hours) x y → is_at (and_then (and_then x (digits_at hours s)) (line_feed s)) ≡ true
            → digit_in h s x ≡ digit_in h t y
        go h m (both j r) printed =
            let are = row_printed (f j) printed in
            let within = digits_in h 1 hours j (omega arith) r (λ k n. all_at (is_digit s (f j)) hours k are (omega arith)) in
            rw (← (steps h j).0, ← (steps h j).1) (sym (digit_placed o 1 (j + h) (omega arith) within))
        go h m neither printed = refl
    says_placed (Run key) w i u l = tt
    says_placed Close w i u l = tt
