-- A squeezed text: which bytes of a text stand in it, and from where on it is the text that follows, squeezed.
use mathlib.Core.Path.{◌≡◌, refl, sym, ◌∙◌, ap}
use mathlib.Core.Bool.{Bool, true, false, ◌&&◌, false≢true}
use mathlib.Core.List.{List, [], ◌∷◌}
use Prim.Native.Nat.{ℕ, zero, suc, ◌+◌, ◌≤◌, ◌<◌}
use native.Mathlib.Nat.{zero-add, add-zero, add-suc}
use native.Mathlib.Omega.{arith}
use borrow.Author.Tests.{ltb-true, ltb-false, lt-ltb, ne_eqb}
use lib.Dec.{ltb, eqb}
use lib.ListN.{take, drop}
use lib.Seq.{get_or-take}
use Rattle.exact.proofs.Parts.{by_test}
use Rattle.text.specs.Text.{byte_at}
use Rattle.text.specs.Number.{digit_of}
use Rattle.lines.specs.Cut.{behind}
use Rattle.lines.specs.Pieces.{rest_after}
use Rattle.lines.specs.Squeezed.{RUN, squeezed_from, squeezed}
use Rattle.lines.proofs.Behind.{behind_in, behind_is}

abbrev pub is_digit_byte : ℕ → Bool
is_digit_byte b = ltb (digit_of b) 10

-- ---- of no text nothing stands
pub squeezed_none : (n : ℕ) (start : Bool) (run : ℕ) → squeezed_from n start run [] ≡ []
unfolding squeezed_from
squeezed_none zero start run = refl
squeezed_none (suc n) start run = refl

-- ---- one byte of a header: the empty line, a digit that stands, one that goes, and any other byte
module _ (n : ℕ) (start : Bool) (run b : ℕ) (t : List ℕ) where
  pub squeezed_end : (start && eqb b 10) ≡ true → squeezed_from (suc n) start run (b ∷ t) ≡ b ∷ squeezed_from n true 0 t
  unfolding squeezed_from
  squeezed_end e = rw e

  module _ (on : (start && eqb b 10) ≡ false) where
    pub squeezed_stands : is_digit_byte b ≡ true → run < RUN → squeezed_from (suc n) start run (b ∷ t) ≡ b ∷ squeezed_from (suc n) false (suc run) t
    unfolding squeezed_from
    squeezed_stands e u = rw (on, e, lt-ltb run RUN u)

    pub squeezed_goes : is_digit_byte b ≡ true → ltb run RUN ≡ false → squeezed_from (suc n) start run (b ∷ t) ≡ squeezed_from (suc n) false run t
    unfolding squeezed_from
    squeezed_goes e u = rw (on, e, u)

    pub squeezed_other : is_digit_byte b ≡ false → squeezed_from (suc n) start run (b ∷ t) ≡ b ∷ squeezed_from (suc n) (eqb b 10) 0 t
    unfolding squeezed_from
    squeezed_other e = rw (on, e)

-- ---- the first bytes stand: with those of the run in front, as many as a run may have
pub first_stand : (k n : ℕ) (start : Bool) (run : ℕ) (u : List ℕ) → k + run ≤ RUN → take k (squeezed_from n start run u) ≡ take k u
unfolding squeezed_from
first_stand zero n start run u h = refl
first_stand (suc k) zero start run u h = refl
first_stand (suc k) (suc n) start run [] h = refl
first_stand (suc k) (suc n) start run (b ∷ t) h =
    by_test (start && eqb b 10) Same
    (λ e. rw (squeezed_end n start run b t e, first_stand k n true 0 t (omega arith)))
    (λ on.
    by_test (is_digit_byte b) Same
    (λ e. rw (squeezed_stands n start run b t on e (omega arith), first_stand k (suc n) false (suc run) t (omega arith)))
    (λ e. rw (squeezed_other n start run b t on e, first_stand k (suc n) (eqb b 10) 0 t (omega arith))))
  where
    Same : Bool → Type 0
    Same x = take (suc k) (squeezed_from (suc n) start run (b ∷ t)) ≡ b ∷ take k t

pub byte_stands : (i n : ℕ) (start : Bool) (run : ℕ) (u : List ℕ) → i + run < RUN → byte_at (squeezed_from n start run u) i ≡ byte_at u i
byte_stands i n start run u h =
    sym (get_or-take (suc i) (squeezed_from n start run u) i 256 (omega arith))
    ∙ ap (λ (l : List ℕ). byte_at l i) (first_stand (suc i) n start run u (omega arith))
    ∙ get_or-take (suc i) u i 256 (omega arith)

pub first_byte_stands : (n : ℕ) (s : List ℕ) → byte_at (squeezed n s) 0 ≡ byte_at s 0
first_byte_stands n s = byte_stands 0 n true 0 s (omega arith)

-- ---- behind a byte that is no digit it begins anew, where no line ends in front of it
feed_not : (start : Bool) (b : ℕ) → (start ≡ true → b ≡ 10 → ⊥) → (start && eqb b 10) ≡ false
feed_not true b h = ne_eqb b 10 (h refl)
feed_not false b h = refl

pub anew : (j n : ℕ) (start : Bool) (run : ℕ) (u : List ℕ) → j + run ≤ RUN → ((i : ℕ) → i < j → byte_at u i ≡ 10 → ⊥) → (start ≡ true → byte_at u 0 ≡ 10 → ⊥)
    → is_digit_byte (byte_at u j) ≡ false → drop (suc j) (squeezed_from n start run u) ≡ squeezed_from n (eqb (byte_at u j) 10) 0 (drop (suc j) u)
unfolding squeezed_from
anew j zero start run u h none begun e = refl
anew j (suc n) start run [] h none begun e = refl
anew zero (suc n) start run (b ∷ t) h none begun e = ap (drop 1) (squeezed_other n start run b t (feed_not start b begun) e)
anew (suc j) (suc n) start run (b ∷ t) h none begun e =
    let on = feed_not start b (λ x. none 0 (omega arith)) in
    let later : (i : ℕ) → i < j → byte_at t i ≡ 10 → ⊥ = λ i l. none (suc i) (omega arith) in
    by_test (is_digit_byte b) (λ x. drop (suc (suc j)) (squeezed_from (suc n) start run (b ∷ t)) ≡ squeezed_from (suc n) (eqb (byte_at t j) 10) 0 (drop (suc j) t))
    (λ d.
    ap (drop (suc (suc j))) (squeezed_stands n start run b t on d (omega arith))
    ∙ anew j (suc n) false (suc run) t (omega arith) later (λ x. absurd (false≢true x)) e)
    (λ d.
    ap (drop (suc (suc j))) (squeezed_other n start run b t on d ∙ ap (λ (x : Bool). b ∷ squeezed_from (suc n) x 0 t) (ne_eqb b 10 (none 0 (omega arith))))
    ∙ anew j (suc n) false 0 t (omega arith) later (λ x. absurd (false≢true x)) e)

-- a digit is no line feed
pub no_feed : (b : ℕ) → is_digit_byte b ≡ true → eqb b 10 ≡ false
no_feed b d = ne_eqb b 10 (λ z. false≢true (ap is_digit_byte (sym z) ∙ d))

-- ---- what stands behind the empty lines, and whether anything stands at all
in_line_lem : (start : Bool) (run : ℕ) → (start ≡ true → run < RUN) → ltb run RUN ≡ false → start ≡ false
in_line_lem true run few e = let l = few refl in let u = ltb-false run RUN e in absurd (omega arith)
in_line_lem false run few e = refl

behind_from : (n : ℕ) (start : Bool) (run : ℕ) (u : List ℕ) → (start ≡ true → run < RUN)
    → behind_in start (squeezed_from (suc n) start run u) ≡ squeezed n (behind_in start u)
unfolding behind_in squeezed_from
behind_from n start run [] few = sym (squeezed_none n true 0)
behind_from n start run (b ∷ t) few =
    by_test (start && eqb b 10) Same
    (λ e. rw (squeezed_end n start run b t e, e))
    (λ on.
    by_test (is_digit_byte b) Same
    (λ d.
    let inside : behind_in start (b ∷ t) ≡ behind_in false t = rw on (rw (no_feed b d)) in
    by_test (ltb run RUN) Same
    (λ l.
    rw (squeezed_stands n start run b t on d (ltb-true run RUN l), on)
    (rw (no_feed b d) (behind_from n false (suc run) t (λ x. absurd (false≢true x)))))
    (λ l. rw (squeezed_goes n start run b t on d l, inside, in_line_lem start run few l) (behind_from n false run t (λ x. absurd (false≢true x)))))
    (λ d. rw (squeezed_other n start run b t on d, on) (behind_from n (eqb b 10) 0 t (λ x. omega arith))))
  where
    Same : Bool → Type 0
    Same x = behind_in start (squeezed_from (suc n) start run (b ∷ t)) ≡ squeezed n (behind_in start (b ∷ t))

behind_squeezed : (n : ℕ) (s : List ℕ) → behind (squeezed (suc n) s) ≡ squeezed n (behind s)
behind_squeezed n s = behind_is (squeezed (suc n) s) ∙ behind_from n true 0 s (λ x. omega arith) ∙ ap (squeezed n) (sym (behind_is s))

-- behind some of the headers the others are squeezed, and behind all of them none
pub rest_squeezed : (k n : ℕ) (s : List ℕ) → rest_after k (squeezed (k + n) s) ≡ squeezed n (rest_after k s)
unfolding rest_after
rest_squeezed zero n s = rw zero-add
rest_squeezed (suc k) n s =
    let one_on : suc k + n ≡ k + suc n = omega arith in
    rw one_on (ap behind (rest_squeezed k (suc n) s) ∙ behind_squeezed n (rest_after k s))

pub rest_stands : (k j : ℕ) (s : List ℕ) → rest_after (k + j) (squeezed k s) ≡ rest_after (k + j) s
unfolding squeezed_from rest_after
rest_stands k zero s = rw (add-zero k) (rw (add-zero k) at (rest_squeezed k 0 s))
rest_stands k (suc j) s = rw (add-suc k j) (ap behind (rest_stands k j s))
