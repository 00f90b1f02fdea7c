-- The next bytes of a line: where its line feed stands, and that a stretch taken in at once leaves what its bytes leave one by one.
use mathlib.Core.Path.{◌≡◌, refl, sym, ◌∙◌, ap}
use mathlib.Core.Bool.{false}
use mathlib.Core.List.{List, [], ◌∷◌, ◌++◌}
use Prim.Native.Nat.{ℕ, zero, suc, ◌+◌, ◌-◌, ◌≤◌, min}
use native.Mathlib.Nat.{add-sub_cancel_left}
use native.Mathlib.Numerals.{add-one}
use native.Mathlib.Omega.{arith}
use borrow.Author.Tests.{eqb-false}
use lib.Dec.{eqb}
use lib.ListN.{length, set, take, drop, length-set, length-take}
use lib.Seq.{sets, length-take-le, drop-drop}
use Rattle.std.specs.Prelude.{if◌then◌else◌, Option, Some, None, unwrap_or}
use Rattle.std.specs.List.{position_or_len}
use Rattle.std.proofs.lemmas.Grind.{common_steps}
use Rattle.std.proofs.lemmas.Bool.{false_from_ne_true}
use Rattle.std.proofs.lemmas.List.Recursion.{is_position_or_len}
use Rattle.std.proofs.lemmas.List.Sums.{position_or_len_is, prefix_len-le-length}
use Rattle.memchr.specs.Find.{IsFirstByte, is_byte}
use Rattle.exact.proofs.Parts.{by_test}
use Rattle.lines.specs.Pieces.{PIECE}
use Rattle.text.specs.Text.{LF}
use Rattle.intake.specs.declared.Intake.{Intake}
use Rattle.intake.specs.Intake.{placed}
use Rattle.intake.specs.Stretch.{line_rest, open_for, stretch_of, longer}
use Rattle.intake.proofs.Step.{copied, sets_placed, placed_one}
use Rattle.intake.proofs.Store.{Same, one_more}

-- ---- how many bytes stand in front of the first line feed

-- the word that std has for it
rest_is : (s : List ℕ) → line_rest s ≡ position_or_len (is_byte LF) s
unfolding line_rest
rest_is =
    is_position_or_len line_rest (is_byte LF) refl
    (λ b t. let e : suc (line_rest t) ≡ 1 + line_rest t = omega arith in ap (λ (n : ℕ). if eqb b LF then 0 else n) e)

pub found_rest : (s : List ℕ) (r : Option ℕ) → IsFirstByte (is_byte LF) s r → unwrap_or r (length s) ≡ line_rest s
found_rest s None h =
    sym (rest_is s ∙ position_or_len_is (is_byte LF) s (length s) 0 (omega arith) (λ k u. false_from_ne_true _ (h k (omega arith) u)) (λ u. absurd (omega arith)))
found_rest s (Some k) h =
    let first = h.0 in
    sym (rest_is s ∙ position_or_len_is (is_byte LF) s k 0 (omega arith) (λ j u. false_from_ne_true _ (first.before j (omega arith) u)) (λ u. h.1))

rest_few : (s : List ℕ) → line_rest s ≤ length s
rest_few s = rw (rest_is s) (prefix_len-le-length _ s)

-- no more stand in front of it in what is shorter
rest_take : (n : ℕ) (s : List ℕ) → line_rest (take n s) ≤ line_rest s
unfolding line_rest
rest_take zero s = omega arith
rest_take (suc n) [] = omega arith
rest_take (suc n) (b ∷ t) = let h = rest_take n t in grind (arith, common_steps)

-- ---- a stretch of m bytes, and what it leaves

no_feed : (m b : ℕ) (t : List ℕ) → suc m ≤ line_rest (b ∷ t) → (eqb b LF ≡ false) × (m ≤ line_rest t)
unfolding line_rest
no_feed m b t h = grind (arith, common_steps)

one_byte : (b : ℕ) (t store : List ℕ) (i : Intake) → (i.left ≡ 0 → ⊥) → i.run + 1 ≤ PIECE → i.n + 3 ≤ length store → eqb b LF ≡ false
    → Same store i (b ∷ t) (set store i.n b) (longer i 1) t
one_byte b t store i going enough stored e =
    let c = copied i b going (omega arith) e in
    rw (c.0, c.1, ← placed_one store i.n b (omega arith)) at (one_more store i b t stored)

-- byte by byte, so at once
all_at_once : (m : ℕ) (s store : List ℕ) (i : Intake) → (i.left ≡ 0 → ⊥) → i.run + suc m ≤ PIECE → i.n + suc m + 2 ≤ length store → suc m ≤ line_rest s
    → Same store i s (sets store i.n (take (suc m) s)) (longer i (suc m)) (drop (suc m) s)
unfolding line_rest
all_at_once m [] store i going enough stored plain = absurd (omega arith)
all_at_once zero (b ∷ t) store i going enough stored plain = one_byte b t store i going enough (omega arith) (no_feed zero b t plain).0
all_at_once (suc k) (b ∷ t) store i going enough stored plain =
    let feed = no_feed (suc k) b t plain in
    let first = one_byte b t store i going (omega arith) (omega arith) feed.0 in
    let more = all_at_once k t (set store i.n b) (longer i 1) going (omega arith) (rw (length-set store i.n b) (omega arith)) feed.1 in
    let n : i.n + 1 + suc k ≡ i.n + suc (suc k) = omega arith in
    let run : i.run + 1 + suc k ≡ i.run + suc (suc k) = omega arith in
    let place : sets (set store i.n b) (i.n + 1) (take (suc k) t) ≡ sets (set store i.n b) (suc i.n) (take (suc k) t) = rw (add-one i.n) in
    let last = rw (n, run, place) at more in
    (first.0 ∙ last.0, first.1 ∙ last.1)

-- `last` is what is lent of the store from place n on, once the bytes p are copied over it
pub copied_in : (store p last : List ℕ) (n : ℕ) → last ≡ p → take n store ++ (last ++ drop (n + length p - n) (drop n store)) ≡ placed store n p
copied_in store p last n e = rw (e, add-sub_cancel_left n (length p), drop-drop (length p) n store)

-- as the code takes it in: its bytes are p
module _ (store : List ℕ) (i : Intake) (s : List ℕ) (room m : ℕ) (fits : i.n + room + 2 ≤ length store) (counted : m ≡ stretch_of i room s)
    (some : m ≡ 0 → ⊥) where
  -- an open piece, with room for all of them, and no line feed among them
  record Stretch : Type 0 where
    going : i.left ≡ 0 → ⊥
    enough : i.run + m ≤ PIECE
    stored : i.n + m + 2 ≤ length store
    inside : m ≤ length s
    plain : m ≤ line_rest s

  a_stretch : Stretch
  unfolding stretch_of open_for
  a_stretch =
      let few = rest_few (take (open_for i room) s) in
      let long = length-take (open_for i room) s in
      let plain = rest_take (open_for i room) s in
      by_test (eqb i.left 0) (λ z. open_for i room ≡ (if z then 0 else min (PIECE - i.run) room) → Stretch)
      (λ z o. absurd (some (omega arith)))
      (λ z o. record { going = eqb-false i.left 0 z; enough = omega arith; stored = omega arith; inside = omega arith; plain = omega arith })
      refl

  module _ (p : List ℕ) (is : p ≡ take m s) where
    part_length : length p ≡ m
    part_length = ap length is ∙ length-take-le m s a_stretch.inside

    pub part_fits : (i.n + length p ≤ length store) × (i.run + length p ≤ PIECE)
    part_fits = let l = part_length in let h = a_stretch in (omega arith, omega arith)

    pub next_stretch : Same store i s (placed store i.n p) (longer i (length p)) (drop m s)
    next_stretch =
        let h = a_stretch in
        rw (← sets_placed p store i.n part_fits.0, part_length, is) (go m some h.enough h.stored h.plain)
      where
        go : (m : ℕ) → (m ≡ 0 → ⊥) → i.run + m ≤ PIECE → i.n + m + 2 ≤ length store → m ≤ line_rest s
            → Same store i s (sets store i.n (take m s)) (longer i m) (drop m s)
        go zero some enough stored plain = absurd (some refl)
        go (suc k) some enough stored plain = all_at_once k s store i a_stretch.going enough stored plain
