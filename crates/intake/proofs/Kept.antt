-- What is kept of a text: its parts one after the other, room for all of it, and each piece as it was or as far as it decides.
use mathlib.Core.Path.{◌≡◌, refl, sym, ◌∙◌, ap}
use mathlib.Core.Bool.{Bool, true, false, ◌&&◌}
use mathlib.Core.List.{List, [], ◌∷◌, ◌++◌, append-nil, append_assoc}
use Prim.Native.Nat.{ℕ, zero, suc, ◌+◌, ◌*◌, ◌-◌, ◌≤◌, ◌<◌}
use native.Mathlib.Nat.{add-zero, zero-add}
use native.Mathlib.Omega.{arith}
use borrow.Author.Tests.{leb-true, leb-false, ltb-true, ltb-false, ne_eqb}
use Rattle.std.proofs.lemmas.Grind.{common_steps}
use lib.Dec.{eqb, ltb}
use lib.ListN.{length, take, drop, length-append}
use lib.Seq.{take_at, length-take-le}
use Rattle.exact.proofs.Parts.{by_test}
use Rattle.text.specs.Text.{bytes}
use Rattle.lines.specs.Cut.{behind}
use Rattle.lines.specs.Pieces.{PIECE, rest_after, first_piece, is_some}
use Rattle.lines.proofs.Behind.{behind_in, behind_is}
use Rattle.lines.proofs.First.{first_in, first_is}
use Rattle.intake.specs.declared.Intake.{Intake}
use Rattle.intake.specs.Intake.{kept, after, kept_of, placed, has_room, after_all, store_all, at_first}
use Rattle.intake.proofs.Step.{counted}
use Rattle.intake.proofs.Store.{Same, one_more, no_room_lem, placed_length}

-- ---- a text in two parts: the second goes on where the first left the store and the state

pub parts : (a b : List ℕ) (store : List ℕ) (i : Intake) → Same store i (a ++ b) (store_all store i a) (after_all store i a) b
unfolding after_all store_all
parts [] b store i = (refl, refl)
parts (x ∷ a) b store i =
    let room = leb-true (i.n + 3) (length store) in
    by_test (has_room store i) (λ t. Same store i ((x ∷ a) ++ b) (store_all store i (x ∷ a)) (after_all store i (x ∷ a)) b)
    (λ e.
    let p = one_more store i x (a ++ b) (room e) in
    let q = one_more store i x a (room e) in
    rw (p.0, p.1, q.0, q.1) (parts a b (placed store i.n (kept i x)) (after i x)))
    (λ e. rw e (no_room_lem store i b (leb-false (i.n + 3) (length store) e)))

-- ---- a store of 10,643 bytes for each piece, and four, has room for all that is kept

record Fits (store : List ℕ) (i : Intake) : Type 0 where
  total : i.n + i.left * (PIECE + 3) + 4 ≤ length store + i.run
  enough : i.run ≤ PIECE
  last : i.left ≡ 0 → i.run ≤ 1

fits_room : (store : List ℕ) (i : Intake) → Fits store i → i.n + 3 ≤ length store
fits_room store i f = grind arith

fits_next : (store other : List ℕ) (i : Intake) (b : ℕ) → length other ≡ length store → Fits store i → Fits other (after i b)
unfolding after kept
fits_next store other i b same f = record {
  total = grind (arith, common_steps);
  enough = grind (arith, common_steps);
  last = λ z. grind (arith, common_steps);
}

take_placed : (store k : List ℕ) (n : ℕ) → n ≤ length store → take (n + length k) (placed store n k) ≡ take n store ++ k
take_placed store k n h =
    let e = length-append (take n store) k in
    let f = length-take-le n store h in
    rw (← append_assoc (take n store) k (drop (n + length k) store)) (take_at (take n store ++ k) (drop (n + length k) store) (n + length k) (omega arith))

room_from : (s store : List ℕ) (i : Intake) → Fits store i
    → ((after_all store i s).n ≡ i.n + length (kept_of i s)) × (take (i.n + length (kept_of i s)) (store_all store i s) ≡ take i.n store ++ kept_of i s)
unfolding after_all store_all kept_of
room_from [] store i f = (sym (add-zero i.n), rw (add-zero i.n) (sym (append-nil (take i.n store))))
room_from (b ∷ t) store i f =
    let room = fits_room store i f in
    let k = kept i b in
    let next = placed store i.n k in
    let rest = kept_of (after i b) t in
    let m = one_more store i b t room in
    let h = room_from t next (after i b) (fits_next store next i b (placed_length store i b room) f) in
    let c = counted i b in
    let a = length-append k rest in
    let e : i.n + length (k ++ rest) ≡ (after i b).n + length rest = omega arith in
    let g : take (after i b).n next ≡ take i.n store ++ k = rw c (take_placed store k i.n (omega arith)) in
    rw (m.0, m.1, e) (h.0, h.1 ∙ ap (λ (l : List ℕ). l ++ rest) g ∙ append_assoc (take i.n store) k rest)

module _ (store s : List ℕ) (pieces : ℕ) (long : pieces * (PIECE + 3) + 4 ≤ length store) where
  begun : Fits store (at_first pieces)
  begun = record { total = omega arith; enough = omega arith; last = λ z. omega arith }

  pub room_count : (after_all store (at_first pieces) s).n ≡ length (kept_of (at_first pieces) s)
  room_count = rw zero-add at (room_from s store (at_first pieces) begun).0

  pub room_store : take (after_all store (at_first pieces) s).n (store_all store (at_first pieces) s) ≡ kept_of (at_first pieces) s
  room_store = rw room_count (rw zero-add at (room_from s store (at_first pieces) begun).1)

-- ---- what is kept does not depend on how much was kept before

abbrev numbered : ℕ → Intake → Intake
numbered m i = record { n = m; run = i.run; start = i.start; left = i.left }

after_numbered : (m : ℕ) (i : Intake) (b : ℕ) → after (numbered m i) b ≡ numbered (m + length (kept i b)) (after i b)
unfolding after kept
after_numbered m i b = grind (arith, common_steps)

kept_numbered : (m : ℕ) (i : Intake) (s : List ℕ) → kept_of (numbered m i) s ≡ kept_of i s
unfolding kept_of kept
kept_numbered m i [] = refl
kept_numbered m i (b ∷ t) = rw (after_numbered m i b, kept_numbered (m + length (kept i b)) (after i b) t)

-- ---- behind a piece the rest is kept as a text of one piece less

-- `begins` says that a line begins where the next kept byte will stand: in a piece that is cut short it may differ
behind_kept : (s : List ℕ) (p : ℕ) (i : Intake) (begins : Bool) → i.left ≡ suc p → (i.run < PIECE → begins ≡ i.start)
    → behind_in begins (kept_of i s) ≡ kept_of (at_first p) (behind_in i.start s)
unfolding kept_of behind_in after kept
behind_kept [] p i begins left same = refl
behind_kept (b ∷ t) p i begins left same =
    let copied = behind_kept t p (after i b) (eqb b 10) in
    let passed = behind_kept t p (after i b) begins in
    grind (arith, common_steps, kept_numbered (i.n + 1) (at_first p) t, kept_numbered (i.n + 3) (at_first p) t)

pub next_rest : (p : ℕ) (s : List ℕ) → behind (kept_of (at_first (suc p)) s) ≡ kept_of (at_first p) (behind s)
next_rest p s = rw (behind_is (kept_of (at_first (suc p)) s), behind_is s) (behind_kept s p (at_first (suc p)) true refl (λ z. refl))

pub rests : (k pieces : ℕ) (s : List ℕ) → k ≤ pieces → rest_after k (kept_of (at_first pieces) s) ≡ kept_of (at_first (pieces - k)) (rest_after k s)
unfolding rest_after
rests zero pieces s h = let e : pieces - 0 ≡ pieces = omega arith in rw e
rests (suc k) pieces s h =
    let e : pieces - k ≡ suc (pieces - suc k) = omega arith in
    ap behind (rw (rests k pieces s (omega arith), e)) ∙ next_rest (pieces - suc k) (rest_after k s)

-- ---- the first piece as it was, or its first 10,640 bytes

pub data FirstKept (got text : List ℕ) : Type 0 where
  short : first_piece got ≡ first_piece text → FirstKept got text
  long : take PIECE got ≡ take PIECE text → FirstKept got text

data Kept (n : ℕ) (start : Bool) (got text : List ℕ) : Type 0 where
  whole : first_in start got ≡ first_in start text → Kept n start got text
  front : take n got ≡ take n text → Kept n start got text

first_kept : (s : List ℕ) (p : ℕ) (i : Intake) → i.left ≡ suc p → Kept (PIECE - i.run) i.start (kept_of i s) s
unfolding kept_of first_in after kept
first_kept [] p i left = whole refl
first_kept (b ∷ t) p i left =
    let going : eqb i.left 0 ≡ false = ne_eqb i.left 0 (λ z. omega arith) in
    by_test (ltb i.run PIECE) (λ z. Kept (PIECE - i.run) i.start (kept_of i (b ∷ t)) (b ∷ t))
    (λ r.
    by_test (i.start && eqb b 10) (λ z. Kept (PIECE - i.run) i.start (kept_of i (b ∷ t)) (b ∷ t))
    (λ e. whole (rw (going, r, e)))
    (λ e. rw (going, r, e) (on (ltb-true i.run PIECE r) e (first_kept t p (record { n = i.n + 1; run = i.run + 1; start = eqb b 10; left = i.left }) left))))
    (λ r. let full = ltb-false i.run PIECE r in let none : PIECE - i.run ≡ 0 = omega arith in front (rw none))
  where
    on : {got text : List ℕ} → i.run < PIECE → (i.start && eqb b 10) ≡ false → Kept (PIECE - (i.run + 1)) (eqb b 10) got text
        → Kept (PIECE - i.run) i.start (b ∷ got) (b ∷ text)
    on r e (whole h) = whole (rw (e, h))
    on r e (front h) = front (let q : PIECE - i.run ≡ suc (PIECE - (i.run + 1)) = omega arith in rw (q, h))

first_piece_lem : (p : ℕ) (s : List ℕ) → FirstKept (kept_of (at_first (suc p)) s) s
first_piece_lem p s = go (first_kept s p (at_first (suc p)) refl)
  where
    go : Kept PIECE true (kept_of (at_first (suc p)) s) s → FirstKept (kept_of (at_first (suc p)) s) s
    go (whole h) = short (rw (first_is (kept_of (at_first (suc p)) s), first_is s) h)
    go (front h) = long h

-- ---- so with each piece, and whether anything stands behind the last

pub some_kept : (pieces : ℕ) (s : List ℕ) → is_some (kept_of (at_first pieces) s) ≡ is_some s
unfolding kept_of kept
some_kept pieces [] = refl
some_kept zero (b ∷ t) = refl
some_kept (suc p) (b ∷ t) = rw (ne_eqb (suc p) 0 (λ z. omega arith))

module _ (pieces : ℕ) (s : List ℕ) where
  pub piece_kept : (k : ℕ) → k < pieces → FirstKept (rest_after k (kept_of (at_first pieces) s)) (rest_after k s)
  piece_kept k u =
      let left : pieces - k ≡ suc (pieces - suc k) = omega arith in
      rw (rests k pieces s (omega arith), left) (first_piece_lem (pieces - suc k) (rest_after k s))

  pub follows : is_some (rest_after pieces (kept_of (at_first pieces) s)) ≡ is_some (rest_after pieces s)
  follows =
      let left : pieces - pieces ≡ 0 = omega arith in
      rw (rests pieces pieces s (omega arith), left) (some_kept 0 (rest_after pieces s))

-- ---- an example: of a line behind the only piece one byte is kept
example : kept_of (at_first 1) (bytes "hour=7\nda=0 n=0\n\nhour=8\n") ≡ bytes "hour=7\nda=0 n=0\n\nh"
unfolding kept_of kept after
example = refl
