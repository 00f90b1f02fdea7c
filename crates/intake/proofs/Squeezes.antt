-- A text is squeezed byte by byte, and so a text in two parts part by part.
use mathlib.Core.Path.{◌≡◌, refl, sym}
use mathlib.Core.Bool.{Bool, true, false, ◌&&◌, and-false}
use mathlib.Core.List.{List, [], ◌∷◌, ◌++◌, append_assoc, append-nil}
use Prim.Native.Nat.{ℕ, zero, suc, ◌+◌, ◌≤◌, ◌<◌}
use native.Mathlib.Omega.{arith}
use lib.Dec.{leb}
use lib.ListN.{length, take, drop, get_or, set, length-append, take-append-drop}
use Rattle.std.specs.Prelude.{if◌then◌else◌}
use Rattle.std.proofs.lemmas.List.{drop_more, drop_all}
use Rattle.std.proofs.lemmas.Grind.{common_steps}
use lib.Seq.{take-length, drop-set-lt, take-suc-set}
use Rattle.text.specs.Number.{is_numeral}
use Rattle.lines.specs.Squeezed.{RUN, squeezed_from}
use Rattle.lines.proofs.Squeezed.{squeezed_none, no_feed}
use Rattle.intake.specs.declared.squeeze.Squeeze.{Squeeze}
use Rattle.intake.specs.Squeeze.{in_header, standing, squeeze_next, squeezed_by, squeeze_after}

-- ---- byte by byte

module _ (b : ℕ) (t : List ℕ) where
  abbrev By : Squeeze → Type 0
  By p = squeezed_by p (b ∷ t) ≡ standing p b ++ squeezed_by (squeeze_next p b) t

  in_header_lem : (n : ℕ) (start : Bool) (run : ℕ) → By (record { headers = suc n; start = start; run = run })
  unfolding squeezed_from standing squeeze_next
  in_header_lem n start run = grind (arith, common_steps, no_feed b, and-false)

  pub one_byte : (p : Squeeze) → By p
  unfolding squeezed_from standing squeeze_next
  one_byte p = go p.headers
    where
      go : (headers : ℕ) → By (record { headers = headers; start = p.start; run = p.run })
      go zero = refl
      go (suc n) = in_header_lem n p.start p.run

pub none : (p : Squeeze) → squeezed_by p [] ≡ []
none p = squeezed_none p.headers p.start p.run

-- behind the last header a text stands as it is
closed_next : (p : Squeeze) (b : ℕ) → p.headers ≡ 0 → squeeze_next p b ≡ p
unfolding squeeze_next
closed_next p b e = rw e

stands_all : (p : Squeeze) (s : List ℕ) → p.headers ≡ 0 → (squeezed_by p s ≡ s) × (squeeze_after p s ≡ p)
unfolding squeezed_from squeeze_after
stands_all p [] e = (rw e, refl)
stands_all p (b ∷ t) e = (rw e, rw (closed_next p b e) (stands_all p t e).1)

-- ---- in two parts

pub split : (a c : List ℕ) (p : Squeeze)
    → (squeezed_by p (a ++ c) ≡ squeezed_by p a ++ squeezed_by (squeeze_after p a) c) × (squeeze_after p (a ++ c) ≡ squeeze_after (squeeze_after p a) c)
unfolding squeeze_after
split [] c p = (rw (none p), refl)
split (b ∷ a) c p =
    let h = split a c (squeeze_next p b) in
    (rw (one_byte b (a ++ c) p, one_byte b a p, h.0) (sym (append_assoc (standing p b) _ _)), h.1)

-- ---- no longer than it was

pub few : (p : Squeeze) (b : ℕ) → length (standing p b) ≤ 1
unfolding standing
few p b = go (in_header p && (is_numeral b && leb RUN p.run))
  where
    go : (out : Bool) → length (if out then [] else b ∷ []) ≤ 1
    go true = omega arith
    go false = omega arith

pub no_longer : (s : List ℕ) (p : Squeeze) → length (squeezed_by p s) ≤ length s
no_longer [] p = rw (none p) (omega arith)
no_longer (b ∷ t) p =
    let e = length-append (standing p b) (squeezed_by (squeeze_next p b) t) in
    let f = few p b in
    let h = no_longer t (squeeze_next p b) in
    rw (one_byte b t p) (omega arith)

-- ---- in place: `left` bytes stand at the front of a row, and those from `at` on are still to come

module _ (p : Squeeze) (row : List ℕ) (left at : ℕ) (behind : left ≤ at) (more : at < length row) where
  abbrev b : ℕ
  b = get_or row at 0

  abbrev rest : List ℕ
  rest = drop (at + 1) (set row left b)

  comes : drop at row ≡ b ∷ rest
  comes = rw (drop-set-lt (at + 1) row left b (omega arith)) (drop_more row at 0 more)

  put : take (left + length (standing p b)) (set row left b) ≡ take left row ++ standing p b
  unfolding standing
  put = grind (arith, common_steps, take-suc-set)

  pub next_byte : (take left row ++ squeezed_by p (drop at row)
      ≡ take (left + length (standing p b)) (set row left b) ++ squeezed_by (squeeze_next p b) rest)
      × (squeeze_after p (drop at row) ≡ squeeze_after (squeeze_next p b) rest)
  unfolding squeeze_after
  next_byte = (rw (put, comes, one_byte b rest p) (sym (append_assoc (take left row) (standing p b) _)), rw comes)

module _ (p : Squeeze) (row : List ℕ) where
  pub all_come : (left at : ℕ) → length row ≤ at
      → (take left row ++ squeezed_by p (drop at row) ≡ take left row) × (squeeze_after p (drop at row) ≡ p)
  unfolding squeeze_after
  all_come left at h = rw (drop_all at row, none p) (append-nil (take left row), refl)

  pub rest_stands : (at : ℕ) → p.headers ≡ 0
      → (take at row ++ squeezed_by p (drop at row) ≡ take (length row) row) × (squeeze_after p (drop at row) ≡ p)
  rest_stands at closed =
      let s = stands_all p (drop at row) closed in
      (rw (s.0, take-length row) (take-append-drop at row), s.1)
