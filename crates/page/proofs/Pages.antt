-- Bytes into a lent page: nothing, one byte, text after text, and a page that is full.
use mathlib.Core.Path.{◌≡◌, refl, sym, ◌∙◌, ap, subst}
use mathlib.Core.List.{List, [], ◌∷◌, ◌++◌, append_assoc}
use Prim.Native.Nat.{ℕ, suc, ◌+◌, ◌-◌, ◌≤◌, ◌<◌, min}
use native.Mathlib.Nat.{add-zero}
use native.Mathlib.Omega.{arith}
use borrow.Author.Tests.{leb-true, leb-false}
use borrow.Rule.Slice.PartMut.{put_mid}
use lib.Dec.{leb}
use lib.ListN.{length, set, take, drop, length-append, take-append-drop}
use lib.Seq.{sets, set_out, length-sets, length-take-le, take_all}
use Rattle.std.proofs.lemmas.List.{drop-drop}
use Rattle.std.proofs.lemmas.List.Edits.{sets-eq}
use Rattle.exact.proofs.Parts.{by_test}
use Rattle.io.specs.Counts.{IsPrefixLen}
use Rattle.page.specs.declared.Page.{Page}
use Rattle.page.specs.Page.{written, place_behind, Put, wrote}

stored_past : (ys l : List ℕ) (i : ℕ) → length l ≤ i → sets l i ys ≡ l
stored_past [] l i h = refl
stored_past (y ∷ ys) l i h = ap (λ (r : List ℕ). sets r (suc i) ys) (set_out l i y h) ∙ stored_past ys l (suc i) (omega arith)

stored_append : (xs ys l : List ℕ) (i : ℕ) → sets l i (xs ++ ys) ≡ sets (sets l i xs) (i + length xs) ys
stored_append [] ys l i = ap (λ (k : ℕ). sets l k ys) (sym (add-zero i))
stored_append (x ∷ xs) ys l i =
    stored_append xs ys (set l i x) (suc i) ∙ ap (λ (k : ℕ). sets (sets (set l i x) (suc i) xs) k ys) (omega arith)

stored_front : (l text : List ℕ) (at n : ℕ) → at < length l → n ≡ min (length text) (length l - at) → sets l at (take n text) ≡ sets l at text
stored_front l text at n h e =
    by_test (leb (length text) n) (λ _. sets l at (take n text) ≡ sets l at text)
    (λ u. let w = leb-true _ _ u in ap (sets l at) (take_all n text w))
    (λ u.
    let w = leb-false _ _ u in
    sym (ap (sets l at) (sym (take-append-drop n text)) ∙ stored_append (take n text) (drop n text) l at ∙ stored_past (drop n text) (sets l at (take n text)) (at + length (take n text))
    (let a = length-sets l at (take n text) in let b = length-take-le n text in omega arith)))

pasted : (l text : List ℕ) (at n : ℕ) → at < length l → n ≡ min (length text) (length l - at) → put_mid at n l (take n text) ≡ sets l at text
pasted l text at n h e =
    let m : length (take n text) ≡ n = length-take-le n text (omega arith) in
    sym (sets-eq (take n text) l at (omega arith) ∙ rw (m, append_assoc, ← drop-drop n at l))
    ∙ stored_front l text at n h e

-- text behind text
stored_then : (l xs ys : List ℕ) (at : ℕ) → sets (sets l at xs) (at + min (length xs) (length l - at)) ys ≡ sets l at (xs ++ ys)
stored_then l xs ys at =
    let m = length-sets l at xs in
    by_test (leb (at + length xs) (length l)) (λ _. sets (sets l at xs) (at + min (length xs) (length l - at)) ys ≡ sets l at (xs ++ ys))
    (λ u. let h = leb-true _ _ u in ap (λ (k : ℕ). sets (sets l at xs) k ys) (omega arith) ∙ sym (stored_append xs ys l at))
    (λ u.
    let h = leb-false _ _ u in
    stored_past ys (sets l at xs) _ (omega arith) ∙ sym (stored_append xs ys l at ∙ stored_past ys (sets l at xs) _ (omega arith)))

-- ---- what a call leaves of the page

pub put_none : (page : List ℕ) (at : ℕ) → Put page at [] page at
put_none page at = record { bytes = refl; place = omega arith }

-- where the page is full nothing more is written
pub put_full : (page : List ℕ) (at : ℕ) (text : List ℕ) → length page ≤ at → Put page at text page at
put_full page at text h = record { bytes = sym (stored_past text page at h); place = omega arith }

pub put_one : (page : List ℕ) (at b : ℕ) → at < length page → Put page at (b ∷ []) (set page at b) (at + 1)
put_one page at b h = record { bytes = refl; place = omega arith }

module _ {page after : List ℕ} {at next : ℕ} {xs : List ℕ} (p : Put page at xs after next) where
  pub put_length : length after ≡ length page
  put_length = ap length p.bytes ∙ length-sets page at xs

  pub put_then : {last : List ℕ} {end : ℕ} {ys : List ℕ} → Put after next ys last end → Put page at (xs ++ ys) last end
  put_then {last} {end} {ys} q =
      record {
        bytes = by_test (leb (at + length xs) (length page)) (λ _. last ≡ sets page at (xs ++ ys)) (λ e. fits (leb-true _ _ e)) (λ e. full (leb-false _ _ e));
        place =
            let e = p.place in
            let f = q.place in
            let n = put_length in
            let a = length-append xs ys in
            omega arith;
      }
    where
      fits : at + length xs ≤ length page → last ≡ sets page at (xs ++ ys)
      fits h =
          let e : next ≡ at + length xs = let z = p.place in omega arith in
          q.bytes ∙ ap (λ (r : List ℕ). sets r next ys) p.bytes ∙ ap (λ (k : ℕ). sets (sets page at xs) k ys) e ∙ sym (stored_append xs ys page at)

      full : length page < at + length xs → last ≡ sets page at (xs ++ ys)
      full h =
          let n = put_length in
          let m = length-sets page at xs in
          q.bytes
          ∙ stored_past ys after next (let z = p.place in omega arith)
          ∙ p.bytes
          ∙ sym (stored_append xs ys page at ∙ stored_past ys (sets page at xs) (at + length xs) (omega arith))

-- from the page's beginning on: so many of its bytes can be lent on
pub put_counts : {page after : List ℕ} {next : ℕ} {text : List ℕ} → Put page 0 text after next → IsPrefixLen next after
put_counts {page} {after} {next} {text} p =
    let e = p.place in
    let n = put_length p in
    let within : next ≤ length after = omega arith in
    (within, sym (length-take-le next after within))

pub put_as : {page after : List ℕ} {at next : ℕ} {xs ys : List ℕ} → xs ≡ ys → Put page at xs after next → Put page at ys after next
put_as {page} {after} {at} {next} e p = subst (λ (t : List ℕ). Put page at t after next) e p

-- ---- the code's page

-- the page on the same lent bytes
abbrev holding : Page → (bytes : List ℕ) → (at : ℕ) → Page
holding p bytes at = record p { bytes = record p.bytes { now = bytes }; at = at }

same_page : (p : Page) {b c : List ℕ} {i k : ℕ} → b ≡ c → i ≡ k → holding p b i ≡ holding p c k
same_page p {b} {c} {i} e f = ap (λ (l : List ℕ). holding p l i) e ∙ ap (holding p c) f

pub wrote_none : (p : Page) → wrote p [] ≡ p
unfolding wrote
wrote_none p = same_page p refl (omega arith)

pub wrote_append : (p : Page) (xs ys : List ℕ) → wrote (wrote p xs) ys ≡ wrote p (xs ++ ys)
unfolding wrote
wrote_append p xs ys =
    let l = p.bytes.now in
    let m = length-sets l p.at xs in
    let n = length-append xs ys in
    same_page p (stored_then l xs ys p.at) (omega arith)

-- as much of a text as there is room for
pub wrote_front : (p : Page) (text : List ℕ) (n : ℕ) → p.at < length p.bytes.now → n ≡ min (length text) (length p.bytes.now - p.at)
    → holding p (put_mid p.at n p.bytes.now (take n text)) (p.at + n) ≡ wrote p text
unfolding wrote
wrote_front p text n h e = same_page p (pasted p.bytes.now text p.at n h e) (omega arith)

pub wrote_full : (p : Page) (text : List ℕ) → length p.bytes.now ≤ p.at → p ≡ wrote p text
unfolding wrote
wrote_full p text h = same_page p (sym (stored_past text p.bytes.now p.at h)) (omega arith)

-- a text in one piece, and piece by piece
pub ruleset pages = (wrote_front, wrote_full, wrote_none, wrote_append)

-- ---- what the lender of the bytes sees

module _ (p : Page) (text : List ℕ) where
  pub wrote_same : (wrote p text).bytes.ghost_name ≡ p.bytes.ghost_name
  unfolding wrote
  wrote_same = refl

  pub wrote_bytes : (wrote p text).bytes.now ≡ written p.bytes.now p.at text
  unfolding wrote
  wrote_bytes = refl

  pub wrote_at : (wrote p text).at ≡ place_behind p.bytes.now p.at text
  unfolding wrote
  wrote_at = refl

-- what a page holds behind a text is what is said of the bytes that were lent
pub wrote_put : (p : Page) (text : List ℕ) → Put p.bytes.now p.at text (wrote p text).bytes.now (wrote p text).at
wrote_put p text = record { bytes = wrote_bytes p text; place = wrote_at p text }

pub ruleset lent = (wrote_same, wrote_bytes, wrote_at, length-sets, length-take-le)
