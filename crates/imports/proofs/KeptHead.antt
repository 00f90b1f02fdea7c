-- The first two lines of an import are decided by their first piece, and by their first 10,640 bytes, whether they are refused or not.
use mathlib.Core.Path.{◌≡◌, refl, sym, ◌∙◌, ap}
use mathlib.Core.Bool.{true, false≢true}
use mathlib.Core.List.{List}
use Prim.Native.Nat.{ℕ, ◌<◌, ◌≤◌}
use native.Mathlib.Omega.{arith}
use lib.ListN.{take, drop}
use lib.Seq.{get_or-take}
use Rattle.std.specs.Prelude.{if◌then◌else◌, None, Some}
use Rattle.exact.proofs.Parts.{by_test}
use Rattle.tariff.specs.Reply.{FORM, RANGE, Verdict, clear, unless, ◌then◌}
use Rattle.tariff.proofs.Checks.{then_clear, unless_clear}
use Rattle.text.specs.Text.{byte_at, key_at, Next}
use Rattle.keys.specs.Keys.{IMPORT}
use Rattle.lines.specs.Line.{is_at, place_in, and_then, value_in, line_feed, line_at}
use Rattle.lines.specs.Cut.{empty_in, behind}
use Rattle.lines.specs.Pieces.{PIECE, up_to_place, first_piece}
use Rattle.lines.proofs.Along.{closing, went, unmoved, Stretch, values_placed, line_placed, Along, stretch}
use Rattle.lines.proofs.Cut.{behind_at, behind_range}
use Rattle.lines.proofs.Passed.{feed_empty, line_passed}
use Rattle.lines.proofs.Pieces.{Shares, whole, empty, lines, piece_shares}
use Rattle.lines.proofs.Agree.{SamePlace, goes_on, same_place, first_bytes, line, feed}
use Rattle.intake.proofs.Kept.{FirstKept, short, long}
use Rattle.imports.specs.Import.{says_hours, pairs_in, head_line, head_place, name_in, cts_in, count_in, hours_in, head_in_range, head_fault, import_body}
use Rattle.imports.specs.Demand.{SameHead}

-- ---- line 1 has two pairs or three
module _ (s : List ℕ) where
  pairs_few : pairs_in s ≤ 3
  pairs_few = by_test (says_hours s) (λ t. (if t then 3 else 2) ≤ 3) (λ e. omega arith) (λ e. omega arith)

  -- and holds no empty line
  head_passed : (j : ℕ) → head_line s ≡ Some j → empty_in true s 0 ≡ empty_in true (drop j s) j
  head_passed j =
      by_test (says_hours s) (λ t. line_at IMPORT (if t then 3 else 2) s 0 ≡ Some j → empty_in true s 0 ≡ empty_in true (drop j s) j)
      (λ e. line_passed s IMPORT 2 refl j)
      (λ e. line_passed s IMPORT 1 refl j)

-- line 1 of two texts: the place behind it, its name and its mark, and the count that it says or leaves out
record SameLine (s t : List ℕ) : Type 0 where
  place : head_line s ≡ head_line t
  name : name_in s ≡ name_in t
  cts : cts_in s ≡ cts_in t
  count : count_in s ≡ count_in t

same_head : {s t : List ℕ} → SameLine s t → head_place s ≡ head_place t → SameHead s t
unfolding head_fault hours_in
same_head o e = record { fault = rw (o.place, o.name, o.cts, o.count, e); name = o.name; cts = o.cts; hours = rw o.count }

-- it has at most 49 bytes, from which a stretch that both texts have begins
module _ {s t : List ℕ} {f : ℕ → ℕ} {In : ℕ → ℕ → Type 0} (o : Stretch s t f f In) (start : f 0 ≡ 0) (enough : In 49 0) where
  pairs_same : (n : ℕ) → n ≤ 3 → line_at IMPORT n s 0 ≡ line_at IMPORT n t 0
  pairs_same n u = rw start at (unmoved (line_placed o {Q = λ j. Unit {0}} IMPORT n 0 49 0 (omega arith) enough (λ j l e. tt)))

  value_same : (n : ℕ) → n < 3 → value_in IMPORT s 0 n ≡ value_in IMPORT t 0 n
  value_same n u = rw start at (values_placed o IMPORT n 49 0 (omega arith) enough)

  same_line : SameLine s t
  unfolding count_in
  same_line =
      let third = pairs_same 3 (omega arith) in
      record {
        place = rw third (pairs_same (pairs_in t) (pairs_few t));
        name = value_same 0 (omega arith);
        cts = value_same 1 (omega arith);
        count = rw (third, value_same 2 (omega arith));
      }

-- ---- by the first bytes
module _ (s t : List ℕ) (N : ℕ) (agree : (i : ℕ) → i < N → byte_at s i ≡ byte_at t i) (enough : 50 ≤ N) where
  agreed_pairs : (n : ℕ) → n ≤ 3 → SamePlace 49 (line_at IMPORT n s 0) (line_at IMPORT n t 0)
  agreed_pairs n u = line s t N agree IMPORT n 0 49 (omega arith) (omega arith)

  agreed_line : SamePlace 49 (head_line s) (head_line t)
  agreed_line = rw (same_place (agreed_pairs 3 (omega arith))) (agreed_pairs (pairs_in t) (pairs_few t))

  agreed_place : head_place s ≡ head_place t
  unfolding head_place
  agreed_place = same_place (goes_on _ _ agreed_line (λ i l. feed s t N agree i N (omega arith) (omega arith)))

  agreed_head : SameHead s t
  agreed_head = same_head (same_line (first_bytes s t N agree N (omega arith)) refl (omega arith)) agreed_place

first_enough : (s : List ℕ) → SameHead (take PIECE s) s
first_enough s = agreed_head (take PIECE s) s PIECE (λ i h. get_or-take PIECE s i 256 h) (omega arith)

-- ---- by the first piece
module _ {s t : List ℕ} where
  along_line : (m : ℕ) → Along s t 0 0 m → SameLine s t
  along_line m o = same_line (stretch o) refl (omega arith)

  shared_line : Shares s t → SameLine s t
  shared_line (whole e) = record {
    place = ap (λ (l : List ℕ). head_line l) e;
    name = ap (λ (l : List ℕ). name_in l) e;
    cts = ap (λ (l : List ℕ). cts_in l) e;
    count = ap count_in e;
  }
  shared_line (empty f g) = along_line 0 (record { same = λ i l. let z : i ≡ 0 = omega arith in rw z (f ∙ sym g); stop = ap closing f })
  shared_line (lines m line next) = along_line m line

module _ (s : List ℕ) where
  piece_line : SameLine s (first_piece s)
  piece_line = shared_line (piece_shares s)

  -- behind line 1 stands a byte of the first piece, for that line holds no empty one
  cut_place : (i : ℕ) → empty_in true s 0 ≡ Some i → head_line s ≡ head_line (take i s) → head_place s ≡ head_place (take i s)
  unfolding head_place key_at
  cut_place i e same = go (head_line s) refl
    where
      go : (x : Next) → head_line s ≡ x → and_then (head_line s) (line_feed s) ≡ and_then (head_line (take i s)) (line_feed (take i s))
      go (Some j) q =
          let inside = (behind_range s j i true (sym (head_passed s j q) ∙ e)).0 in
          rw (← same, q, get_or-take i s j 256 inside)
      go None q = rw (← same, q)

  piece_place : head_place s ≡ head_place (first_piece s)
  unfolding first_piece
  piece_place = go (empty_in true s 0) refl piece_line.place
    where
      go : (x : Next) → empty_in true s 0 ≡ x → head_line s ≡ head_line (up_to_place x s) → head_place s ≡ head_place (up_to_place x s)
      go (Some i) e same = cut_place i e same
      go None e same = refl

  first_head : SameHead s (first_piece s)
  first_head = same_head piece_line piece_place

-- ---- so what is kept of them is enough
turned : {s t : List ℕ} → SameHead s t → SameHead t s
turned o = record { fault = sym o.fault; name = sym o.name; cts = sym o.cts; hours = sym o.hours }

-- each says what a part of it says, and that is the same part
via : {s t p q : List ℕ} → SameHead s p → SameHead t q → p ≡ q → SameHead s t
via a b e = record {
  fault = a.fault ∙ ap head_fault e ∙ sym b.fault;
  name = a.name ∙ ap (λ (l : List ℕ). name_in l) e ∙ sym b.name;
  cts = a.cts ∙ ap (λ (l : List ℕ). cts_in l) e ∙ sym b.cts;
  hours = a.hours ∙ ap hours_in e ∙ sym b.hours;
}

pub head_kept : {got text : List ℕ} → FirstKept got text → SameHead got text
head_kept {got} {text} (short e) = via (first_head got) (first_head text) e
head_kept {got} {text} (long e) = via (turned (first_enough got)) (turned (first_enough text)) e

-- ---- behind a head that is not refused stands what stands behind the first empty line
module _ (s : List ℕ) where
  place_behind_lem : (x : Next) → head_place s ≡ x → is_at x ≡ true → drop (place_in x) s ≡ behind s
  unfolding head_place
  place_behind_lem (Some k) e u =
      let front = went (head_line s) (line_feed s) k e in
      let j = front.0 in
      let next = ap (λ (y : Next). and_then y (line_feed s)) (sym front.1) ∙ e in
      behind_at s 0 k (head_passed s j front.1 ∙ feed_empty s j k next)
  place_behind_lem None e u = absurd (false≢true u)

  pub clear_behind : head_fault s ≡ clear → import_body s ≡ behind s
  unfolding head_fault
  clear_behind e =
      let ranges : Verdict = unless (head_in_range s) RANGE 1 in
      let second : Verdict = unless (is_at (head_place s)) FORM 2 in
      let rest = (then_clear (unless (is_at (head_line s)) FORM 1) (second then ranges) e).1 in
      place_behind_lem (head_place s) refl (unless_clear (is_at (head_place s)) FORM 2 (then_clear second ranges rest).0)
