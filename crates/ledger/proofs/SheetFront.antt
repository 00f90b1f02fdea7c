-- The front of what `day` reads is three headers: what the code reads of it, and that their own bytes decide it, and what is kept of them.
use mathlib.Core.Path.{◌≡◌, refl, sym, ap, ◌∙◌, subst}
use mathlib.Core.Bool.{Bool, true}
use mathlib.Core.List.{List}
use Prim.Native.Nat.{ℕ, zero, suc, ◌+◌, ◌≤◌, ◌<◌}
use native.Mathlib.Omega.{arith}
use lib.Dec.{eqb}
use lib.ListN.{length, drop}
use lib.Seq.{get_or-take}
use Rattle.std.specs.Prelude.{if◌then◌else◌}
use Rattle.exact.specs.Whole.{eq_z}
use Rattle.exact.proofs.Parts.{by_test}
use Rattle.tariff.specs.declared.Expected.{Expected}
use Rattle.tariff.specs.declared.MarkedDay.{MarkedDay}
use Rattle.tariff.specs.Sheet.{LONGEST_DAY, is_count}
use Rattle.tariff.specs.Reply.{RANGE, Reply, clear, unless}
use Rattle.tariff.specs.Eligible.{excluded, no_day}
use Rattle.tariff.proofs.Counts.{hours_some, hours_few}
use Rattle.text.specs.Text.{LF, byte_at}
use Rattle.marks.specs.Word.{word}
use Rattle.marks.specs.Days.{within}
use Rattle.marks.proofs.Excluded.{word_of_day}
use Rattle.keys.specs.Keys.{UNIT_LINE}
use Rattle.lines.specs.Pieces.{PIECE, rest_after, first_piece}
use Rattle.lines.specs.Squeezed.{squeezed}
use Rattle.lines.proofs.Pieces.{Shares, whole, empty, lines, piece_shares}
use Rattle.lines.proofs.Squeezed.{first_byte_stands, rest_squeezed}
use Rattle.intake.proofs.Kept.{FirstKept, short, long}
use Rattle.blocks.specs.Block.{Block, block_of}
use Rattle.sheet.specs.Settle.{reply_to}
use Rattle.sheet.proofs.BlockDemands.{first_bytes_decide}
use Rattle.sheet.proofs.Closing.{piece_decides}
use Rattle.header.specs.Layout.{line_of}
use Rattle.header.specs.Header.{layout_by, is_form2, form_by, count_of, hours_of, unit_line}
use Rattle.header.proofs.Forms.{unit_line_lem}
use Rattle.header.proofs.HeaderAlike.{SameHeader}
use Rattle.header.proofs.HeaderFirst.{same_first}
use Rattle.header.proofs.HeaderLocal.{piece_header, bytes_header}
use Rattle.ledger.specs.declared.heads.Head.{Head}
use Rattle.ledger.specs.declared.heads.Judged.{Judged}
use Rattle.ledger.specs.Headers.{is_lacking, day_said, neighbour_of, neighbour_fault, unit_fault, headers_fault, at_line, which_header}
use Rattle.ledger.specs.Day.{generator_answer, front_of}
use Rattle.ledger.specs.Walk.{OwnRead, NeighbourRead, JudgedAs, FrontRead}
use Rattle.ledger.proofs.AnyFront.{SameFront, FrontLaws}
use Rattle.ledger.proofs.ThreeHeads.{judged_by}

-- ---- what the code reads of it

neighbour_few : (t : List ℕ) → (neighbour_of t).hours ≤ LONGEST_DAY
neighbour_few t =
    by_test (is_lacking t) (λ b. (if b then no_day else day_said t).hours ≤ LONGEST_DAY) (λ e. omega arith) (λ e. hours_few (count_of t))

module _ (s : List ℕ) (before own after : Head) (judged : Judged)
    (b : NeighbourRead s before) (o : OwnRead (rest_after 1 s) own) (a : NeighbourRead (rest_after 2 s) after)
    (j : JudgedAs (headers_fault s (rest_after 1 s) (rest_after 2 s)) judged) where
  abbrev days : (MarkedDay → MarkedDay) → ℕ
  days f = word (f own.day).hours (excluded (f before.day) (f own.day) (f after.day))

  says_days : days within ≡ word (hours_of (rest_after 1 s)) (excluded (neighbour_of s) (day_said (rest_after 1 s)) (neighbour_of (rest_after 2 s)))
  says_days =
      (λ i. word (within (o.day i)).hours (excluded (within (b.day i)) (within (o.day i)) (within (a.day i))))
      ∙ word_of_day (neighbour_of s) (day_said (rest_after 1 s)) (neighbour_of (rest_after 2 s))
      (neighbour_few s) (hours_few (count_of (rest_after 1 s))) (neighbour_few (rest_after 2 s))

  pub front_read : (word next : ℕ) → word ≡ days within → drop next s ≡ rest_after 3 s → next ≤ length s
      → FrontRead s (front_of s) (record { found = judged.found; header = judged.header; hours = own.day.hours; excluded = word; next = next })
  front_read word next says body inside = record {
    fault = j.fault;
    header = j.header;
    hours = ap (λ (d : MarkedDay). d.hours) o.day;
    some = hours_some (count_of (rest_after 1 s));
    few = hours_few (count_of (rest_after 1 s));
    excluded = says ∙ says_days;
    inside = inside;
    body = body;
  }

-- ---- two inputs whose three headers begin with the same byte and say the same

pub record SameHead (s t : List ℕ) : Type 0 where
  pub first : byte_at s 0 ≡ byte_at t 0
  pub said : SameHeader s t

line_same : {s t : List ℕ} → SameHeader s t → unit_line s ≡ unit_line t
line_same {s} {t} o =
    ap suc
    (sym (unit_line_lem (is_form2 s) (is_count (count_of s)))
    ∙ ap (λ (two : Bool). line_of UNIT_LINE (layout_by (form_by two) true)) o.two
    ∙ unit_line_lem (is_form2 t) (is_count (count_of t)))

pub day_same : {s t : List ℕ} → SameHeader s t → day_said s ≡ day_said t
day_same o = λ i. record { hours = o.hours i; marks = o.marks i }

module _ {s t : List ℕ} (o : SameHead s t) where
  lacking_same : is_lacking s ≡ is_lacking t
  lacking_same = ap (λ (b : ℕ). eqb b LF) o.first

  fault_same : neighbour_fault s ≡ neighbour_fault t
  fault_same = λ i. if lacking_same i then clear else o.said.fault i

  pub neighbour_same : neighbour_of s ≡ neighbour_of t
  neighbour_same = λ i. if lacking_same i then no_day else day_same o.said i

  unit_same : {own other : List ℕ} → SameHeader own other → unit_fault s own ≡ unit_fault t other
  unit_same p = λ i. if lacking_same i then clear else unless (eq_z (o.said.unit i) (p.unit i)) RANGE (line_same o.said i)

pub headers_same : {s t own other after later : List ℕ} → SameHead s t → SameHead own other → SameHead after later
    → headers_fault s own after ≡ headers_fault t other later
headers_same b o a =
    λ i. judged_by (fault_same b i) (o.said.fault i) (fault_same a i) (unit_same b o.said i) (unit_same a o.said i)

pub same_front : (s t : List ℕ) → ((k : ℕ) → k < 3 → SameHead (rest_after k s) (rest_after k t)) → SameFront (front_of s) (front_of t)
unfolding rest_after
same_front s t heads =
    let b = heads 0 (omega arith) in
    let o = heads 1 (omega arith) in
    let a = heads 2 (omega arith) in
    let judged = headers_same b o a in
    record {
      fault = ap at_line judged;
      header = ap which_header judged;
      hours = o.said.hours;
      is_excluded = λ k u i. excluded (neighbour_same b i) (day_same o.said i) (neighbour_same a i) k;
    }

-- ---- a block and a header of which enough is kept

block_kept : (got text : List ℕ) → FirstKept got text → block_of got ≡ block_of text
block_kept got text (short e) = sym (piece_decides got) ∙ ap block_of e ∙ piece_decides text
block_kept got text (long e) = sym (first_bytes_decide got) ∙ ap block_of e ∙ first_bytes_decide text

abbrev answered : Block → Bool → Expected → Reply
answered b is_excluded expected = reply_to b is_excluded expected 30

-- the first byte of a text is its first piece's
piece_byte : (s : List ℕ) → byte_at s 0 ≡ byte_at (first_piece s) 0
piece_byte s = go (piece_shares s)
  where
    go : {t : List ℕ} → Shares s t → byte_at s 0 ≡ byte_at t 0
    go (whole e) = ap (λ (l : List ℕ). byte_at l 0) e
    go (empty f g) = f ∙ sym g
    go (lines m line next) = line.same 0 (omega arith)

pub same_piece : (s t : List ℕ) → first_piece s ≡ first_piece t → SameHead s t
same_piece s t e = record { first = piece_byte s ∙ ap (λ (l : List ℕ). byte_at l 0) e ∙ sym (piece_byte t); said = same_first s t e }

module _ (others : ℕ) (got s : List ℕ) where
  head_kept : FirstKept got (squeezed (suc others) s) → SameHead got s
  head_kept (short e) = record {
    first = piece_byte got ∙ ap (λ (l : List ℕ). byte_at l 0) e ∙ sym (piece_byte (squeezed (suc others) s)) ∙ first_byte_stands (suc others) s;
    said = piece_header others got s e;
  }
  head_kept (long e) = record {
    first =
        sym (get_or-take PIECE got 0 256 (omega arith))
        ∙ ap (λ (l : List ℕ). byte_at l 0) e
        ∙ get_or-take PIECE (squeezed (suc others) s) 0 256 (omega arith)
        ∙ first_byte_stands (suc others) s;
    said = bytes_header others got s e;
  }

-- header k of the three, behind which `others` more are squeezed
heads_kept : (got s : List ℕ) (k others : ℕ) → k + suc others ≡ 3 → FirstKept (rest_after k got) (rest_after k (squeezed 3 s)) → SameHead (rest_after k got) (rest_after k s)
heads_kept got s k others e f =
    head_kept others (rest_after k got) (rest_after k s)
    (subst (FirstKept (rest_after k got)) (ap (λ (n : ℕ). rest_after k (squeezed n s)) (sym e) ∙ rest_squeezed k (suc others) s) f)

pub generator_decides : (s : List ℕ) → generator_answer (first_piece s) ≡ generator_answer s
generator_decides s = ap answered (piece_decides s)

-- its front is three pieces
pub sheet_laws : FrontLaws 3 front_of generator_answer
sheet_laws = record {
  kind = λ s. refl;
  some = λ s. hours_some (count_of (rest_after 1 s));
  few = λ s. hours_few (count_of (rest_after 1 s));
  blocks = λ s e. refl;
  by_first = λ s t e. same_front s t (λ k u. same_piece (rest_after k s) (rest_after k t) (e k u));
  by_kept = λ got s e. same_front got s (λ k u. go got s k u (e k u));
  by_block = λ got text e. ap answered (block_kept got text e);
}
  where
    go : (got s : List ℕ) (k : ℕ) → k < 3 → FirstKept (rest_after k got) (rest_after k (squeezed 3 s)) → SameHead (rest_after k got) (rest_after k s)
    go got s zero u = heads_kept got s 0 2 refl
    go got s (suc zero) u = heads_kept got s 1 1 refl
    go got s (suc (suc zero)) u = heads_kept got s 2 0 refl
    go got s (suc (suc (suc k))) u = absurd (omega arith)
