-- The front of an internal controllable line's day is its header: which hours are eligible, and that its own bytes decide it, and what is kept of
-- them.
use mathlib.Core.Path.{◌≡◌, refl, sym, ap, ◌∙◌}
use mathlib.Core.Bool.{Bool, false}
use mathlib.Core.List.{List, [], ◌++◌}
use mathlib.Core.Logic.{◌↔◌}
use Prim.Native.Nat.{ℕ, ◌≤◌, ◌<◌}
use native.Mathlib.Omega.{arith}
use borrow.Author.Tests.{eqb-false, ne_eqb}
use lib.ListN.{length, drop}
use lib.Seq.{drop-append_seam}
use Rattle.tariff.specs.declared.Expected.{Expected}
use Rattle.tariff.specs.Reply.{Reply, Verdict, clear, shown}
use Rattle.tariff.proofs.Counts.{hours_some, hours_few}
use Rattle.marks.specs.Word.{word}
use Rattle.lines.specs.Pieces.{rest_after, first_piece}
use Rattle.lines.specs.Squeezed.{squeezed}
use Rattle.intake.proofs.Kept.{FirstKept, short, long}
use Rattle.header.specs.declared.layout.Form.TheVariants.{Icl}
use Rattle.header.specs.IclHeader.{icl_count_of, icl_hours_of, icl_header_fault, icl_mark, icl_unmarked, icl_unmarked_under, icl_next_under}
use Rattle.header.proofs.HeaderEnds.{ends_text}
use Rattle.header.proofs.IclHeaders.{
  SameIclHeader,
  icl_next_inside,
  icl_clear_behind,
  icl_same_first,
  icl_bytes_header,
  icl_piece_header,
  icl_marks_few,
  icl_fault_append,
  icl_hours_append,
  icl_unmarked_append,
  icl_next_append,
}
use Rattle.iclblocks.specs.IclBlock.{IclBlock, icl_block_of}
use Rattle.iclblocks.proofs.IclClosing.{icl_decided, icl_piece_decides}
use Rattle.iclsheet.specs.IclSettle.{icl_reply_to}
use Rattle.ledger.specs.declared.front.Front as code
use Rattle.ledger.specs.IclDay.{icl_answer, icl_front_of}
use Rattle.ledger.specs.Walk.{FrontRead}
use Rattle.ledger.proofs.AnyFront.{SameFront, FrontLaws}

-- ---- under a header that is read an hour is eligible exactly when its digit of `mark` is 1 or 2
pub as_marked_icl : (s : List ℕ) → (icl_front_of s).fault ≡ clear → (k : ℕ) → k < (icl_front_of s).hours
    → ((icl_front_of s).is_excluded k ≡ false)
    ↔ ((1 ≤ icl_mark s k) × (icl_mark s k ≤ 2))
as_marked_icl s e k u =
    let own = ap (λ (v : Verdict). icl_unmarked_under v s k) e in
    let few = icl_marks_few s e k u in (
      λ q. let some : icl_mark s k ≡ 0 → ⊥ = eqb-false (icl_mark s k) 0 (sym own ∙ q) in (omega arith, few),
      λ m. own ∙ ne_eqb (icl_mark s k) 0 (λ (q : icl_mark s k ≡ 0). let some = m.0 in absurd (omega arith)),
    )

-- ---- what the code reads of it
pub icl_front_read : (s : List ℕ) (r : code.Front) → shown r.found ≡ icl_header_fault s
    → r.header ≡ 0 → r.excluded ≡ word (icl_hours_of s) (icl_unmarked_under (icl_header_fault s) s) → r.hours ≡ icl_hours_of s → r.next ≡ icl_next_under (icl_header_fault s) s
    → FrontRead s (icl_front_of s) r
icl_front_read s r found which says hours next = record {
  fault = found;
  header = which;
  hours = hours;
  some = hours_some (icl_count_of s);
  few = hours_few (icl_count_of s);
  excluded = says;
  inside = rw next (icl_next_inside (icl_header_fault s) s);
  body = ap (λ (n : ℕ). drop n s) next;
}

-- ---- a block and a header of which enough is kept

block_kept : (got text : List ℕ) → FirstKept got text → icl_block_of got ≡ icl_block_of text
block_kept got text (short e) = sym (icl_piece_decides got) ∙ ap icl_block_of e ∙ icl_piece_decides text
block_kept got text (long e) = sym (icl_decided got) ∙ ap icl_block_of e ∙ icl_decided text

abbrev answered : IclBlock → Bool → Expected → Reply
answered b is_excluded expected = icl_reply_to b is_excluded expected 30

same_front : {s t : List ℕ} → SameIclHeader s t → SameFront (icl_front_of s) (icl_front_of t)
same_front o = record { fault = o.fault; header = refl; hours = o.hours; is_excluded = λ k u. o.unmarked k (rw o.hours u) }

header_kept : (got s : List ℕ) → FirstKept got (squeezed 1 s) → SameIclHeader got s
header_kept got s (short e) = icl_piece_header 0 got s e
header_kept got s (long e) = icl_bytes_header 0 got s e

pub icl_decides : (s : List ℕ) → icl_answer (first_piece s) ≡ icl_answer s
icl_decides s = ap answered (icl_piece_decides s)

-- its front is one piece
pub icl_laws : FrontLaws 1 icl_front_of icl_answer
unfolding rest_after
icl_laws = record {
  kind = λ s. refl;
  some = λ s. hours_some (icl_count_of s);
  few = λ s. hours_few (icl_count_of s);
  blocks = icl_clear_behind;
  by_first = λ s t e. same_front (icl_same_first s t (e 0 (omega arith)));
  by_kept = λ got s e. same_front (header_kept got s (e 0 (omega arith)));
  by_block = λ got text e. ap answered (block_kept got text e);
}

-- ---- a header alone stands in front of every day that begins with it
module _ (head : List ℕ) (read : (icl_front_of head).fault ≡ clear) (alone : (icl_front_of head).body ≡ []) (body : List ℕ) where
  ends : icl_next_under (icl_header_fault head) head ≡ length head
  ends = ends_text Icl (icl_header_fault head) head alone

  pub icl_clears : (icl_front_of (head ++ body)).fault ≡ clear
  icl_clears = icl_fault_append head read ends body

  pub icl_count : (icl_front_of (head ++ body)).hours ≡ (icl_front_of head).hours
  icl_count = icl_hours_append head read ends body

  pub icl_marked : (k : ℕ) → k < (icl_front_of head).hours → (icl_front_of (head ++ body)).is_excluded k ≡ icl_unmarked head k
  icl_marked k u = rw icl_clears (icl_unmarked_append head read ends body k u)

  pub icl_behind : (icl_front_of (head ++ body)).body ≡ body
  icl_behind = ap (λ (n : ℕ). drop n (head ++ body)) (icl_next_append head read ends body) ∙ drop-append_seam head body
