-- The laws of an internal controllable line's header (ICL's): each is that of any header, at its form.
use mathlib.Core.Path.{◌≡◌, refl, sym, ◌∙◌, ap}
use mathlib.Core.Bool.{Bool, true, false, false≢true}
use mathlib.Core.List.{List, ◌++◌}
use Prim.Native.Nat.{ℕ, suc, ◌^◌, ◌≤◌, ◌<◌}
use native.Mathlib.Decide.{dec_lt}
use native.Mathlib.Nat.{pow-le-pow_right}
use native.Mathlib.Omega.{arith}
use lib.Dec.{eqb, lit<}
use lib.ListN.{length, take, drop}
use Rattle.tariff.specs.Sheet.{is_count, is_name}
use Rattle.tariff.specs.Reply.{RANGE, Verdict, clear, fault}
use Rattle.tariff.specs.Eligible.{marked}
use Rattle.tariff.proofs.Checks.{then_clear}
use Rattle.tariff.proofs.Tests.{all_at}
use Rattle.keys.specs.Keys.{MARK_LINE}
use Rattle.marks.proofs.Marked.{marked_past}
use Rattle.lines.specs.Cut.{behind}
use Rattle.lines.specs.Pieces.{PIECE, first_piece}
use Rattle.lines.specs.Squeezed.{squeezed}
use Rattle.header.specs.declared.layout.Form.TheVariants.{Icl}
use Rattle.header.specs.Layout.{line_place, line_in_range, layout_form, layout_range, number_on, digit_on}
use Rattle.header.specs.Header.{ICL_MARKS, icl_lines}
use Rattle.header.specs.IclHeader.{icl_count_of, icl_layout_of, icl_hours_of, icl_header_fault, icl_name_of, icl_mark, icl_unmarked, icl_unmarked_under, icl_next_under}
use Rattle.header.proofs.HeaderLines.{none_refused, is_in_range}
use Rattle.header.proofs.Forms.{icl_row, clear_counted}
use Rattle.header.proofs.HeaderEnds.{inside}
use Rattle.header.proofs.HeaderBehind.{what_follows}
use Rattle.header.proofs.HeaderSame.{AlikeInAll, hours_same, fault_same, digits_same}
use Rattle.header.proofs.HeaderFirst.{firsts_alike}
use Rattle.header.proofs.HeaderAlong.{head_alike, head_clear, head_ends}
use Rattle.header.proofs.HeaderLocal.{bytes_alike, piece_alike}
use Rattle.header.proofs.HeaderCounts.{form_apart, refused_at_2}

-- ---- where it ends, and what stands behind it
pub icl_next_inside : (v : Verdict) (s : List ℕ) → icl_next_under v s ≤ length s
icl_next_inside = inside Icl

pub icl_clear_behind : (s : List ℕ) → icl_header_fault s ≡ clear → drop (icl_next_under (icl_header_fault s) s) s ≡ behind s
icl_clear_behind = what_follows Icl

-- ---- texts with the same header: the hours of the day are marked alike
pub record SameIclHeader (s t : List ℕ) : Type 0 where
  pub fault : icl_header_fault s ≡ icl_header_fault t
  pub hours : icl_hours_of s ≡ icl_hours_of t
  pub unmarked : (h : ℕ) → h < icl_hours_of s → icl_unmarked_under (icl_header_fault s) s h ≡ icl_unmarked_under (icl_header_fault t) t h

pub icl_same_header : {s t : List ℕ} → AlikeInAll s t → SameIclHeader s t
icl_same_header {s} {t} alike = record {
  fault = fault_same alike Icl;
  hours = hours_same alike Icl;
  unmarked = λ h u. under (icl_header_fault s) refl h u ∙ ap (λ (v : Verdict). icl_unmarked_under v t h) (fault_same alike Icl);
}
  where
    under : (v : Verdict) → icl_header_fault s ≡ v → (h : ℕ) → h < icl_hours_of s → icl_unmarked_under v s h ≡ icl_unmarked_under v t h
    under clear e h u = ap (λ (d : ℕ). eqb d 0) (digits_same alike Icl e icl_row (lit< tt) h u)
    under (fault number place) e h u = refl

pub icl_same_first : (s t : List ℕ) → first_piece s ≡ first_piece t → SameIclHeader s t
icl_same_first s t e = icl_same_header (firsts_alike s t e)

module _ (others : ℕ) (got s : List ℕ) where
  pub icl_bytes_header : take PIECE got ≡ take PIECE (squeezed (suc others) s) → SameIclHeader got s
  icl_bytes_header e = icl_same_header (bytes_alike others got s e)

  pub icl_piece_header : first_piece got ≡ first_piece (squeezed (suc others) s) → SameIclHeader got s
  icl_piece_header e = icl_same_header (piece_alike others got s e)

-- ---- whatever follows it
module _ (head : List ℕ) (e : icl_header_fault head ≡ clear) (n : icl_next_under (icl_header_fault head) head ≡ length head) (body : List ℕ) where
  same : SameIclHeader (head ++ body) head
  same = icl_same_header (head_alike Icl head e n body)

  pub icl_fault_append : icl_header_fault (head ++ body) ≡ clear
  icl_fault_append = head_clear Icl head e n body

  pub icl_hours_append : icl_hours_of (head ++ body) ≡ icl_hours_of head
  icl_hours_append = same.hours

  pub icl_unmarked_append : (h : ℕ) → h < icl_hours_of head → icl_unmarked (head ++ body) h ≡ icl_unmarked head h
  icl_unmarked_append h u = rw (icl_fault_append, e) at (same.unmarked h (rw same.hours u))

  pub icl_next_append : icl_next_under (icl_header_fault (head ++ body)) (head ++ body) ≡ length head
  icl_next_append = head_ends Icl head e n body

-- ---- what its count decides
module _ (s : List ℕ) where
  pub icl_another_count_is_range : is_name (icl_name_of s) ≡ true → is_count (icl_count_of s) ≡ false → layout_form (icl_layout_of s) (icl_hours_of s) s ≡ clear
      → icl_header_fault s ≡ fault RANGE 2
  unfolding line_in_range line_place number_on
  icl_another_count_is_range named = refused_at_2 Icl s (form_apart Icl refl) named

-- ---- the marks of one that is read
admitted_few : (digit : ℕ) → marked ICL_MARKS digit ≡ true → digit ≤ 2
admitted_few digit e = go (dec_lt 2 digit)
  where
    go : Dec (2 < digit) → digit ≤ 2
    go (yes u) =
        let deep : 3 ≤ digit = omega arith in
        let large : 2 ^ 3 ≤ 2 ^ digit = pow-le-pow_right (lit< tt) deep in
        absurd (false≢true (sym (marked_past ICL_MARKS digit (omega arith)) ∙ e))
    go (no u) = omega arith

-- each hour has one of the three that `mark` admits
pub icl_marks_few : (s : List ℕ) → icl_header_fault s ≡ clear → (h : ℕ) → h < icl_hours_of s → icl_mark s h ≤ 2
unfolding layout_range line_in_range digit_on
icl_marks_few s e h u =
    let checks = then_clear (layout_form (icl_layout_of s) (icl_hours_of s) s) (layout_range (icl_layout_of s) (icl_hours_of s) s) e in
    go (is_count (icl_count_of s)) (clear_counted Icl s e) checks.1
  where
    go : (judged : Bool) → judged ≡ true → layout_range (icl_lines judged) (icl_hours_of s) s ≡ clear
        → digit_on (icl_lines judged) (icl_hours_of s) MARK_LINE s h ≤ 2
    go true j range =
        let row = none_refused (is_in_range (icl_lines true) (icl_hours_of s) s) RANGE (length (icl_lines true)) range 2 (lit< tt) in
        admitted_few _ (all_at _ (icl_hours_of s) h row u)
    go false j range = absurd (false≢true j)
