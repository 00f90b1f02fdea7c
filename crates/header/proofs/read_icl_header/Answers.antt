-- `read_icl_header` meets its contract: the hours that the row of marks leaves out, and each hour where a check refuses.
use mathlib.Core.Path.{◌≡◌, sym, ◌∙◌, ap}
use mathlib.Core.Bool.{true}
use native.Mathlib.Omega.{arith}
use lib.Dec.{eqb, lit<}
use Rattle.tariff.specs.Sheet.{is_count}
use Rattle.tariff.specs.Reply.{Verdict, clear}
use Rattle.tariff.proofs.Counts.{hours_few}
use Rattle.keys.specs.Keys.{MARK_LINE}
use Rattle.lines.specs.Line.{place_in}
use Rattle.marks.specs.Word.{word}
use Rattle.header.specs.declared.layout.Form.TheVariants.{Icl}
use Rattle.header.specs.Layout.{line_place, digit_on}
use Rattle.header.specs.Header.{icl_lines, next_in}
use Rattle.header.specs.IclHeader.{icl_count_of, icl_hours_of, icl_header_fault, icl_unmarked_under}
use Rattle.header.specs.Places.{Placed, fault_of}
use Rattle.header.proofs.Said.{word_told}
use Rattle.header.proofs.Forms.{icl_row, row_stands, clear_counted}
use Rattle.header.proofs.read_icl_header.Goals as goal
use Rattle.header.proofs.read_icl_header.Goals.{In-Ok}

-- no check refuses what is read: its row is judged
module _ (c : In-Ok) where
  clears : icl_header_fault c.args.s.now ≡ clear
  clears = sym (ap fault_of (sym c.in-Ok.is) ∙ c.head_of-head.ensures.told)

  judged : true ≡ is_count (icl_count_of c.args.s.now)
  judged = sym (clear_counted Icl c.args.s.now clears)

  placed : Placed (icl_lines true) c.head_of-head.result.hours c.args.s.now c.in-Ok.at
  placed = rw c.in-Ok.is at c.head_of-head.ensures.placed

pub row_word-requires : goal.row_word-requires
row_word-requires c =
    let h = (goal.at.row_word-requires c).In-Ok in
    (row_stands Icl _ c.args.s.now _ (placed h) icl_row (lit< tt), omega (arith, c.head_of-head.ensures.hours, hours_few (icl_count_of c.args.s.now)))

pub returns-in-Ok-clause-unmarked : goal.returns-in-Ok-clause-unmarked
returns-in-Ok-clause-unmarked c =
    let h = (goal.at.returns-in-Ok-clause-unmarked c).In-Ok in
    let s = c.args.s.now in
    let hours = c.head_of-head.ensures.hours in
    word_told (icl_lines true) _ s _ (placed h) MARK_LINE icl_row.1 (omega arith) 0 c.row_word.ensures
    ∙ (λ i. word (hours i) (λ h'. eqb (digit_on (icl_lines (judged h i)) (hours i) MARK_LINE s h') 0))
    ∙ ap (λ (v : Verdict). word (icl_hours_of s) (icl_unmarked_under v s)) (sym (clears h))

pub returns-in-Ok-clause-next : goal.returns-in-Ok-clause-next
returns-in-Ok-clause-next c =
    let h = (goal.at.returns-in-Ok-clause-next c).In-Ok in
    let s = c.args.s.now in
    ap place_in (sym (placed h 4 (omega arith)))
    ∙ (λ i. place_in (line_place (icl_lines (judged h i)) (c.head_of-head.ensures.hours i) 4 s))
    ∙ ap (λ (v : Verdict). next_in Icl v s) (sym (clears h))
