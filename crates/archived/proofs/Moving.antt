-- A sheet that moves begins with the first lines of its form. So it is those and a rest, and becomes the other's with the same rest.
use mathlib.Core.Path.{◌≡◌, refl, sym, ◌∙◌, ap, subst}
use mathlib.Core.List.{List, ◌++◌}
use Prim.Native.Nat.{ℕ, ◌+◌, ◌≤◌}
use native.Mathlib.Omega.{arith}
use lib.IntN.{ℤ}
use lib.ListN.{length, drop, length-append}
use lib.Seq.{drop-append_seam}
use Rattle.tariff.specs.declared.Marks.{Marks}
use Rattle.tariff.specs.Sheet.{USUAL_DAY}
use Rattle.tariff.specs.Reply.{Verdict, clear, fault}
use Rattle.text.specs.Decimal.{natural}
use Rattle.lines.specs.Cut.{behind}
use Rattle.header.specs.Header.{header_fault, unit_of, marks_of, marks_under}
use Rattle.header.proofs.HeaderBehind.{clear_behind}
use Rattle.ledger.specs.Headers.{day_said}
use Rattle.spelling.specs.Header.{unit_and_marks_text, header_text}
use Rattle.spelling.proofs.Spelling.{a_header_that_is_read_is_its_text}
use Rattle.archive.specs.declared.Way.{Way}
use Rattle.archive.specs.declared.Way.TheVariants.{Up, Down}
use Rattle.archive.specs.Move.{back, first_lines, moved, move_fault, moved_under, moved_text, Moves}
use Rattle.archive.proofs.FirstLines.{is_two, form_is, hours_are}
use Rattle.archive.proofs.BothForms.{moved_clear, moved_hours, moved_unit, moved_marks, moved_behind}
use Rattle.archive.proofs.Refusals.{moves_when, when_moves}

back_again : (way : Way) → back (back way) ≡ way
back_again Up = refl
back_again Down = refl

-- ---- the text of a header of a usual day, line by line
lines_printed : (way : Way) (unit : ℤ) (m : Marks) (body : List ℕ) → header_text (is_two way) USUAL_DAY unit m ++ body ≡ first_lines way ++ (unit_and_marks_text USUAL_DAY unit m ++ body)
unfolding natural
lines_printed Up unit m body = refl
lines_printed Down unit m body = refl

module _ (way : Way) (s : List ℕ) (e : move_fault way s ≡ clear) where
  abbrev pub rest : List ℕ
  rest = drop (length (first_lines way)) s

  pub begins : s ≡ first_lines way ++ rest
  begins =
      let when = moves_when s way e in
      let two = when.1 in
      let hours = when.2 in
      let body = behind s in
      let text = a_header_that_is_read_is_its_text s when.0 ∙ (λ i. header_text (two i) (hours i) (unit_of s) (marks_of s) ++ body) ∙ lines_printed way (unit_of s) (marks_of s) body in
      text ∙ ap (λ (l : List ℕ). first_lines way ++ l) (sym (ap (drop (length (first_lines way))) text ∙ drop-append_seam (first_lines way) _))

  header_read : header_fault (first_lines way ++ rest) ≡ clear
  header_read = subst (λ (l : List ℕ). header_fault l ≡ clear) begins (moves_when s way e).0

  -- ---- it becomes a sheet that goes back
  pub moved_is : moved way s ≡ first_lines (back way) ++ rest
  unfolding moved
  moved_is = refl

  pub goes_back : Moves (back way) (moved way s) s
  unfolding moved
  goes_back =
      record {
        passes = when_moves (first_lines (back way) ++ rest) (back way) (moved_clear way rest header_read) (form_is (back way) rest) (hours_are (back way) rest);
        becomes = (λ i. first_lines (back_again way i) ++ drop-append_seam (first_lines (back way)) rest i) ∙ sym begins;
      }

  -- ---- that says the same of its day, and has the same blocks
  pub same_day : day_said s ≡ day_said (moved way s)
  unfolding moved
  same_day = subst (λ (l : List ℕ). day_said l ≡ day_said (first_lines (back way) ++ rest)) (sym begins) days
    where
      days : day_said (first_lines way ++ rest) ≡ day_said (first_lines (back way) ++ rest)
      days =
          let read = header_read in
          let reads = moved_clear way rest header_read in
          let marks = ap (λ (v : Verdict). marks_under v (first_lines way ++ rest)) read
          ∙ moved_marks way rest header_read
          ∙ ap (λ (v : Verdict). marks_under v (first_lines (back way) ++ rest)) (sym reads)
          in
          let hours = moved_hours way rest header_read in
          λ i. record { hours = hours i; marks = marks i }

  pub same_blocks : behind s ≡ behind (moved way s)
  unfolding moved
  same_blocks = subst (λ (l : List ℕ). behind l ≡ behind (first_lines (back way) ++ rest)) (sym begins) blocks
    where
      blocks : behind (first_lines way ++ rest) ≡ behind (first_lines (back way) ++ rest)
      blocks =
          sym (clear_behind (first_lines way ++ rest) header_read)
          ∙ moved_behind way rest header_read
          ∙ clear_behind (first_lines (back way) ++ rest) (moved_clear way rest header_read)

  pub same_unit : unit_of s ≡ unit_of (moved way s)
  unfolding moved
  same_unit = subst (λ (l : List ℕ). unit_of l ≡ unit_of (first_lines (back way) ++ rest)) (sym begins) (moved_unit way rest header_read)

-- ---- the moved sheet is at most nine bytes longer
longer : (way : Way) (n : ℕ) → length (first_lines (back way)) + n ≤ length (first_lines way) + n + 9
longer Up n = omega arith
longer Down n = omega arith

pub moved_fits : (way : Way) (s : List ℕ) → length (moved_text way s) ≤ length s + 9
unfolding moved
moved_fits way s = go (move_fault way s) refl
  where
    go : (v : Verdict) → move_fault way s ≡ v → length (moved_under v way s) ≤ length s + 9
    go clear e =
        let r = rest way s e in
        let here = ap length (begins way s e) ∙ length-append (first_lines way) r in
        let there = length-append (first_lines (back way)) r in
        let more = longer way (length r) in
        omega arith
    go (fault number place) e = omega arith
