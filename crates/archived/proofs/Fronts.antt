-- The part of a sheet that a program has read decides: it is refused as the whole is, or what is written of it and then the rest is the moved sheet.
use mathlib.Core.Path.{◌≡◌, refl, sym, ◌∙◌, ap}
use mathlib.Core.List.{List, ◌++◌, append_assoc}
use Prim.Native.Nat.{ℕ, ◌≤◌}
use native.Mathlib.Omega.{arith}
use lib.ListN.{length, drop, length-append}
use lib.Seq.{drop-append-le}
use Rattle.tariff.specs.Reply.{Verdict, clear, fault}
use Rattle.lines.specs.Squeezed.{squeezed}
use Rattle.header.proofs.HeaderAlike.{same_turned}
use Rattle.header.proofs.HeaderSqueezed.{squeezed_header}
use Rattle.header.proofs.HeaderStands.{header_stands}
use Rattle.intake.specs.Front.{Decides}
use Rattle.archive.specs.declared.Way.{Way}
use Rattle.archive.specs.Move.{back, first_lines, moved, move_fault, moved_under, moved_text}
use Rattle.archive.proofs.ByHeader.{same_fault}
use Rattle.archive.proofs.Refusals.{moves_when}
use Rattle.passing.proofs.Decided.{front_decides}
use Rattle.archived.proofs.Moving.{begins, rest}

module _ (way : Way) (text more : List ℕ) (enough : Decides text (length (squeezed 1 text))) where
  pub same_answer : move_fault way (squeezed 1 text) ≡ move_fault way (text ++ more)
  same_answer = same_fault way (front_decides text more enough)

  pub rest_passes : move_fault way (text ++ more) ≡ clear → moved_text way (squeezed 1 text) ++ more ≡ moved_text way (text ++ more)
  unfolding moved
  rest_passes e =
      let read = same_fault way (same_turned (squeezed_header 0 text)) ∙ same_answer ∙ e in
      let stands = header_stands text (moves_when text way read).0 in
      let first = first_lines way in
      let inside : length first ≤ length text = let l = ap length (begins way text read) ∙ length-append first (rest way text read) in omega arith in
      (λ i. moved_under ((same_answer ∙ e) i) way (stands i) ++ more)
      ∙ append_assoc (first_lines (back way)) (drop (length first) text) more
      ∙ ap (λ (l : List ℕ). first_lines (back way) ++ l) (sym (drop-append-le (length first) text more inside))
      ∙ ap (λ (v : Verdict). moved_under v way (text ++ more)) (sym e)

-- ---- where the input has ended, of the text alone
pub ended_moves : (way : Way) (text : List ℕ) → moved_text way (squeezed 1 text) ≡ moved_text way text
ended_moves way text = go (move_fault way text) refl
  where
    same : move_fault way (squeezed 1 text) ≡ move_fault way text
    same = same_fault way (squeezed_header 0 text)

    go : (v : Verdict) → move_fault way text ≡ v → moved_text way (squeezed 1 text) ≡ moved_text way text
    go clear e = ap (moved_text way) (header_stands text (moves_when text way e).0)
    go (fault number place) e =
        ap (λ (v : Verdict). moved_under v way (squeezed 1 text)) (same ∙ e) ∙ ap (λ (v : Verdict). moved_under v way text) (sym e)
