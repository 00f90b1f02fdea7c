-- From what a program takes in to what it prints: what is taken in is what some text leaves, so every printed byte of `day`, `line` and `import`
-- is that of some input; and where the text goes past its last block, that of every input which goes on behind it.
use mathlib.Core.Path.{◌≡◌, sym, ap, ap₂, ◌∙◌}
use mathlib.Core.Bool.{true}
use mathlib.Core.List.{List, ◌++◌}
use Prim.Native.Nat.{ℕ, suc, ◌+◌, ◌*◌, ◌≤◌}
use native.Mathlib.Omega.{arith}
use lib.ListN.{length, take}
use Rattle.lines.specs.Pieces.{PIECE, rest_after, is_some}
use Rattle.lines.specs.Squeezed.{squeezed_from, squeezed}
use Rattle.lines.proofs.Squeezed.{rest_stands}
use Rattle.intake.specs.Intake.{PIECES, TakenIn, kept_of, after_all, at_first, goes_past}
use Rattle.intake.proofs.Kept.{room_store, piece_kept}
use Rattle.intake.proofs.Past.{past_some}
use Rattle.ledger.specs.Day.{BlockAnswer, generator_answer, Front, front_of}
use Rattle.ledger.specs.IclDay.{icl_answer, icl_front_of}
use Rattle.ledger.proofs.AnyFront.{FrontLaws, kept_settled}
use Rattle.ledger.proofs.SheetFront.{sheet_laws}
use Rattle.ledger.proofs.IclFront.{icl_laws}
use Rattle.imports.specs.Import.{hours_in}
use Rattle.imports.proofs.KeptHead.{head_kept}
use Rattle.printed.specs.Printed.{day_page, header_end, day_text, plain_end, line_text, import_text}
use Rattle.demands.proofs.Printed.{kept_page, kept_import, append_page, append_import}

-- a row with room for what is kept of so many pieces: `last` is the row when the text was taken in, `count` the reply
module _ (row last : List ℕ) (count : ℕ) (room : PIECES * (PIECE + 3) + 4 ≤ length row) where
  what_is_lent : (heads : ℕ) (taken : TakenIn row PIECES heads last count) → take count last ≡ kept_of (at_first PIECES) (squeezed heads taken.text)
  what_is_lent heads taken =
      ap₂ (λ (n : ℕ) (l : List ℕ). take n l) taken.counted taken.holds
      ∙ room_store row (squeezed heads taken.text) PIECES room

  -- the headers of a day are squeezed, of whichever kind the day is and whatever ends a refused one's line; an import is taken in as it is
  module _ (ending : ℕ → List ℕ) (heads : ℕ) (few : heads ≤ 3) (front : List ℕ → Front) (answer : BlockAnswer) (laws : FrontLaws heads front answer) where
    what_is_printed : (taken : TakenIn row PIECES heads last count) → day_page ending (front (take count last)) ≡ day_page ending (front taken.text)
    what_is_printed taken =
        ap (λ (l : List ℕ). day_page ending (front l)) (what_is_lent heads taken) ∙ kept_page ending heads front answer laws few taken.text

  pub what_day_prints : (taken : TakenIn row PIECES 3 last count) → day_text (take count last) ≡ day_text taken.text
  what_day_prints = what_is_printed header_end 3 (omega arith) front_of generator_answer sheet_laws

  pub what_line_prints : (taken : TakenIn row PIECES 1 last count) → line_text (take count last) ≡ line_text taken.text
  what_line_prints = what_is_printed plain_end 1 (omega arith) icl_front_of icl_answer icl_laws

  pub what_import_prints : (taken : TakenIn row PIECES 0 last count) → import_text (take count last) ≡ import_text taken.text
  unfolding squeezed_from
  what_import_prints taken = ap import_text (what_is_lent 0 taken) ∙ kept_import taken.text

  -- ---- the text goes past the blocks of the day that the lent row says

  abbrev GoesPast : (heads : ℕ) → List ℕ → (pieces : ℕ) → Type 0
  GoesPast heads text pieces = goes_past (after_all row (at_first PIECES) (squeezed heads text)) PIECES pieces ≡ true

  goes_past_lem : (heads : ℕ) (text : List ℕ) (said pieces : ℕ) → GoesPast heads text said → said ≡ pieces → is_some (rest_after pieces (squeezed heads text)) ≡ true
  goes_past_lem heads text said pieces e same = rw (← same) (past_some row PIECES said (squeezed heads text) e)

  module _ (ending : ℕ → List ℕ) (heads : ℕ) (few : heads ≤ 3) (front : List ℕ → Front) (answer : BlockAnswer) (laws : FrontLaws heads front answer) where
    where_it_stops : (taken : TakenIn row PIECES heads last count) → GoesPast heads taken.text ((front (take count last)).hours + heads)
        → (t : List ℕ) → day_page ending (front (take count last)) ≡ day_page ending (front (taken.text ++ t))
    where_it_stops taken past t =
        let s = taken.text in
        let hours = laws.few s in
        let kept = kept_settled heads front answer laws s PIECES (omega arith) in
        let same = ap (λ (l : List ℕ). (front l).hours) (what_is_lent heads taken) ∙ kept.hours in
        let some = goes_past_lem heads s ((front (take count last)).hours + heads) (heads + (front s).hours) past (omega (arith, same)) in
        what_is_printed ending heads few front answer laws taken
        ∙ sym (append_page ending heads front answer laws s t (ap is_some (sym (rest_stands heads (front s).hours s)) ∙ some))

  pub where_day_stops : (taken : TakenIn row PIECES 3 last count) → GoesPast 3 taken.text ((front_of (take count last)).hours + 3)
      → (t : List ℕ) → day_text (take count last) ≡ day_text (taken.text ++ t)
  where_day_stops = where_it_stops header_end 3 (omega arith) front_of generator_answer sheet_laws

  pub where_line_stops : (taken : TakenIn row PIECES 1 last count) → GoesPast 1 taken.text ((icl_front_of (take count last)).hours + 1)
      → (t : List ℕ) → line_text (take count last) ≡ line_text (taken.text ++ t)
  where_line_stops = where_it_stops plain_end 1 (omega arith) icl_front_of icl_answer icl_laws

  pub where_import_stops : (taken : TakenIn row PIECES 0 last count) → GoesPast 0 taken.text (hours_in (take count last) + 1)
      → (t : List ℕ) → import_text (take count last) ≡ import_text (taken.text ++ t)
  unfolding squeezed_from rest_after
  where_import_stops taken past t =
      let s = taken.text in
      let kept = head_kept {got = kept_of (at_first PIECES) s} {text = s} (piece_kept PIECES s 0 (omega arith)) in
      let same = ap hours_in (what_is_lent 0 taken) ∙ kept.hours in
      what_import_prints taken ∙ sym (append_import s t (goes_past_lem 0 s (hours_in (take count last) + 1) (suc (hours_in s)) past (omega (arith, same))))
