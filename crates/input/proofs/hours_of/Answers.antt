-- `hours_of` reads the hours off the text's own header or first lines.
use mathlib.Core.Path.{◌≡◌, ◌∙◌, ap, sym}
use mathlib.Core.List.{List}
use Prim.Native.Nat.{ℕ}
use lib.ListN.{drop}
use Rattle.lines.specs.Pieces.{rest_after}
use Rattle.lines.proofs.Pieces.{Behind, piece_behind, lent_to_the_end}
use Rattle.header.specs.Header.{hours_of}
use Rattle.input.specs.declared.Kind.{Kind}
use Rattle.input.specs.Said.{hours_said}
use Rattle.input.proofs.hours_of.Goals as goal

-- the place of a day's own header
own : (text : List ℕ) (at : ℕ) → Behind text 0 at → drop at text ≡ rest_after 1 text
unfolding rest_after
own text at h = h.0

pub slice_bounds-read_header-count : goal.slice_bounds-read_header-count
slice_bounds-read_header-count c = (piece_behind c.args.text.now 0 _ c.piece_after-own.ensures).1

pub slice_bounds-read_header-start : goal.slice_bounds-read_header-start
slice_bounds-read_header-start c = (piece_behind c.args.text.now 0 _ c.piece_after-own.ensures).1

pub returns-in-Day : goal.returns-in-Day
returns-in-Day c =
    let text = c.args.text.now in
    c.read_header-header.ensures.hours
    ∙ ap hours_of (lent_to_the_end text _ ∙ own text _ (piece_behind text 0 _ c.piece_after-own.ensures))
    ∙ ap (λ (kind : Kind). hours_said kind text) (sym c.in-Day.is)

pub returns-in-Line : goal.returns-in-Line
returns-in-Line c =
    let text = c.args.text.now in
    c.read_icl_header-header.ensures.hours ∙ ap (λ (kind : Kind). hours_said kind text) (sym c.in-Line.is)

pub returns-in-Import : goal.returns-in-Import
returns-in-Import c =
    let text = c.args.text.now in
    c.hours_of.ensures ∙ ap (λ (kind : Kind). hours_said kind text) (sym c.in-Import.is)
