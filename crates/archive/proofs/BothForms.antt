-- Two sheets that differ in their first lines alone, of either form: where the one's header is not refused neither is the other's, they say the same
-- unit and the same marks, and the same blocks stand behind them.
use mathlib.Core.Path.{◌≡◌, sym, ◌∙◌, ap}
use mathlib.Core.List.{List, ◌++◌}
use Prim.Native.Nat.{ℕ}
use lib.ListN.{length, drop}
use lib.Seq.{get_or-drop, drop-append_seam}
use Rattle.tariff.specs.Sheet.{USUAL_DAY}
use Rattle.tariff.specs.Reply.{clear, ◌then◌}
use Rattle.tariff.proofs.Checks.{then_clear}
use Rattle.text.specs.Text.{byte_at}
use Rattle.keys.specs.Keys.{UNIT_LINE}
use Rattle.header.specs.declared.layout.Line.{Line}
use Rattle.header.specs.Layout.{layout_form, layout_range, layout_fault, number_on}
use Rattle.header.specs.Header.{hours_of, header_fault, unit_of, marks_by, marks_of, next_under}
use Rattle.header.proofs.HeaderLines.{start_of}
use Rattle.header.proofs.HeaderEnds.{clear_next}
use Rattle.header.proofs.Forms.{lines_before, unit_behind}
use Rattle.header.proofs.HeaderBeside.{Beside, form_beside, range_beside, unit_beside, marks_beside, behind_beside}
use Rattle.archive.specs.declared.Way.{Way}
use Rattle.archive.specs.Move.{back, first_lines}
use Rattle.archive.proofs.FirstLines.{is_two, sheet, layout, hours_are, layout_is, unit_begins, first_in_range_lem}

-- a header in the layout that its first lines say
module _ (way : Way) (rest : List ℕ) where
  fault_is : header_fault (sheet way rest) ≡ layout_fault (layout way rest) USUAL_DAY (sheet way rest)
  fault_is = λ i. layout_fault (layout_is way rest i) (hours_are way rest i) (sheet way rest)

  next_is : header_fault (sheet way rest) ≡ clear
      → next_under (header_fault (sheet way rest)) (sheet way rest) ≡ start_of (layout way rest) USUAL_DAY (sheet way rest) (length (layout way rest))
  next_is e = clear_next (sheet way rest) e ∙ (λ i. start_of (layout_is way rest i) (hours_are way rest i) (sheet way rest) (length (layout_is way rest i)))

module _ (way : Way) (rest : List ℕ) (e : header_fault (first_lines way ++ rest) ≡ clear) where
  abbrev s : List ℕ
  s = first_lines way ++ rest

  abbrev t : List ℕ
  t = first_lines (back way) ++ rest

  abbrev L : List Line
  L = layout way rest

  abbrev M : List Line
  M = layout (back way) rest

  abbrev a : ℕ
  a = length (first_lines way)

  abbrev b : ℕ
  b = length (first_lines (back way))

  checks : (layout_form L USUAL_DAY s ≡ clear) × (layout_range L USUAL_DAY s ≡ clear)
  checks = then_clear (layout_form L USUAL_DAY s) (layout_range L USUAL_DAY s) (sym (fault_is way rest) ∙ e)

  tails : drop a s ≡ drop b t
  tails = drop-append_seam (first_lines way) rest ∙ sym (drop-append_seam (first_lines (back way)) rest)

  beside : Beside USUAL_DAY L M s t
  beside =
      record {
        d = lines_before (is_two way);
        e = lines_before (is_two (back way));
        a = a;
        b = b;
        lines_s = unit_behind (is_two way);
        lines_t = unit_behind (is_two (back way));
        begins_s = unit_begins way rest;
        begins_t = unit_begins (back way) rest;
        bytes = λ i. sym (get_or-drop a s i 256) ∙ ap (λ (l : List ℕ). byte_at l i) tails ∙ get_or-drop b t i 256;
      }

  pub moved_clear : header_fault t ≡ clear
  unfolding beside
  moved_clear =
      let form = form_beside beside checks.0 in
      let range = range_beside beside checks.0 checks.1 (first_in_range_lem (back way) rest) in
      fault_is (back way) rest ∙ (λ i. form i then range i)

  pub moved_hours : hours_of s ≡ hours_of t
  moved_hours = hours_are way rest ∙ sym (hours_are (back way) rest)

  pub moved_unit : unit_of s ≡ unit_of t
  moved_unit =
      (λ i. number_on (layout_is way rest i) (hours_are way rest i) UNIT_LINE s)
      ∙ unit_beside beside checks.0
      ∙ (λ i. number_on (sym (layout_is (back way) rest) i) (sym (hours_are (back way) rest) i) UNIT_LINE t)

  pub moved_marks : marks_of s ≡ marks_of t
  moved_marks =
      (λ i. marks_by (layout_is way rest i) (hours_are way rest i) s)
      ∙ marks_beside beside checks.0
      ∙ (λ i. marks_by (sym (layout_is (back way) rest) i) (sym (hours_are (back way) rest) i) t)

  pub moved_behind : drop (next_under (header_fault s) s) s ≡ drop (next_under (header_fault t) t) t
  unfolding beside
  moved_behind =
      ap (λ (n : ℕ). drop n s) (next_is way rest e)
      ∙ behind_beside beside checks.0 tails
      ∙ ap (λ (n : ℕ). drop n t) (sym (next_is (back way) rest moved_clear))
