use mathlib.Core.Path.{◌≡◌, sym, ◌∙◌}
use mathlib.Core.List.{List}
use Prim.Native.Nat.{◌<◌}
use native.Mathlib.Omega.{arith}
use borrow.Author.Count.{below_more}
use lib.ListN.{length}
use Rattle.tariff.specs.Reply.{RANGE}
use Rattle.header.specs.declared.layout.Line.{Line}
use Rattle.header.specs.Layout.{layout_range}
use Rattle.header.specs.Header.{layout_by}
use Rattle.header.proofs.HeaderLines.{is_in_range, refused_first, refused_none, stands, range_told}
use Rattle.header.proofs.Forms.{lines_keyed}
use Rattle.header.proofs.heads.odd_line.Goals as goal
use Rattle.header.proofs.heads.odd_line.Goals.{After-in_range}

-- line j, as it was tested
module _ (c : After-in_range) where
  abbrev layout : List Line
  layout = layout_by c.args.layout.form c.args.layout.judged

  below : c.loop-j.j < length layout
  below = omega (arith, c.loop-j-test.true, c.lines-j-end.ensures)

  tested : c.in_range.result ≡ is_in_range layout c.args.layout.hours c.args.s.now c.loop-j.j
  tested = c.in_range.ensures ∙ range_told layout _ _ c.args.at c.requires c.loop-j.j c.line.ensures below

pub in_range-requires : goal.in_range-requires
in_range-requires c =
    let l = c.args.layout in
    stands (layout_by l.form l.judged) _ _ c.args.at c.requires c.loop-j.j c.line.ensures (lines_keyed l.form l.judged)
    (omega (arith, c.loop-j-test.true, c.lines-j-end.ensures))

pub returns-then-not-in_range : goal.returns-then-not-in_range
unfolding layout_range
returns-then-not-in_range c =
    let h = (goal.at.returns-then-not-in_range c).After-in_range in
    refused_first _ RANGE (length (layout h)) _ c.loop-j.invariant (below h) (sym (tested h) ∙ c.if-not-in_range.true)

pub loop-j-preserved : goal.loop-j-preserved
loop-j-preserved c =
    let h = (goal.at.loop-j-preserved c).After-in_range in
    below_more _ _ c.loop-j.invariant (sym (tested h) ∙ c.if-not-in_range.false)

pub returns : goal.returns
unfolding layout_range
returns c =
    refused_none _ RANGE (length (layout_by c.args.layout.form c.args.layout.judged)) _ c.loop-j.invariant (omega (arith, c.loop-j-test.false, c.lines-j-end.ensures))
