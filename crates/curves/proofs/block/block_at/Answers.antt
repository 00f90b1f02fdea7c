-- `block::block_at` meets its contract, line by line.
use Rattle.std.specs.Prelude.{Err, Ok}
use mathlib.Core.Path.{sym, ◌∙◌}
use Rattle.std.proofs.lemmas.Result.{err_from_is_err_and}
use Rattle.lines.proofs.Exits.{exit}
use Rattle.curves.specs.Frame.{Kind, kind_of}
use Rattle.curves.proofs.Frames.{line1_is, line1_said, frame_line1, frame_line2, frame_line3, frame_series}
use Rattle.curves.proofs.block.block_at.Given.{Over}
use Rattle.curves.proofs.block.block_at.Goals as goal

-- the kind that the code reads a block of
abbrev kind : (g : Over) → Kind g.row.K-Interval.Denot g.row.K-Hour.Denot
kind g =
    let k = g.K.BlockKind in
    let i = g.K.Interval.IntervalLine in
    kind_of k.FIRST k.FIELDS i.FIRST i.FIELDS i.of i.blank k.hour_of

-- 30 intervals fit in memory
pub series_at-requires : goal.series_at-requires
series_at-requires g c = g.met.K.Interval.IntervalLine.fits

pub hour_of-requires : goal.hour_of-requires
hour_of-requires g c = g.met.K.Interval.IntervalLine.fits

pub returns-in_err-line2 : goal.returns-in_err-line2
returns-in_err-line2 g c =
    let f = rw (c.FIRST.ensures, c.FIELDS.ensures) at c.fields_at-first.ensures in
    let e = c.in_err-line2.ensures in
    exit _ c.from_residual.ensures.1 e.value e.ok_part ∙ frame_line1 (kind g) _ _ (line1_is (kind g) _ _ f g.met.K.BlockKind.laws c.line_end.ensures ∙ e.ok_part)

pub returns-in_err-da : goal.returns-in_err-da
returns-in_err-da g c =
    let f = rw (c.FIRST.ensures, c.FIELDS.ensures) at c.fields_at-first.ensures in
    let one = line1_is (kind g) _ _ f g.met.K.BlockKind.laws c.line_end.ensures ∙ c.in_ok-line2.ensures.ok_part in
    let e = c.in_err-da.ensures in
    exit _ c.from_residual-in_err-da.ensures.1 e.value e.ok_part ∙ frame_line2 (kind g) _ _ one (sym e.ok_part ∙ c.curve_at.ensures)

pub returns-in_err-rt : goal.returns-in_err-rt
returns-in_err-rt g c =
    let f = rw (c.FIRST.ensures, c.FIELDS.ensures) at c.fields_at-first.ensures in
    let one = line1_is (kind g) _ _ f g.met.K.BlockKind.laws c.line_end.ensures ∙ c.in_ok-line2.ensures.ok_part in
    let e = c.in_err-rt.ensures in
    exit _ c.from_residual-in_err-rt.ensures.1 e.value e.ok_part
    ∙ frame_line3 (kind g) _ _ one (sym c.in_ok-da.ensures.ok_part ∙ c.curve_at.ensures) (sym e.ok_part ∙ c.curve_at-2.ensures)

pub returns-in_err-series : goal.returns-in_err-series
returns-in_err-series g c =
    let f = rw (c.FIRST.ensures, c.FIELDS.ensures) at c.fields_at-first.ensures in
    let one = line1_is (kind g) _ _ f g.met.K.BlockKind.laws c.line_end.ensures ∙ c.in_ok-line2.ensures.ok_part in
    let p = err_from_is_err_and c.from_residual-in_err-series.result c.from_residual-in_err-series.ensures.1 in
    rw (p.1, p.2)
    (frame_series (kind g) _ _ one (sym c.in_ok-da.ensures.ok_part ∙ c.curve_at.ensures) (sym c.in_ok-rt.ensures.ok_part ∙ c.curve_at-2.ensures)
    (Err c.in_err-series.field-0.0) c.in_err-series.ensures)

pub returns : goal.returns
returns g c =
    let f = rw (c.FIRST.ensures, c.FIELDS.ensures) at c.fields_at-first.ensures in
    let one = line1_is (kind g) _ _ f g.met.K.BlockKind.laws c.line_end.ensures ∙ c.in_ok-line2.ensures.ok_part in
    let said = line1_said (kind g) _ _ f g.met.K.BlockKind.laws in
    rw (c.hour_of.ensures, said)
    (frame_series (kind g) _ _ one (sym c.in_ok-da.ensures.ok_part ∙ c.curve_at.ensures) (sym c.in_ok-rt.ensures.ok_part ∙ c.curve_at-2.ensures)
    (Ok c.in_ok-series.series) c.in_ok-series.ensures)
