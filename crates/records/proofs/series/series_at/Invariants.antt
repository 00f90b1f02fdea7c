-- `series::series_at` meets its contract. After n lines the code has read them into the array's first n places.
use Rattle.records.proofs.Turns.{Read}
use Rattle.records.proofs.series.series_at.Given as goal

abbrev pub invariant-loop-n : goal.invariant-loop-n
invariant-loop-n g l = let r = g.R.IntervalLine in Read r.FIRST r.FIELDS r.of r.blank l.line l.s l.at l.iv l.i l.n
