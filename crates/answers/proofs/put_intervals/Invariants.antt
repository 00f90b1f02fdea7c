-- `put_intervals` writes a line for each contribution. The loop's invariant: the lines of the first i are written.
use Rattle.std.proofs.Common.{◌≡◌, take}
use Rattle.page.specs.Page.{wrote}
use Rattle.answers.specs.Answers.{interval_line, numbered}
use Rattle.answers.proofs.put_intervals.Given as goal

abbrev pub invariant-loop-i : goal.invariant-loop-i
invariant-loop-i l = l.page ≡ wrote l.initial.page (numbered interval_line 1 (take l.i l.g-items))
