-- `put_hours` writes a line for each hour. The loop's invariant: the lines of the first k are written.
use Rattle.std.proofs.Common.{◌≡◌, take}
use Rattle.tariff.specs.Total.{told_all}
use Rattle.page.specs.Page.{wrote}
use Rattle.answers.specs.Answers.{numbered, hour_line}
use Rattle.answers.proofs.put_hours.Given as goal

abbrev pub invariant-loop-k : goal.invariant-loop-k
invariant-loop-k l = l.page ≡ wrote l.initial.page (numbered hour_line 0 (told_all (take l.k l.answer-items)))
