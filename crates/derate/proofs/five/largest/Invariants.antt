-- `largest` searches place by place: before `j` it holds the one that leads among the places before `j`.
use Rattle.derate.specs.Five.{cut_at, served_at}
use Rattle.derate.proofs.Searches.{Leads}
use Rattle.derate.proofs.five.largest.Given as goal

abbrev pub invariant-loop-j : goal.invariant-loop-j
invariant-loop-j l = Leads (cut_at l.rem) (served_at l.served) l.found l.j
