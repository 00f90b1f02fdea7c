-- `hand_out` goes round by round: before each, the shares and who is served are those after as many rounds.
use Rattle.derate.proofs.Rounds.{Handed}
use Rattle.derate.proofs.five.hand_out.Given as goal

abbrev pub invariant-loop : goal.invariant-loop
invariant-loop l = Handed l.fn.rounded.kw l.rem l.red l.served l.counter
