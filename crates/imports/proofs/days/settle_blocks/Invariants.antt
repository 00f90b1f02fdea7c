-- `days::settle_blocks` meets its contract. Before block k the code holds the sum of those before k and the place behind them.
use Rattle.imports.proofs.Added.{Added}
use Rattle.imports.proofs.days.settle_blocks.Given as goal

abbrev pub invariant-loop-k : goal.invariant-loop-k
invariant-loop-k l = Added l.head.cts l.head.hours l.s l.head.next l.sum.0 l.i l.k
