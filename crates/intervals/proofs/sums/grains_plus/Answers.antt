-- `sums::grains_plus` meets its contract: the result fits, and is the sum.
use Rattle.exact.proofs.Bits.{leaf, fits, gives, is_add}
use Rattle.intervals.proofs.sums.grains_plus.Goals as goal

pub overflow_add-result : goal.overflow_add-result
overflow_add-result c = let p = c.requires in fits tt (is_add (leaf tt p.0) (leaf tt p.1))

pub returns : goal.returns
returns c = let p = c.requires in gives tt (is_add (leaf tt p.0) (leaf tt p.1))
