-- `sums::kw_minus` meets its contract: the result fits, and is the difference.
use Rattle.exact.proofs.Bits.{leaf, fits, gives, is_less}
use Rattle.intervals.proofs.sums.kw_minus.Goals as goal

pub overflow_sub-result : goal.overflow_sub-result
overflow_sub-result c = let p = c.requires in fits tt (is_less (leaf tt p.0) (leaf tt p.1))

pub returns : goal.returns
returns c = let p = c.requires in gives tt (is_less (leaf tt p.0) (leaf tt p.1))
