-- `lower_limit` gives the limit of the lower branch.
use Rattle.std.proofs.Common.{rules}
use Rattle.tariff.specs.Contributions.{lower_limit}
use Rattle.tariff.proofs.Order.{min_kw, max_kw}
use Rattle.limits.proofs.lower_limit.Goals as goal

-- D is above 0, and R below E
pub returns-then-lt-2 : goal.returns-then-lt-2
unfolding lower_limit
returns-then-lt-2 c =
    rw (c.max-then-lt-2.ensures, max_kw, c.min-then-lt-2.ensures, min_kw, c.max.ensures, max_kw, c.min.ensures, min_kw) (search rules)

-- D is above 0, and R not below E
pub returns-else-lt-2 : goal.returns-else-lt-2
unfolding lower_limit
returns-else-lt-2 c =
    rw (c.max-else-lt-2-2.ensures, max_kw, c.min-else-lt-2-2.ensures, min_kw, c.min-else-lt-2.ensures, min_kw, c.max-else-lt-2.ensures, max_kw)
    (search rules)

-- D is not above 0
pub returns-else-lt : goal.returns-else-lt
unfolding lower_limit
returns-else-lt c =
    rw (c.min-else-lt-3.ensures, min_kw, c.min-else-lt.ensures, min_kw, c.max-else-lt-3.ensures, max_kw, c.max-else-lt.ensures, max_kw) (search rules)
