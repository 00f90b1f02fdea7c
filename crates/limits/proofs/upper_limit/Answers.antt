-- `upper_limit` gives the limit of the upper branch.
use Rattle.std.proofs.Common.{rules}
use Rattle.tariff.specs.Contributions.{upper_limit}
use Rattle.tariff.proofs.Order.{min_kw, max_kw}
use Rattle.limits.proofs.upper_limit.Goals as goal
use Rattle.limits.proofs.upper_limit.Goals.{else-le-via-then-le+else-le-2, else-le-via-else-le}

-- R ≥ E ≥ D
pub returns-then-le-2 : goal.returns-then-le-2
unfolding upper_limit
returns-then-le-2 c = rw (c.min.ensures, min_kw, c.max.ensures, max_kw) (search rules)

pub returns-else-le : goal.returns-else-le
unfolding upper_limit
returns-else-le c =
    rw (c.max-else-le.ensures, max_kw, c.min-else-le.ensures, min_kw)
    (elim c.else-le.branch [ else-le-via-then-le+else-le-2 w ↦ search rules | else-le-via-else-le w ↦ search rules ])
