-- `rows::maybe_of` meets its contract: two numbers are the same when their bits are.
use lib.IntN.{pos}
use lib.Dec.{lit<}
use Rattle.exact.proofs.Bits.{eq_held, ne_held}
use mir.Facts.{to_z-of_z}
use Rattle.records.proofs.maybe_of.Goals as goal

pub returns-then-v-eq10000000 : goal.returns-then-v-eq10000000
returns-then-v-eq10000000 c = rw (eq_held c.args.v (pos 10000000) c.ranges.v.sfits (lit< tt) c.if-v-eq10000000.true)

pub returns-else-v-eq10000000 : goal.returns-else-v-eq10000000
returns-else-v-eq10000000 c = rw (ne_held c.args.v (pos 10000000) c.ranges.v.sfits (lit< tt) c.if-v-eq10000000.false, to_z-of_z c.ranges.v)
