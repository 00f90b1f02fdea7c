-- `curtailed::is_counted` asks the four tests of an interval that counts, in their order.
use mathlib.Core.Path.{◌≡◌}
use mathlib.Core.Bool.{Bool, not}
use lib.Dec.{lit<}
use borrow.Author.Rules.{rules}
use lib.IntN.{pos}
use lib.Signed.{le_z, lt_z}
use Rattle.exact.proofs.Bits.{eq_held, ne_held}
use Rattle.exact.proofs.Order.{le_not_lt}
use Rattle.tariff.specs.declared.Kw.{Kw}
use Rattle.tariff.specs.Import.{counts}
use Rattle.intervals.proofs.curtailed.is_counted.Goals as goal

pub returns-then-cts-ne0 : goal.returns-then-cts-ne0
unfolding counts
returns-then-cts-ne0 c h e = rw (ne_held c.args.cts (pos 0) c.ranges.cts.sfits (lit< tt) c.if-cts-ne0.true)

pub returns-then-v-ne1 : goal.returns-then-v-ne1
unfolding counts
returns-then-v-ne1 c h e =
    rw (
      eq_held c.args.cts (pos 0) c.ranges.cts.sfits (lit< tt) c.if-cts-ne0.false,
      ne_held c.args.v.cut (pos 1) (search rules) (lit< tt) c.if-v-ne1.true,
    )

-- the profile against the day-ahead schedule
reaches : {t below : Bool} {own den : Kw} (prof : Kw) → below ≡ lt_z prof.0 own.0 → below ≡ t → den ≡ own → le_z den.0 prof.0 ≡ not t
reaches prof says q e = rw (e, le_not_lt, ← says, q)

pub returns-then-below : goal.returns-then-below
unfolding counts
returns-then-below c h e =
    rw (
      eq_held c.args.cts (pos 0) c.ranges.cts.sfits (lit< tt) c.if-cts-ne0.false,
      eq_held c.args.v.cut (pos 1) (search rules) (lit< tt) c.if-v-ne1.false,
      reaches c.args.v.prof c.below.ensures c.if-below.true e,
    )

pub returns : goal.returns
unfolding counts
returns c h e =
    rw (
      eq_held c.args.cts (pos 0) c.ranges.cts.sfits (lit< tt) c.if-cts-ne0.false,
      eq_held c.args.v.cut (pos 1) (search rules) (lit< tt) c.if-v-ne1.false,
      reaches c.args.v.prof c.below.ensures c.if-below.false e,
    )
    c.price_at_most.ensures
