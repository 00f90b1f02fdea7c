use mathlib.Core.Path.{◌∙◌}
use Rattle.text.proofs.Numbers.{said_below, said_goes_on, digits_more}
use Rattle.text.proofs.digits.more_digits.Goals as goal

pub loop-preserved : goal.loop-preserved
loop-preserved c =
    let said = c.in-Some.ensures in
    rw c.from.ensures (
      c.loop.invariant.0 ∙ said_goes_on _ _ _ _ _ c.loop-test.true said,
      digits_more _ _ _ c.loop.invariant.1 (said_below _ _ _ said),
    )
