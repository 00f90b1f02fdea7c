use mathlib.Core.Path.{sym}
use Rattle.header.proofs.Digits.{no_digit}
use Rattle.header.proofs.rows.digits_at.Goals as goal

pub returns-in_err-digit_at : goal.returns-in_err-digit_at
returns-in_err-digit_at c =
    rw c.from_residual.ensures (sym (no_digit _ _ _ _ _ c.loop-test.true c.loop.invariant.0 c.in_err-digit_at.ensures))
