-- `is_marked`: past the word there is no bit.
use mathlib.Core.Path.{sym, ◌∙◌}
use Prim.Native.Nat.{◌<◌, ◌^◌}
use native.Mathlib.Nat.{lt_of_lt_of_le}
use native.Mathlib.Omega.{arith}
use lib.Pow.{pow_mono}
use borrow.Author.Tests.{le-ltb}
use Rattle.marks.proofs.Marked.{marked_past}
use Rattle.marks.proofs.is_marked.Goals as goal

pub returns-else-hour-lt-BITS : goal.returns-else-hour-lt-BITS
returns-else-hour-lt-BITS c =
    let a = c.args in
    let u : a.word < 2 ^ 32 = omega arith in
    le-ltb a.hour 32 c.if-hour-lt-BITS.false ∙ sym (marked_past a.word a.hour (lt_of_lt_of_le u (pow_mono c.if-hour-lt-BITS.false)))
