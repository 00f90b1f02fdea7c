-- What a call's answer r to a test t tells where the code branches on `!r`. The whole number that an `i64` hands over is passed on.
use mathlib.Core.Path.{◌≡◌, sym, ◌∙◌}
use mathlib.Core.Bool.{Bool, true, false, not}
use borrow.Author.Tests.{not-true, not-false}
pub use Rattle.exact.proofs.Bits.{handed}

pub passes : {r t : Bool} → r ≡ t → not r ≡ false → t ≡ true
passes {r} e n = sym e ∙ not-false r n

pub fails : {r t : Bool} → r ≡ t → not r ≡ true → t ≡ false
fails {r} e n = sym e ∙ not-true r n
