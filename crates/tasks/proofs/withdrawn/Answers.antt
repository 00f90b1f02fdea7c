-- `withdrawn` meets its contract: in these ranges the difference and its product fit 64 bits, and wrap nowhere.
use mathlib.Core.Path.{◌∙◌}
use Rattle.exact.proofs.Bits.{plain, fits, is_mul}
use Rattle.tariff.proofs.Wraps.{is_itself, is_difference}
use Rattle.tasks.proofs.withdrawn.Goals as goal

pub returns : goal.returns
returns c =
    let p = c.requires in
    let difference = is_difference tt (plain p.1) (plain p.0) c.sub.ensures in
    let product = is_mul (is_mul difference (plain p.2)) (plain p.3) in
    is_itself (fits tt product) c.priced.ensures ∙ product.same
