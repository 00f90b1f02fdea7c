-- `is_form` compares the check's number.
use mathlib.Core.Path.{sym, ap, ◌∙◌}
use Prim.Native.Nat.{ℕ}
use lib.Dec.{eqb}
use Rattle.tariff.specs.Reply.{shown, Found}
use Rattle.archive.specs.Told.{is_form}
use Rattle.archive.proofs.is_form.Goals as goal

pub returns-in-Err : goal.returns-in-Err
returns-in-Err c = ap (λ (n : ℕ). eqb n 1) c.number_of.ensures ∙ ap (λ (f : Found). is_form (shown f)) (sym c.in-Err.is)
