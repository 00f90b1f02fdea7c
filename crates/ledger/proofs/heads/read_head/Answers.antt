-- `heads::read_head` meets its contract: the header is lent from its place to the text's end.
use mathlib.Core.Path.{refl, ◌∙◌, subst}
use mathlib.Core.Bool.{false}
use mathlib.Core.List.{List}
use Prim.Native.Nat.{ℕ}
use borrow.Author.Rules.{rules}
use Rattle.exact.proofs.Bits.{held, handed}
use Rattle.lines.proofs.Pieces.{lent_to_the_end}
use Rattle.ledger.specs.declared.heads.Head.{Head}
use Rattle.ledger.specs.Walk.{OwnRead}
use Rattle.ledger.proofs.ThreeHeads.{own_read}
use Rattle.ledger.proofs.heads.read_head.Goals as goal

pub returns : goal.returns
returns c =
    let a = c.args in
    let h = c.read_header-header.ensures in
    let r : Head = record {
      lacking = false;
      found = c.read_header-header.result.found;
      unit = held c.read_header-header.result.unit;
      line = c.read_header-header.result.line;
      day = record { hours = c.read_header-header.result.hours; marks = c.read_header-header.result.marks };
    } in
    subst (λ (t : List ℕ). OwnRead t r) (lent_to_the_end a.text.now a.at)
    (own_read _ r h.found h.marks h.hours (handed c.read_header-header.result.unit (search rules) ∙ h.unit) h.line refl)
