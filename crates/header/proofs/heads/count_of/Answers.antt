-- `heads::count_of` is the usual day's count in form 1, and in any other the number on its second line.
use mathlib.Core.Path.{◌≡◌, sym, ◌∙◌}
use mathlib.Core.Bool.{false≢true}
use borrow.Author.Rules.{rules}
use Rattle.exact.proofs.Calls.{handed}
use Rattle.keys.specs.Keys.{HOURS_LINE}
use Rattle.header.specs.declared.layout.Form.TheVariants.{One}
use Rattle.header.specs.Layout.{number_from}
use Rattle.header.proofs.Forms.{count_second}
use Rattle.header.proofs.heads.count_of.Goals as goal
use Rattle.header.proofs.heads.count_of.Goals.{in-One, in_default}

pub returns : goal.returns
returns c =
    let another : c.args.form ≡ One → ⊥ =
    elim c.match-matches.branch [ in-One w ↦ absurd (false≢true (sym c.if-matches.false ∙ w.matches-is)) | in_default w ↦ w.in_default.not-One ] in
    let said : c.map_or.result ≡ number_from HOURS_LINE c.args.s.now c.line_at.result = search rules in
    handed _ c.map_or.type_inv ∙ said ∙ count_second _ _ another c.line.ensures c.line_at.ensures
