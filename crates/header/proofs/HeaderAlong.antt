-- A header is decided by its own bytes: whatever follows the empty line that closes it, it is the same.
use Rattle.std.specs.Prelude.{Some}
use mathlib.Core.Path.{◌≡◌, sym, ◌∙◌, ap}
use mathlib.Core.Bool.{true}
use mathlib.Core.List.{List, ◌++◌}
use Prim.Native.Nat.{ℕ}
use lib.ListN.{length}
use Rattle.tariff.specs.Reply.{clear}
use Rattle.lines.specs.Line.{place_in}
use Rattle.lines.specs.Cut.{empty_in}
use Rattle.lines.proofs.Closed.{empty_append, closed_first}
use Rattle.header.specs.declared.layout.Form.{Form}
use Rattle.header.specs.Header.{fault_in, next_in}
use Rattle.header.proofs.HeaderBehind.{ends_empty_lem}
use Rattle.header.proofs.HeaderSame.{AlikeInAll, fault_same, same_header}
use Rattle.header.proofs.HeaderFirst.{SameHeader, firsts_alike}

-- ---- a header and what follows it
closed_alike : (s body : List ℕ) (k : ℕ) → empty_in true s 0 ≡ Some k → AlikeInAll (s ++ body) s
closed_alike s body k e = firsts_alike (s ++ body) s (closed_first s body k e)

pub closed_append : (s body : List ℕ) (k : ℕ) → empty_in true s 0 ≡ Some k → SameHeader (s ++ body) s
closed_append s body k e = same_header (closed_alike s body k e)

-- of a form, and without fault
module _ (form : Form) (head : List ℕ) (e : fault_in form head ≡ clear) (n : next_in form (fault_in form head) head ≡ length head) (body : List ℕ) where
  pub head_alike : AlikeInAll (head ++ body) head
  head_alike = closed_alike head body (length head) (ends_empty_lem form head e ∙ ap Some n)

  pub head_clear : fault_in form (head ++ body) ≡ clear
  head_clear = fault_same head_alike form ∙ e

  pub head_ends : next_in form (fault_in form (head ++ body)) (head ++ body) ≡ length head
  head_ends = ap place_in (sym (ends_empty_lem form (head ++ body) head_clear) ∙ empty_append true head body 0 (length head) (ends_empty_lem form head e ∙ ap Some n))
