-- `heads::read_neighbour` meets its contract: a text that begins with an empty line has no neighbour there, any other a header.
use mathlib.Core.Path.{◌≡◌, refl, sym, ap, ◌∙◌}
use mathlib.Core.Bool.{Bool, true, false}
use mathlib.Core.List.{List}
use Prim.Native.Nat.{ℕ}
use lib.Dec.{eqb, lit<}
use lib.ListN.{drop}
use Rattle.std.specs.Prelude.{Option, Some, slice_get}
use Rattle.std.specs.Option.{option_eq}
use Rattle.text.specs.Text.{byte_at}
use Rattle.text.proofs.Numbers.{is_byte}
use Rattle.lines.proofs.Pieces.{first_of}
use Rattle.ledger.proofs.ThreeHeads.{lacking_read, standing_read}
use Rattle.ledger.proofs.heads.read_neighbour.Goals as goal

begins : (s : List ℕ) (at : ℕ) (b : Bool) {r : Option ℕ} → r ≡ slice_get s at → b ≡ option_eq eqb r (Some 10) → eqb (byte_at (drop at s) 0) 10 ≡ b
begins s at b read e =
    ap (λ (x : ℕ). eqb x 10) (first_of s at)
    ∙ sym (is_byte s at 10 (lit< tt))
    ∙ ap (λ (x : Option ℕ). option_eq eqb x (Some 10)) (sym read)
    ∙ sym e

pub returns-then-eq : goal.returns-then-eq
returns-then-eq c = lacking_read _ _ (begins c.args.text.now c.args.at true c.byte_at.ensures c.if-eq.ensures) refl refl c.no_day.ensures

pub returns : goal.returns
returns c = standing_read _ _ (begins c.args.text.now c.args.at false c.byte_at.ensures c.if-eq.ensures) c.read_head.ensures
