-- Two blocks that are the same or differ in their curve lines only are answered alike.
use mathlib.Core.Path.{◌≡◌}
use mathlib.Core.Bool.{Bool}
use mathlib.Core.List.{List}
use Prim.Native.Nat.{ℕ}
use lib.IntN.{ℤ}
use Rattle.tariff.specs.declared.Hour.{Hour}
use Rattle.tariff.specs.declared.Expected.{Expected}
use Rattle.tariff.specs.Reply.{paid}
use Rattle.tariff.specs.Hour.{reply}
use Rattle.tariff.specs.Total.{Pays}
use Rattle.tariff.specs.Demand.{SamePoints, Lawful, Extends}
use Rattle.curves.proofs.FrameApart.{turned}
use Rattle.sheet.specs.Apart.{CurvesApart}
use Rattle.blocks.specs.Block.{read, block_of}
use Rattle.sheet.specs.Settle.{reply_to}
use Rattle.sheet.proofs.BlockDemands.{curves_apart_break_alike, only_needed_prices_of_blocks_matter, adding_curve_to_a_block_changes_nothing}
use Rattle.sheet.proofs.BlockPoints.{any_cutting_of_a_block_settles_alike}
use Rattle.ledger.specs.Demand.{BlocksApart, PricedAlike, one, priced, Recut, uncut, cut}
use Rattle.ledger.proofs.ByReading.{row, by_reading, curve_added, added_alike}

module _ (s t : List ℕ) (is_excluded : Bool) (expected : Expected) where
  abbrev Same : Type 0
  Same = reply_to (block_of s) is_excluded expected 30 ≡ reply_to (block_of t) is_excluded expected 30

  -- no check from 1 to 4 refuses the other, its curves have every price that those of the one have, and they share the points that they must find
  abbrev Longer : Hour → Hour → Type 0
  Longer h g = Lawful g expected × Extends h.da g.da × Extends h.rt g.rt × SamePoints h g is_excluded

  pub blocks_alike : BlocksApart s t
      → ((h g : Hour) → block_of s ≡ read h → block_of t ≡ read g → PricedAlike h g is_excluded expected) → Same
  blocks_alike b alike =
      by_reading block_of reply CurvesApart turned curves_apart_break_alike s t is_excluded expected b (λ o h g x y. go o h g x y (alike h g x y))
    where
      go : CurvesApart s t → (h g : Hour) → block_of s ≡ read h → block_of t ≡ read g → PricedAlike h g is_excluded expected → Same
      go o h g x y (one e) = rw (x, y, e)
      go o h g x y (priced c d p e) = (only_needed_prices_of_blocks_matter s t h g is_excluded expected row o x y c d p e).0

  -- the same curves, cut into other steps
  pub blocks_recut : BlocksApart s t
      → ((h g : Hour) → block_of s ≡ read h → block_of t ≡ read g → Recut h g expected) → Same
  blocks_recut b alike =
      by_reading block_of reply CurvesApart turned curves_apart_break_alike s t is_excluded expected b (λ o h g x y. go o h g x y (alike h g x y))
    where
      go : CurvesApart s t → (h g : Hour) → block_of s ≡ read h → block_of t ≡ read g → Recut h g expected → Same
      go o h g x y (uncut e) = rw (x, y, e)
      go o h g x y (cut c d da rt) = (any_cutting_of_a_block_settles_alike s t h g is_excluded expected row o x y c d da rt).0

  adding : CurvesApart s t → (h g : Hour) → block_of s ≡ read h → block_of t ≡ read g → (sum cents : ℤ) → Longer h g
      → reply_to (block_of s) is_excluded expected 30 ≡ paid sum cents → reply_to (block_of t) is_excluded expected 30 ≡ paid sum cents
  adding o h g x y sum cents l p = (adding_curve_to_a_block_changes_nothing s t h g is_excluded expected row o x y sum cents l.0 l.1 l.2 l.3 p).0

  pub blocks_extended : BlocksApart s t → (h g : Hour) → block_of s ≡ read h → block_of t ≡ read g → (sum cents : ℤ) → Longer h g
      → reply_to (block_of s) is_excluded expected 30 ≡ paid sum cents → reply_to (block_of t) is_excluded expected 30 ≡ paid sum cents
  blocks_extended = curve_added block_of reply CurvesApart turned curves_apart_break_alike s t is_excluded expected Longer adding

  pub blocks_added : BlocksApart s t → Pays (reply_to (block_of s) is_excluded expected 30)
      → ((h g : Hour) → block_of s ≡ read h → block_of t ≡ read g → Longer h g)
      → Same
  blocks_added = added_alike block_of reply CurvesApart turned curves_apart_break_alike s t is_excluded expected Longer adding
