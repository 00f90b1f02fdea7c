-- Two blocks of an internal controllable line that are the same or differ in their curve lines only are answered alike.
use mathlib.Core.Path.{◌≡◌}
use mathlib.Core.Bool.{Bool}
use mathlib.Core.List.{List}
use Prim.Native.Nat.{ℕ}
use lib.IntN.{ℤ}
use Rattle.tariff.specs.declared.IclHour.{IclHour}
use Rattle.tariff.specs.declared.Expected.{Expected}
use Rattle.tariff.specs.Reply.{paid}
use Rattle.tariff.specs.Controllable.{icl_reply}
use Rattle.tariff.specs.Total.{Pays}
use Rattle.tariff.specs.Demand.{Extends}
use Rattle.tariff.specs.ControllableDemand.{IclLawful}
use Rattle.curves.proofs.FrameApart.{turned}
use Rattle.iclblocks.specs.IclBlock.{read, icl_block_of}
use Rattle.iclblocks.specs.IclApart.{IclCurvesApart}
use Rattle.iclsheet.specs.IclSettle.{icl_reply_to}
use Rattle.iclsheet.proofs.IclBlockDemands.{icl_curves_apart_break_alike, icl_only_needed_prices_of_blocks_matter, icl_adding_curve_to_a_block_changes_nothing}
use Rattle.ledger.specs.Demand.{one, priced}
use Rattle.ledger.specs.IclDemand.{IclBlocksApart, IclPricedAlike}
use Rattle.ledger.proofs.ByReading.{row, by_reading, curve_added, added_alike}

module _ (s t : List ℕ) (is_excluded : Bool) (expected : Expected) where
  abbrev Same : Type 0
  Same = icl_reply_to (icl_block_of s) is_excluded expected 30 ≡ icl_reply_to (icl_block_of t) is_excluded expected 30

  -- no check from 1 to 4 refuses the other, and its curves have every price that those of the one have
  abbrev Longer : IclHour → IclHour → Type 0
  Longer h g = IclLawful g expected × Extends h.da g.da × Extends h.rt g.rt

  pub icl_blocks_alike : IclBlocksApart s t
      → ((h g : IclHour) → icl_block_of s ≡ read h → icl_block_of t ≡ read g → IclPricedAlike h g is_excluded expected) → Same
  icl_blocks_alike b alike =
      by_reading icl_block_of icl_reply IclCurvesApart turned icl_curves_apart_break_alike s t is_excluded expected b (λ o h g x y. go o h g x y (alike h g x y))
    where
      go : IclCurvesApart s t → (h g : IclHour) → icl_block_of s ≡ read h → icl_block_of t ≡ read g → IclPricedAlike h g is_excluded expected → Same
      go o h g x y (one e) = rw (x, y, e)
      go o h g x y (priced c d p e) = (icl_only_needed_prices_of_blocks_matter s t h g is_excluded expected row o x y c d e).0

  adding : IclCurvesApart s t → (h g : IclHour) → icl_block_of s ≡ read h → icl_block_of t ≡ read g → (sum cents : ℤ) → Longer h g
      → icl_reply_to (icl_block_of s) is_excluded expected 30 ≡ paid sum cents → icl_reply_to (icl_block_of t) is_excluded expected 30 ≡ paid sum cents
  adding o h g x y sum cents l p = (icl_adding_curve_to_a_block_changes_nothing s t h g is_excluded expected row o x y sum cents l.0 l.1 l.2 p).0

  pub icl_blocks_extended : IclBlocksApart s t → (h g : IclHour) → icl_block_of s ≡ read h → icl_block_of t ≡ read g → (sum cents : ℤ) → Longer h g
      → icl_reply_to (icl_block_of s) is_excluded expected 30 ≡ paid sum cents → icl_reply_to (icl_block_of t) is_excluded expected 30 ≡ paid sum cents
  icl_blocks_extended = curve_added icl_block_of icl_reply IclCurvesApart turned icl_curves_apart_break_alike s t is_excluded expected Longer adding

  pub icl_blocks_added : IclBlocksApart s t → Pays (icl_reply_to (icl_block_of s) is_excluded expected 30)
      → ((h g : IclHour) → icl_block_of s ≡ read h → icl_block_of t ≡ read g → Longer h g)
      → Same
  icl_blocks_added = added_alike icl_block_of icl_reply IclCurvesApart turned icl_curves_apart_break_alike s t is_excluded expected Longer adding
