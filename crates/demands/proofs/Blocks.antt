-- When a block is paid, and the lent row that a block leaves: what the hour's page says, of the text that is read.
use mathlib.Core.Path.{◌≡◌, refl, ap, ◌∙◌}
use mathlib.Core.Bool.{Bool}
use mathlib.Core.List.{List}
use mathlib.Core.Logic.{◌↔◌}
use Prim.Native.Nat.{ℕ}
use lib.IntN.{ℤ}
use lib.ListN.{length}
use Rattle.exact.specs.Whole.{sum_to}
use Rattle.exact.proofs.Apart.{impossible}
use Rattle.tariff.specs.declared.Hour.{Hour}
use Rattle.tariff.specs.declared.IclHour.{IclHour}
use Rattle.tariff.specs.declared.Expected.{Expected}
use Rattle.tariff.specs.Units.{cents_of}
use Rattle.tariff.specs.Reply.{Reply, paid, refused}
use Rattle.tariff.specs.Hour.{contribution, reply, row_after}
use Rattle.tariff.specs.Controllable.{icl_contribution, icl_reply, icl_row_after}
use Rattle.tariff.specs.Demand.{Passes}
use Rattle.tariff.specs.ControllableDemand.{IclPasses}
use Rattle.tariff.proofs.Demands.{paid_exactly_when_nothing_refuses, refused_row}
use Rattle.tariff.proofs.IclDemands.{icl_paid_exactly_when_nothing_refuses, icl_refused_row}
use Rattle.curves.specs.Frame.{Framed, broken, read}
use Rattle.curves.specs.Answered.{framed_reply, framed_row}
use Rattle.blocks.specs.Block.{Block}
use Rattle.sheet.specs.Settle.{reply_to, row_to}
use Rattle.iclblocks.specs.IclBlock.{IclBlock}
use Rattle.iclsheet.specs.IclSettle.{icl_reply_to, icl_row_to}

-- ---- a block of any kind is paid exactly when it is read and its record is

module _ {H : Type 0} (own : H → Bool → Expected → ℕ → Reply) (is_excluded : Bool) (expected : Expected) (room : ℕ) (sum cents : ℤ)
    (Passes : H → Type 0) (grains : H → ℤ)
    (paid_when : (h : H) → (own h is_excluded expected room ≡ paid sum cents) ↔ (Passes h × (sum ≡ grains h) × (cents ≡ cents_of (grains h)))) where
  framed_paid : (b : Framed H) → (framed_reply own b is_excluded expected room ≡ paid sum cents)
      ↔ ((h : H) × (b ≡ read h) × Passes h × (sum ≡ grains h) × (cents ≡ cents_of (grains h)))
  framed_paid (broken line) = (λ e. impossible cc, λ p. let e = p.1 in impossible cc)
  framed_paid (read h) = (
    λ e. let p = (paid_when h).0 e in (h, refl, p.0, p.1, p.2),
    λ p. ap (λ (x : Framed H). framed_reply own x is_excluded expected room) p.1 ∙ (paid_when p.0).1 (p.2, p.3, p.4),
  )

module _ (is_excluded : Bool) (expected : Expected) (room : ℕ) (sum cents : ℤ) where
  pub block_paid_when : (b : Block) → (reply_to b is_excluded expected room ≡ paid sum cents)
      ↔ ((h : Hour) × (b ≡ read h) × Passes h is_excluded expected room
      × (sum ≡ sum_to (contribution h is_excluded) h.n) × (cents ≡ cents_of (sum_to (contribution h is_excluded) h.n)))
  block_paid_when =
      framed_paid reply is_excluded expected room sum cents (λ h. Passes h is_excluded expected room) (λ h. sum_to (contribution h is_excluded) h.n)
      (λ h. paid_exactly_when_nothing_refuses h is_excluded expected room sum cents)

  pub line_paid_when : (b : IclBlock) → (icl_reply_to b is_excluded expected room ≡ paid sum cents)
      ↔ ((h : IclHour) × (b ≡ read h) × IclPasses h is_excluded expected room
      × (sum ≡ sum_to (icl_contribution h is_excluded) h.n) × (cents ≡ cents_of (sum_to (icl_contribution h is_excluded) h.n)))
  line_paid_when =
      framed_paid icl_reply is_excluded expected room sum cents (λ h. IclPasses h is_excluded expected room) (λ h. sum_to (icl_contribution h is_excluded) h.n)
      (λ h. icl_paid_exactly_when_nothing_refuses h is_excluded expected room sum cents)

-- ---- the lent row: a block that is refused leaves it, since its record does

module _ (is_excluded : Bool) (expected : Expected) (row : List ℤ) (number place : ℕ) where
  framed_refused : {H : Type 0} (own : H → Bool → Expected → ℕ → Reply) (left : H → Bool → Expected → List ℤ → List ℤ)
      → ((h : H) → own h is_excluded expected (length row) ≡ refused number place → left h is_excluded expected row ≡ row)
      → (b : Framed H) → framed_reply own b is_excluded expected (length row) ≡ refused number place → framed_row left b is_excluded expected row ≡ row
  framed_refused own left law (broken line) e = refl
  framed_refused own left law (read h) e = law h e

pub row_of_a_refused : (b : Block) (is_excluded : Bool) (expected : Expected) (row : List ℤ) (number place : ℕ)
    → reply_to b is_excluded expected (length row) ≡ refused number place
    → row_to b is_excluded expected row ≡ row
row_of_a_refused b is_excluded expected row number place =
    framed_refused is_excluded expected row number place reply row_after (λ h. refused_row h is_excluded expected row number place) b

pub row_of_a_refused_line : (b : IclBlock) (is_excluded : Bool) (expected : Expected) (row : List ℤ) (number place : ℕ)
    → icl_reply_to b is_excluded expected (length row) ≡ refused number place
    → icl_row_to b is_excluded expected row ≡ row
row_of_a_refused_line b is_excluded expected row number place =
    framed_refused is_excluded expected row number place icl_reply icl_row_after (λ h. icl_refused_row h is_excluded expected row number place) b
