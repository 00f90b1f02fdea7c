-- The words of the theorems of an internal controllable line's day: days that differ in their curve lines only.
use Rattle.std.specs.Prelude.{Bool, List, ℕ}
use Rattle.tariff.specs.declared.IclHour.{IclHour}
use Rattle.tariff.specs.declared.Expected.{Expected}
use Rattle.tariff.specs.ControllableDemand.{IclMustPrice, icl_price_in, IclLawful}
use Rattle.iclblocks.specs.IclBlock.{icl_block_of}
use Rattle.iclblocks.specs.IclApart.{IclCurvesApart}
use Rattle.ledger.specs.Day.{Front}
use Rattle.ledger.specs.Demand.{SameOr, DaysOf, BothReadBy, PricedBy}
use Rattle.ledger.specs.IclDay.{icl_answer}

abbrev pub IclBlocksApart : (s t : List ℕ) → Type 0
IclBlocksApart = SameOr IclCurvesApart

abbrev pub IclDaysApart : (f g : Front) → Type 0
IclDaysApart = DaysOf icl_answer IclCurvesApart

abbrev pub IclBothRead : (f g : Front) → (ℕ → IclHour → IclHour → Type 0) → Type 0
IclBothRead = BothReadBy icl_block_of

-- a controllable line has no operating point to share
abbrev pub IclPricedAlike : (h g : IclHour) → (is_excluded : Bool) → Expected → Type 0
IclPricedAlike h g is_excluded expected = PricedBy (λ x. IclLawful x expected) (λ x y. Unit {0}) (λ x. IclMustPrice x is_excluded) icl_price_in h g
