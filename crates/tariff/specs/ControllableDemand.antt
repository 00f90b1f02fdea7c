-- The words of the demands for an internal controllable line: which kilowatts an interval must price, when REACH refuses, and what two of its
-- hours have in common.
use Rattle.std.specs.Prelude.{◌≡◌, Bool, false, ℕ, ◌<◌, ℤ}
use Rattle.tariff.specs.declared.IclHour.{IclHour}
use Rattle.tariff.specs.declared.Expected.{Expected}
use Rattle.tariff.specs.Curve.{Amount, none, quote}
use Rattle.tariff.specs.Contributions.{curve_in}
use Rattle.tariff.specs.Controllable.{icl_interval, icl_parts, icl_is_lower, icl_outcome_at}
use Rattle.tariff.specs.Demand.{Between, LawfulBlock, WholeBlock, PassesAll}

-- the hour is marked, and kilowatt k lies between AEI and DASI
pub record IclMustPrice (h : IclHour) (is_excluded : Bool) (i : ℕ) (k : ℤ) : Type 0 where
  pub counted : i < h.n
  pub eligible : is_excluded ≡ false
  pub needed : Between h.dasi.0 (icl_interval h i).aei.0 k

-- the price of kilowatt k on the curve of the branch that interval i takes
abbrev pub icl_price_in : IclHour → ℕ → ℤ → Amount
icl_price_in h i k = quote (curve_in (icl_is_lower h.dasi (icl_interval h i)) h.da h.rt) k

-- a kilowatt that interval i must price has no price
pub record IclUnpriced (h : IclHour) (is_excluded : Bool) (i : ℕ) : Type 0 where
  pub kilowatt : ℤ
  pub needed : IclMustPrice h is_excluded i kilowatt
  pub missing : icl_price_in h i kilowatt ≡ none

-- i is the first interval with such a kilowatt
pub record IclFirstUnpriced (h : IclHour) (is_excluded : Bool) (i : ℕ) : Type 0 where
  pub here : IclUnpriced h is_excluded i
  pub first : (j : ℕ) → j < i → IclUnpriced h is_excluded j → ⊥

abbrev pub IclSomeUnpriced : IclHour → Bool → Type 0
IclSomeUnpriced h is_excluded = (i : ℕ) × IclUnpriced h is_excluded i

-- ---- checks that find no fault

abbrev pub IclLawful : IclHour → Expected → Type 0
IclLawful h = LawfulBlock (icl_parts h)

abbrev pub IclWholeHour : IclHour → Expected → Type 0
IclWholeHour h = WholeBlock (icl_parts h)

abbrev pub IclPasses : IclHour → (is_excluded : Bool) → Expected → ℕ → Type 0
IclPasses h is_excluded = PassesAll (icl_parts h) (icl_outcome_at h is_excluded)

-- ---- two hours alike in all but their curves

pub record IclAlike (h g : IclHour) : Type 0 where
  pub hour : h.hour ≡ g.hour
  pub dasi : h.dasi ≡ g.dasi
  pub dasw : h.dasw ≡ g.dasw
  pub n : h.n ≡ g.n
  pub iv : h.iv ≡ g.iv
