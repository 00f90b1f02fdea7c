-- "Units": kilowatts, cents per MWh and grains are types of their own in the code. Here each is its whole number.
use Rattle.std.specs.Prelude.{Option, ◌+◌, ◌/◌, ℤ, pos, ◌*ℤ◌}
use Rattle.tariff.specs.declared.Kw.{Kw}
use Rattle.tariff.specs.declared.Price.{Price}
use Rattle.tariff.specs.declared.MovePrice.{MovePrice}
use Rattle.tariff.specs.declared.Seconds.{Seconds}
use Rattle.tariff.specs.declared.Grains.{Grains}
use Rattle.tariff.specs.declared.Cents.{Cents}
use Rattle.exact.specs.Whole.{over}

abbrev pub kw : ℤ → Kw
kw z = record { 0 = z }

-- a power that an interval line may leave out
abbrev pub MaybeKw : Type 0
MaybeKw = Option Kw

abbrev pub price : ℤ → Price
price z = record { 0 = z }

abbrev pub move_price : ℤ → MovePrice
move_price z = record { 0 = z }

abbrev pub seconds : ℤ → Seconds
seconds z = record { 0 = z }

abbrev pub grains : ℤ → Grains
grains z = record { 0 = z }

abbrev pub cents : ℤ → Cents
cents z = record { 0 = z }

-- kilowatts times cents per MWh for seconds are grains
abbrev pub grains_of : ℤ → ℤ → ℤ → ℤ
grains_of k p s = k *ℤ p *ℤ s

-- one kilowatt of movement at one cent per MW is 3,600 grains
abbrev pub moved_grains : ℤ → ℤ → ℤ
moved_grains k p = k *ℤ p *ℤ pos 3600

-- the cents of a sum of grains: a cent is 3,600,000 grains, a sum below zero pays nothing, and where half a cent or more is left over, it
-- counts as one more
unfoldable pub cents_of : ℤ → ℤ
cents_of sum = pos ((over sum + 1800000) / 3600000)
