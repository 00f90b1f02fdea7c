-- `hours::add` meets its contract: a refusal withholds the total, and the cents of a paid hour are few enough that the sum fits.
use Rattle.std.specs.Prelude.{Some}
use mathlib.Core.Path.{◌≡◌, ap}
use Prim.Native.Nat.{◌^◌, ◌<◌}
use native.Mathlib.Omega.{arith}
use lib.Signed.{mag}
use Rattle.exact.specs.Whole.{Within}
use Rattle.exact.proofs.Bits.{plain}
use Rattle.tariff.specs.declared.Answer.{Answer}
use Rattle.tariff.specs.declared.Answer.TheVariants.{Paid}
use Rattle.tariff.specs.declared.Cents.{Cents}
use Rattle.tariff.specs.declared.Grains.{Grains}
use Rattle.tariff.specs.Reply.{told}
use Rattle.tariff.specs.Total.{told_total, Total}
use Rattle.tariff.proofs.Wraps.{is_sum}
use Rattle.ledger.specs.Walk.{Rounded, UpToCents}
use Rattle.ledger.proofs.Totals.{rounded_most, add_paid}
use Rattle.ledger.proofs.hours.add.Goals as goal

-- the total so far, and the hour's sum and cents
sofar_most : (t : Total) (sofar : Cents) → UpToCents 65000000000000 (told_total t) → t ≡ Some sofar → Within 65000000000000 sofar.0
sofar_most t sofar u e = u.most sofar.0 (ap told_total e)

cents_most : (a : Answer) (sum : Grains) (cents : Cents) → Rounded (told a) → a ≡ Paid sum cents → mag sum.0 < 2 ^ 63 → Within 2600000000000 cents.0
cents_most a sum cents r e h = rounded_most (told a) sum.0 cents.0 r (ap told e) h

pub returns-in-Paid : goal.returns-in-Paid
returns-in-Paid c =
    let a = c.args in
    let small : mag c.in-Paid.field-0.0 < 2 ^ 63 = omega arith in
    let sofar = sofar_most a.total c.in_ok-sum.sum c.requires.0 c.in_ok-sum.was in
    let cents = cents_most a.answer c.in-Paid.field-0 c.in-Paid.cents c.requires.1 c.in-Paid.is small in
    let sum = is_sum tt (plain sofar) (plain cents) c.add.ensures in
    add_paid a.total a.answer c.in_ok-sum.sum c.in-Paid.cents c.in-Paid.field-0 _ c.in_ok-sum.was c.in-Paid.is cents sum.same
