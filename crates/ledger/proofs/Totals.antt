-- The sum of the paid cents, with one answer more: what it is and how large it can be.
use Rattle.std.specs.Prelude.{None, Some}
use mathlib.Core.Path.{◌≡◌, refl, sym, ap}
use Prim.Native.Nat.{ℕ, ◌+◌, ◌^◌, ◌<◌, ◌≤◌}
use native.Mathlib.Nat.{div-le_of_le-mul}
use native.Mathlib.Omega.{arith}
use lib.IntN.{ℤ, pos, ◌+ℤ◌}
use lib.Signed.{mag}
use Rattle.exact.specs.Whole.{Within}
use Rattle.exact.proofs.Apart.{impossible}
use Rattle.exact.proofs.Range.{within_add, within_more, over_mag}
use Rattle.tariff.specs.declared.Answer.{Answer}
use Rattle.tariff.specs.declared.Answer.TheVariants.{Paid, Refused}
use Rattle.tariff.specs.declared.Check.{Check}
use Rattle.tariff.specs.declared.Cents.{Cents}
use Rattle.tariff.specs.declared.Grains.{Grains}
use Rattle.tariff.specs.Units.{cents_of}
use Rattle.tariff.specs.Reply.{Reply, paid, told}
use Rattle.tariff.specs.Total.{Sum, total, no_total, told_total, Total}
use Rattle.tariff.proofs.Totals.{refusal_withholds}
use Rattle.ledger.specs.Walk.{Rounded, UpToCents, Added}

-- ---- how large it can be

none_most : (N : ℕ) → UpToCents N no_total
none_most N = record { most = λ c e. impossible cc }

pub most_more : {A B : ℕ} {x : Sum} → A ≤ B → UpToCents A x → UpToCents B x
most_more h u = record { most = λ c e. within_more h (u.most c e) }

pub nothing_most : UpToCents 0 (total (pos 0))
nothing_most = record { most = λ c e. let same : pos 0 ≡ c = cc in rw (← same) (record { above = omega arith; below = omega arith }) }

-- a sum of 64 bits
cents_most : (sum : ℤ) → mag sum < 2 ^ 63 → Within 2600000000000 (cents_of sum)
unfolding cents_of
cents_most sum f = record { above = div-le_of_le-mul 3600000 (omega (arith, over_mag sum)); below = omega arith }

pub rounded_most : (r : Reply) (sum cents : ℤ) → Rounded r → r ≡ paid sum cents → mag sum < 2 ^ 63 → Within 2600000000000 cents
rounded_most r sum cents h e f = rw (h.cents sum cents e) (cents_most sum f)

-- ---- one answer more

pub add_withheld : (t : Total) (a : Answer) → t ≡ None → Added (told_total t) (told a) no_total
add_withheld t a e = rw e (record { told = refl; most = λ N u. none_most (N + 2600000000000) })

pub add_refused : (t : Total) (a : Answer) (check : Check) → a ≡ Refused check → Added (told_total t) (told a) no_total
add_refused t a check e =
    rw e (record { told = sym (refusal_withholds (told_total t) _ _); most = λ N u. none_most (N + 2600000000000) })

pub add_paid : (t : Total) (a : Answer) (c d : Cents) (g : Grains) (x : ℤ) → t ≡ Some c → a ≡ Paid g d → Within 2600000000000 d.0 → x ≡ c.0 +ℤ d.0
    → Added (told_total t) (told a) (total x)
add_paid t a c d g x p q w e =
    rw (p, q)
    (record {
      told = ap total e;
      most = λ N u. record { most = λ z f. let same : z ≡ c.0 +ℤ d.0 = cc in rw same (within_add (u.most c.0 refl) w) };
    })
