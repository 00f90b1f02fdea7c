-- What `+`, `-` and the products of the units give where the result fits 64 bits: the number itself, which wraps nowhere.
use mathlib.Core.Path.{◌≡◌, ◌∙◌}
use Prim.Native.Nat.{ℕ, ◌+◌, ◌^◌}
use lib.Dec.{T, ltb}
use lib.IntN.{ℤ, ◌+ℤ◌, ◌-ℤ◌}
use mir.Syntax.{w64}
use mir.Val.{SFits}
use Rattle.std.specs.Int.{int_wrap}
use Rattle.std.proofs.lemmas.Int.{int_wrap_fits}
use Rattle.exact.specs.Whole.{Within}
use Rattle.exact.proofs.Bits.{Is, is_add, is_less, is_mul, plain, literal, fits}
use Rattle.tariff.specs.Units.{grains_of, moved_grains}

pub is_itself : {r z : ℤ} → SFits w64 z → r ≡ int_wrap w64 z → r ≡ z
is_itself {z = z} f e = e ∙ int_wrap_fits w64 z f

-- a sum and a difference of two whose ranges are known
pub is_sum : {A B : ℕ} {x y a b r : ℤ} → T (ltb (A + B) (2 ^ 63)) → Is A x a → Is B y b → r ≡ int_wrap w64 (x +ℤ y) → Is (A + B) r (a +ℤ b)
is_sum t f g e =
    let sum = is_add f g in
    record { same = is_itself (fits t sum) e ∙ sum.same; range = sum.range }

pub is_difference : {A B : ℕ} {x y a b r : ℤ} → T (ltb (A + B) (2 ^ 63)) → Is A x a → Is B y b → r ≡ int_wrap w64 (x -ℤ y) → Is (A + B) r (a -ℤ b)
is_difference t f g e =
    let difference = is_less f g in
    record { same = is_itself (fits t difference) e ∙ difference.same; range = difference.range }

-- the grains of numbers in their ranges
pub is_priced : {k p s r : ℤ} → Within 4000000 k → Within 2000000 p → Within 900 s → r ≡ int_wrap w64 (grains_of k p s) → r ≡ grains_of k p s
is_priced f g h e =
    let product = is_mul (is_mul (plain f) (plain g)) (plain h) in
    is_itself (fits tt product) e ∙ product.same

pub is_moved : {k p r : ℤ} → Within 2000000 k → Within 2000000 p → r ≡ int_wrap w64 (moved_grains k p) → r ≡ moved_grains k p
is_moved f g e =
    let product = is_mul (is_mul (plain f) (plain g)) (literal 3600) in
    is_itself (fits tt product) e ∙ product.same
