-- A block's part of the day, and what it comes to in cents, is never less than nothing; and it is nothing on a CTS import.
use mathlib.Core.Path.{◌≡◌, refl}
use mathlib.Core.Bool.{false}
use Prim.Native.Nat.{ℕ, zero, suc, ◌<◌}
use native.Mathlib.Omega.{arith}
use lib.IntN.{ℤ, pos}
use lib.Signed.{◌≤ℤ◌}
use Rattle.exact.specs.Whole.{max_z, eq_z, sum_to}
use Rattle.exact.proofs.Parts.{arithℤ, add_parts}
use Rattle.tariff.specs.Units.{cents_of}
use Rattle.tariff.specs.Import.{import_part}
use Rattle.tariff.proofs.ImportGrains.{cts_pays_nothing, part_least}
use Rattle.imports.specs.Import.{ImportBlock, broken, read, block_part}

pub sum_least : (f : ℕ → ℤ) (n : ℕ) → ((k : ℕ) → k < n → pos 0 ≤ℤ f k) → pos 0 ≤ℤ sum_to f n
unfolding sum_to
sum_least f zero h = omega arithℤ
sum_least f (suc n) h =
    let before = sum_least f n (λ k u. h k (omega arith)) in
    let here = h n (omega arith) in
    omega (arithℤ, add_parts (sum_to f n) (f n))

pub cents_least : (g : ℤ) → pos 0 ≤ℤ cents_of g
unfolding cents_of
cents_least g = omega arithℤ

pub block_least : (cts : ℤ) (b : ImportBlock) → pos 0 ≤ℤ block_part cts b
block_least cts (broken line) = omega arithℤ
block_least cts (read h) = part_least cts h

pub block_nothing : (cts : ℤ) (b : ImportBlock) → eq_z cts (pos 0) ≡ false → block_part cts b ≡ pos 0
unfolding import_part max_z
block_nothing cts (broken line) e = refl
block_nothing cts (read h) e = rw (cts_pays_nothing cts h e)
