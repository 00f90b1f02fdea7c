-- `Kw::moved` meets its contract: the second product wraps what the first one left.
use mathlib.Core.Path.{◌∙◌, ap}
use Prim.Native.Nat.{◌*◌, ◌%◌, ◌^◌}
use native.Mathlib.Omega.{arith}
use borrow.Author.Rules.{rules}
use lib.IntN.{ℤ, pos, ◌*ℤ◌}
use mir.Syntax.{w64}
use mir.Val.{SFits, of_z}
use Rattle.std.specs.Int.{int_wrap}
use Rattle.std.proofs.lemmas.Int.{wrapping_mul_is, wrapping_mul_onto, int_wrap-mul_left}
use Rattle.tariff.proofs.Kw.moved.Goals as goal

pub returns : goal.returns
returns c =
    let k = c.args.self.0 in
    let p = c.args.p.0 in
    let f : SFits w64 k = search rules in
    let g : SFits w64 p = search rules in
    let h : SFits w64 (pos 3600) = record { sfits = omega arith } in
    wrapping_mul_onto w64 (of_z w64 k * of_z w64 p % 2 ^ 64) (pos 3600) (search rules) h
    ∙ ap (λ (z : ℤ). int_wrap w64 (z *ℤ pos 3600)) (wrapping_mul_is w64 k p f g)
    ∙ int_wrap-mul_left w64 (k *ℤ p) (pos 3600)
