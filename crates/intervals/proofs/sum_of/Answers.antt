use mathlib.Core.Path.{◌≡◌, sym}
use Prim.Native.Nat.{◌*◌, ◌≤◌}
use native.Mathlib.Omega.{arith}
use Rattle.exact.proofs.Range.{within_more, within_lit}
use Rattle.exact.proofs.Sums.{sum_none, sum_more, sum_within}
use Rattle.intervals.specs.Walk.{grains_at}
use Rattle.intervals.proofs.sum_of.Goals as goal

pub loop-i-init : goal.loop-i-init
loop-i-init c = (omega arith, sym (sum_none (grains_at c.args.parts)))

pub grains_plus-sum-requires : goal.grains_plus-sum-requires
grains_plus-sum-requires c =
    let A = c.args in
    let L = c.loop-i in
    let each = c.requires.1.each in
    let few : 100000000000000000 * L.i ≤ 4000000000000000000 = omega arith in (
      rw L.invariant.1 (within_more few (sum_within 100000000000000000 (grains_at A.parts) L.i (λ k u. each k))),
      within_lit tt (each L.i),
    )

pub loop-i-preserved : goal.loop-i-preserved
loop-i-preserved c =
    let A = c.args in
    let L = c.loop-i in
    (omega arith, rw (c.grains_plus-sum.ensures, L.invariant.1, sum_more (grains_at A.parts) L.i))

pub returns : goal.returns
returns c =
    let A = c.args in
    let same : c.loop-i.i ≡ A.n = omega arith in
    rw (← same) c.loop-i.invariant.1
