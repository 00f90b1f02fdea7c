use mathlib.Core.Path.{◌≡◌, sym, ◌∙◌}
use Prim.Native.Nat.{ℕ}
use native.Mathlib.Omega.{arith}
use lib.IntN.{ℤ}
use Rattle.exact.proofs.Sums.{sum_none, sum_more}
use Rattle.tariff.specs.declared.IclHour.{IclHour}
use Rattle.tariff.specs.Checks.{seconds_in}
use Rattle.tariff.specs.Controllable.{icl_interval, icl_parts}
use Rattle.tariff.proofs.Ranges.{form_says}
use Rattle.checks.proofs.Seconds.{one_more_fits}
use Rattle.checks.proofs.controllable.seconds_fault.Goals as goal

abbrev seconds_of : IclHour → ℕ → ℤ
seconds_of h k = (icl_interval h k).s.0

pub loop-i-init : goal.loop-i-init
loop-i-init c = (omega arith, sym (sum_none (seconds_of c.args.h)))

pub seconds_plus-sum-requires : goal.seconds_plus-sum-requires
seconds_plus-sum-requires c =
    let l = c.loop-i in
    let h = c.args.h in
    one_more_fits (seconds_of h) h.n l.i _ (form_says (icl_parts h) c.requires.0).2 c.requires.1 (omega arith) l.invariant.1

pub loop-i-preserved : goal.loop-i-preserved
loop-i-preserved c =
    let l = c.loop-i in
    (omega arith, c.seconds_plus-sum.ensures ∙ rw (sum_more (seconds_of c.args.h) l.i, l.invariant.1))

pub returns : goal.returns
unfolding seconds_in
returns c =
    let l = c.loop-i in
    let all : l.i ≡ c.args.h.n = omega arith in
    rw (← all, ← l.invariant.1) c.sum_fault.ensures

-- the loop goes over at most 30 intervals
pub offset_bounds-iv-i : goal.offset_bounds-iv-i
offset_bounds-iv-i c = omega (arith, form_says (icl_parts c.args.h) c.requires.0)

pub bounds-iv-i : goal.bounds-iv-i
bounds-iv-i c = omega (arith, form_says (icl_parts c.args.h) c.requires.0)

pub overflow_add-i : goal.overflow_add-i
overflow_add-i c = omega (arith, form_says (icl_parts c.args.h) c.requires.0)
