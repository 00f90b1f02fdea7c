use mathlib.Core.Path.{◌≡◌, sym, ◌∙◌}
use mathlib.Core.Bool.{Bool, true, ◌&&◌}
use Prim.Native.Nat.{ℕ, ◌<◌, ◌^◌}
use native.Mathlib.Omega.{arith}
use borrow.Author.Count.{below_none, below_more}
use lib.Signed.{mag}
use Rattle.tariff.specs.declared.Hour.{Hour}
use Rattle.tariff.specs.declared.Expected.{Expected}
use Rattle.tariff.specs.Sheet.{is_hour, curve_in_range, ahead_in_range, interval_in_range}
use Rattle.tariff.specs.Reply.{first_of}
use Rattle.tariff.specs.Checks.{hours_around, range_in}
use Rattle.tariff.specs.Hour.{interval, parts_of, range}
use Rattle.tariff.proofs.Ranges.{form_says}
use Rattle.exact.proofs.Bits.{held}
use Rattle.exact.proofs.Calls.{handed}
use Rattle.checks.proofs.Lines.{line_of, lines_clear, line_fault_lem}
use Rattle.checks.proofs.faults.range_fault.Goals as goal

abbrev in_range : Hour → ℕ → Bool
in_range h i = interval_in_range (interval h i)

-- ---- the first three lines
module _ (h : Hour) (expected : Expected) where
  -- line 1: the two answers joined, and how the code's test of them came out
  joined : {hours : ℕ} {a b t : Bool} → mag h.hour < 2 ^ 63 → hours ≡ hours_around expected → a ≡ is_hour hours (held h.hour) → b ≡ ahead_in_range h.ahead → (a && b) ≡ t
      → (is_hour (hours_around expected) h.hour && ahead_in_range h.ahead) ≡ t
  joined f e p q r = sym (λ i. (p ∙ (λ j. is_hour (e j) (handed h.hour f j))) i && q i) ∙ r

  -- what is left of the check when those are in range
  rest : (is_hour (hours_around expected) h.hour && ahead_in_range h.ahead) ≡ true → curve_in_range h.da ≡ true → curve_in_range h.rt ≡ true
      → range h expected ≡ first_of (line_of (in_range h) 4) h.n
  unfolding range_in
  rest e f g = rw (e, f, g)

pub returns-then-not-is_hour-ahead_in_range : goal.returns-then-not-is_hour-ahead_in_range
unfolding range_in
returns-then-not-is_hour-ahead_in_range c = let h = c.args.h in rw (joined h c.args.expected (omega arith) c.hours_around-hours.ensures c.is_hour.ensures c.ahead_in_range.ensures c.if-not-is_hour-ahead_in_range.true)

pub returns-then-not-curve_in_range : goal.returns-then-not-curve_in_range
unfolding range_in
returns-then-not-curve_in_range c =
    let h = c.args.h in
    rw (joined h c.args.expected (omega arith) c.hours_around-hours.ensures c.is_hour.ensures c.ahead_in_range.ensures c.if-not-is_hour-ahead_in_range.false, sym c.curve_in_range.ensures ∙ c.if-not-curve_in_range.true)

pub returns-then-not-curve_in_range-2 : goal.returns-then-not-curve_in_range-2
unfolding range_in
returns-then-not-curve_in_range-2 c =
    let h = c.args.h in
    rw (joined h c.args.expected (omega arith) c.hours_around-hours.ensures c.is_hour.ensures c.ahead_in_range.ensures c.if-not-is_hour-ahead_in_range.false, sym c.curve_in_range.ensures ∙ c.if-not-curve_in_range.false, sym c.curve_in_range-2.ensures ∙ c.if-not-curve_in_range-2.true)

-- ---- the loop
pub loop-i-init : goal.loop-i-init
loop-i-init c = (omega arith, below_none _)

pub returns-then-not-interval_in_range : goal.returns-then-not-interval_in_range
returns-then-not-interval_in_range c =
    let h = c.args.h in
    let line = line_fault_lem (in_range h) 4 c.loop-i.i c.loop-i.invariant.1 h.n c.loop-i-test.true (sym c.interval_in_range.ensures ∙ c.if-not-interval_in_range.true) in
    let left = rest h c.args.expected (joined h c.args.expected (omega arith) c.hours_around-hours.ensures c.is_hour.ensures c.ahead_in_range.ensures c.if-not-is_hour-ahead_in_range.false) (sym c.curve_in_range.ensures ∙ c.if-not-curve_in_range.false) (sym c.curve_in_range-2.ensures ∙ c.if-not-curve_in_range-2.false) in
    sym (left ∙ line)

pub loop-i-preserved : goal.loop-i-preserved
loop-i-preserved c = (omega arith, below_more _ _ c.loop-i.invariant.1 (sym c.interval_in_range.ensures ∙ c.if-not-interval_in_range.false))

pub returns : goal.returns
returns c =
    let h = c.args.h in
    let left = rest h c.args.expected (joined h c.args.expected (omega arith) c.hours_around-hours.ensures c.is_hour.ensures c.ahead_in_range.ensures c.if-not-is_hour-ahead_in_range.false) (sym c.curve_in_range.ensures ∙ c.if-not-curve_in_range.false) (sym c.curve_in_range-2.ensures ∙ c.if-not-curve_in_range-2.false) in
    sym (left ∙ lines_clear (in_range h) 4 c.loop-i.i c.loop-i.invariant.1 h.n (omega arith))

pub offset_bounds-iv-i : goal.offset_bounds-iv-i
offset_bounds-iv-i c = omega (arith, form_says (parts_of c.args.h) c.requires)

pub bounds-iv-i : goal.bounds-iv-i
bounds-iv-i c = omega (arith, form_says (parts_of c.args.h) c.requires)

pub overflow_add-result : goal.overflow_add-result
overflow_add-result c = omega (arith, form_says (parts_of c.args.h) c.requires)

pub overflow_add-i : goal.overflow_add-i
overflow_add-i c = omega (arith, form_says (parts_of c.args.h) c.requires)
