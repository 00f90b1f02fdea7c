use mathlib.Core.Path.{◌≡◌, sym, ◌∙◌}
use mathlib.Core.Bool.{Bool, true, ◌&&◌}
use Prim.Native.Nat.{ℕ, ◌<◌, ◌^◌}
use native.Mathlib.Omega.{arith}
use borrow.Author.Count.{below_none, below_more}
use lib.Signed.{mag}
use Rattle.tariff.specs.declared.ImportHour.{ImportHour}
use Rattle.tariff.specs.Sheet.{is_hour, is_capacity, is_price}
use Rattle.tariff.specs.Reply.{first_of}
use Rattle.tariff.specs.Import.{curtailed, curtailed_in_range, import_range}
use Rattle.tariff.proofs.ImportRanges.{import_form_says}
use Rattle.exact.proofs.Bits.{held}
use Rattle.exact.proofs.Calls.{handed}
use Rattle.checks.proofs.Lines.{line_of, lines_clear, line_fault_lem}
use Rattle.checks.proofs.curtailed.range_fault.Goals as goal

abbrev in_range : ImportHour → ℕ → Bool
in_range h i = curtailed_in_range (curtailed h i)

-- ---- line 1
module _ (h : ImportHour) (hours : ℕ) where
  -- the answer, and how the code's test of it came out
  first : {a t : Bool} → mag h.hour < 2 ^ 63 → a ≡ (is_hour hours (held h.hour) && is_capacity h.den.0 && is_price h.dec.0) → a ≡ t
      → (is_hour hours h.hour && is_capacity h.den.0 && is_price h.dec.0) ≡ t
  first f e r = sym (e ∙ (λ j. is_hour hours (handed h.hour f j) && is_capacity h.den.0 && is_price h.dec.0)) ∙ r

  -- what is left of the check when that is in range
  rest : (is_hour hours h.hour && is_capacity h.den.0 && is_price h.dec.0) ≡ true → import_range hours h ≡ first_of (line_of (in_range h) 2) h.n
  unfolding import_range
  rest e = rw e

pub returns-then-not-first_in_range : goal.returns-then-not-first_in_range
unfolding import_range
returns-then-not-first_in_range c = rw (first c.args.h c.args.hours (omega arith) c.first_in_range.ensures c.if-not-first_in_range.true)

-- ---- the loop
pub loop-i-init : goal.loop-i-init
loop-i-init c = (omega arith, below_none _)

pub returns-then-not-line_in_range : goal.returns-then-not-line_in_range
returns-then-not-line_in_range c =
    let h = c.args.h in
    let line = line_fault_lem (in_range h) 2 c.loop-i.i c.loop-i.invariant.1 h.n c.loop-i-test.true (sym c.line_in_range.ensures ∙ c.if-not-line_in_range.true) in
    let left = rest h c.args.hours (first h c.args.hours (omega arith) c.first_in_range.ensures c.if-not-first_in_range.false) in
    sym (left ∙ line)

pub loop-i-preserved : goal.loop-i-preserved
loop-i-preserved c = (omega arith, below_more _ _ c.loop-i.invariant.1 (sym c.line_in_range.ensures ∙ c.if-not-line_in_range.false))

pub returns : goal.returns
returns c =
    let h = c.args.h in
    let left = rest h c.args.hours (first h c.args.hours (omega arith) c.first_in_range.ensures c.if-not-first_in_range.false) in
    sym (left ∙ lines_clear (in_range h) 2 c.loop-i.i c.loop-i.invariant.1 h.n (omega arith))

pub offset_bounds-iv-i : goal.offset_bounds-iv-i
offset_bounds-iv-i c = omega (arith, import_form_says c.args.h c.requires)

pub bounds-iv-i : goal.bounds-iv-i
bounds-iv-i c = omega (arith, import_form_says c.args.h c.requires)

pub overflow_add-result : goal.overflow_add-result
overflow_add-result c = omega (arith, import_form_says c.args.h c.requires)

pub overflow_add-i : goal.overflow_add-i
overflow_add-i c = omega (arith, import_form_says c.args.h c.requires)
