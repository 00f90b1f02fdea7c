use mathlib.Core.Path.{◌≡◌, refl, sym, ◌∙◌, ap}
use mathlib.Core.Bool.{true, false}
use Prim.Native.Nat.{ℕ, zero, suc, ◌+◌, ◌-◌, ◌<◌, ◌≤◌}
use native.Mathlib.Numerals.{add-one}
use native.Mathlib.Omega.{arith}
use borrow.Author.Tests.{eq-eqb, ne_eqb}
use lib.Signed.{le_z}
use Rattle.tariff.specs.declared.Curve.{Curve}
use Rattle.tariff.specs.Sheet.{end_of, price_of, begin_of, all_to, rises, is_fair, step_keeps, curve_keeps}
use Rattle.tariff.proofs.Tests.{all_none, all_more, all_not}
use Rattle.checks.proofs.faults.curve_keeps.Goals as goal
use Rattle.checks.proofs.faults.curve_keeps.Goals.{then-j-ge2+else-not-price_at_most, else-j-ge2}

-- ---- the rules at a step j that the code counts to
begin-next : (c : Curve) (j : ℕ) → end_of c j ≡ begin_of c (j + 1)
begin-next c j = rw add-one

fair-early : (c : Curve) (j : ℕ) → j < 2 → is_fair c j ≡ true
fair-early c zero u = refl
fair-early c (suc zero) u = refl
fair-early c (suc (suc j)) u = absurd (omega arith)

fair-later : (c : Curve) (j : ℕ) → 2 ≤ j → le_z (price_of c (j - 1)) (price_of c j) ≡ is_fair c j
fair-later c zero u = absurd (omega arith)
fair-later c (suc zero) u = absurd (omega arith)
fair-later c (suc (suc j)) u = let e : suc (suc j) - 1 ≡ suc j = omega arith in rw e

module _ (c : Curve) (some : c.n ≡ 0 → ⊥) where
  keeps-all : (j : ℕ) → j ≡ c.n → all_to (step_keeps c) j ≡ true → true ≡ curve_keeps c
  unfolding curve_keeps
  keeps-all j u e = rw (ne_eqb c.n 0 some, ← ap (all_to (step_keeps c)) u, e)

  keeps-not : (j : ℕ) → j < c.n → step_keeps c j ≡ false → false ≡ curve_keeps c
  unfolding curve_keeps
  keeps-not j u e = rw (ne_eqb c.n 0 some, all_not (step_keeps c) c.n j u e)

pub returns-then-n-eq0 : goal.returns-then-n-eq0
unfolding curve_keeps
returns-then-n-eq0 c = rw (eq-eqb c.args.c.n 0 c.if-n-eq0.true) c.same.ensures

pub loop-j-init : goal.loop-j-init
loop-j-init c = (omega arith, refl, all_none _)

pub returns-then-not-below : goal.returns-then-not-below
returns-then-not-below c =
    let l = c.loop-j in
    let rise : rises c.args.c l.j ≡ false = rw (← l.invariant.1) (sym c.below.ensures ∙ c.if-not-below.true) in
    keeps-not c.args.c c.if-n-eq0.false l.j c.loop-j-test.true (rw rise)

pub returns-then-not-price_at_most : goal.returns-then-not-price_at_most
returns-then-not-price_at_most c =
    let curve = c.args.c in
    let l = c.loop-j in
    let rise : rises curve l.j ≡ true = rw (← l.invariant.1) (sym c.below.ensures ∙ c.if-not-below.false) in
    let fair : is_fair curve l.j ≡ false = sym (c.price_at_most.ensures ∙ fair-later curve l.j c.if-j-ge2.true) ∙ c.if-not-price_at_most.true in
    keeps-not curve c.if-n-eq0.false l.j c.loop-j-test.true (rw (rise, fair))

pub loop-j-preserved : goal.loop-j-preserved
loop-j-preserved c =
    let curve = c.args.c in
    let l = c.loop-j in
    let rise : rises curve l.j ≡ true = rw (← l.invariant.1) (sym c.below.ensures ∙ c.if-not-below.false) in
    let fair : is_fair curve l.j ≡ true =
    elim c.if-j-ge2.branch [
      | then-j-ge2+else-not-price_at_most w ↦ sym (w.price_at_most.ensures ∙ fair-later curve l.j w.if-j-ge2.true) ∙ w.if-not-price_at_most.false
      | else-j-ge2 w ↦ fair-early curve l.j w.if-j-ge2.false
    ]
    in
    (omega arith, begin-next curve l.j, all_more (step_keeps curve) l.j ∙ rw (l.invariant.2, rise) fair)

pub returns : goal.returns
returns c =
    let curve = c.args.c in
    let l = c.loop-j in
    keeps-all curve c.if-n-eq0.false l.j (omega arith) l.invariant.2
