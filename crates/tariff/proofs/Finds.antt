-- What each check over a block of any kind of hour finds, in the words of the demands. RANGE and CURVE go line by line: such a fault is given exactly when a
-- line fails the test, and at the first that does.
use mathlib.Core.Path.{◌≡◌, refl, sym, ◌∙◌, ap}
use mathlib.Core.Bool.{Bool, true, false, false≢true}
use mathlib.Core.Logic.{◌↔◌}
use Prim.Native.Nat.{ℕ, suc, ◌+◌}
use native.Mathlib.Numerals.{add-four}
use native.Mathlib.Omega.{arith}
use lib.IntN.{ℤ, pos}
use Rattle.exact.specs.Whole.{eq_z, sum_to}
use Rattle.exact.proofs.Apart.{impossible}
use Rattle.exact.proofs.Parts.{true-eq_z, false-eq_z}
use Rattle.tariff.specs.declared.Expected.{Expected}
use Rattle.tariff.specs.declared.Expected.TheVariants.{Any, Says}
use Rattle.tariff.specs.Reply.{RANGE, CURVE, Verdict, clear, fault, unless, ◌then◌, first_of, ORDER, SECONDS}
use Rattle.tariff.specs.Sheet.{curve_keeps}
use Rattle.tariff.specs.Checks.{range_in, order_in, curves_in, seconds_in, Parts, range_of, order_of, curves_of, seconds_of}
use Rattle.tariff.specs.Demand.{line_in_range, line_keeps, FirstLine, FirstOutOfRange, FirstCurveBroken, SaysAnotherHour}
use Rattle.tariff.proofs.Checks.{then_assoc, then_clear, unless_clear, unless_when, first_same, first_behind, first_fault, fault_first, never_clear}

-- ---- one test of each line

module _ (test : ℕ → Bool) (number : ℕ) where
  abbrev line_fault : ℕ → Verdict
  line_fault line = unless (test line) number line

  line_when : (last line : ℕ) → (first_of line_fault (suc last) ≡ fault number line) ↔ FirstLine test last line
  line_when last line = (
    λ e.
        let f = first_fault line_fault (suc last) number line e in
        let w = (unless_when (test f.at) number f.at line).0 f.gives in
        rw w.1
        (record { counted = let u = f.below in omega arith; fails = w.0; first = λ j u. unless_clear (test j) number j (f.before j u) }),
    λ w.
        fault_first line_fault (suc last) number line
        (record { at = line; below = let u = w.counted in omega arith; before = λ j u. rw (w.first j u); gives = rw w.fails }),
  )

-- ---- the lines of a block are tested in their order

module _ (p : Parts) (expected : Expected) where
  range_lines : range_of p expected ≡ first_of (line_fault (line_in_range p expected) RANGE) (suc (p.n + 3))
  unfolding range_in first_of
  range_lines =
      let all = first_behind check 4 p.n in
      let count : 4 + p.n ≡ suc (p.n + 3) = omega arith in
      ap (λ (v : Verdict). check 1 then check 2 then check 3 then v) (first_same _ (λ i. check (4 + i)) p.n (λ i u. same i))
      ∙ sym (simp then_assoc at all)
      ∙ ap (first_of check) count
    where
      check : ℕ → Verdict
      check = line_fault (line_in_range p expected) RANGE

      same : (i : ℕ) → unless (p.interval_in_range i) RANGE (i + 4) ≡ check (4 + i)
      same i =
          let four : i + 4 ≡ suc (suc (suc (suc i))) = add-four i in
          let turned : 4 + i ≡ suc (suc (suc (suc i))) = omega arith in
          rw (four, turned)

  pub range_finds : (line : ℕ) → (range_of p expected ≡ fault RANGE line) ↔ FirstOutOfRange p expected line
  range_finds line = rw range_lines (line_when (line_in_range p expected) RANGE (p.n + 3) line)

module _ (p : Parts) where
  curve_lines : curves_of p ≡ first_of (line_fault (line_keeps p) CURVE) 4
  unfolding curves_in first_of
  curve_lines = refl

  pub curves_find : (line : ℕ) → (curves_of p ≡ fault CURVE line) ↔ FirstCurveBroken p line
  curves_find line = rw curve_lines (line_when (line_keeps p) CURVE 3 line)

  -- where it finds nothing, neither curve breaks a rule
  pub curves_keep : curves_of p ≡ clear → (curve_keeps p.da ≡ true) × (curve_keeps p.rt ≡ true)
  unfolding curves_in
  curves_keep e =
      let w = then_clear (unless (curve_keeps p.da) CURVE 2) (unless (curve_keeps p.rt) CURVE 3) e in
      (unless_clear (curve_keeps p.da) CURVE 2 w.0, unless_clear (curve_keeps p.rt) CURVE 3 w.1)

-- ---- ORDER and SECONDS

differ : (a b : ℤ) → (eq_z a b ≡ false) ↔ (a ≡ b → ⊥)
differ a b = (λ e q. false≢true (sym e ∙ true-eq_z a b q), false-eq_z a b)

module _ (p : Parts) (place : ℕ) where
  pub order_finds : (expected : Expected) → (order_of p expected ≡ fault ORDER place) ↔ ((place ≡ 1) × SaysAnotherHour p.hour expected)
  unfolding order_in
  order_finds Any = (λ e. absurd (never_clear (sym e)), λ w. absurd (let a = w.1.asked in impossible cc))
  order_finds (Says hour hours) =
      let broken = unless_when (eq_z p.hour hour) ORDER 1 place in (
        λ e. let w = broken.0 e in (w.1, record { hour = hour; hours = hours; asked = refl; other = (differ p.hour hour).0 w.0 }),
        λ w.
            let same : w.1.hour ≡ hour = let a = w.1.asked in cc in
            broken.1 ((differ p.hour hour).1 (λ q. w.1.other (q ∙ sym same)), w.0),
      )

  pub seconds_find : (seconds_of p ≡ fault SECONDS place) ↔ ((place ≡ 0) × (sum_to p.seconds p.n ≡ pos 3600 → ⊥))
  unfolding seconds_in
  seconds_find =
      let sum = sum_to p.seconds p.n in
      let broken = unless_when (eq_z sum (pos 3600)) SECONDS 0 place in (
        λ e. let w = broken.0 e in (w.1, (differ sum (pos 3600)).0 w.0),
        λ w. broken.1 ((differ sum (pos 3600)).1 w.1, w.0),
      )
