-- FORM is given exactly when a line is not as printed, and at that line. And the checks of the first two lines, one by one.
use Rattle.text.specs.Text.{Next}
use Rattle.std.specs.Prelude.{None, Some}
use mathlib.Core.Path.{◌≡◌, refl, ap}
use mathlib.Core.Bool.{true, false, ◌&&◌}
use mathlib.Core.List.{List}
use mathlib.Core.Logic.{◌↔◌}
use Prim.Native.Nat.{ℕ, ◌+◌, ◌≤◌}
use native.Mathlib.Omega.{arith}
use borrow.Author.Tests.{le-leb}
use lib.IntN.{ℤ, pos}
use Rattle.exact.specs.Whole.{eq_z, sum_to}
use Rattle.exact.proofs.Apart.{impossible}
use Rattle.tariff.specs.declared.ImportHour.{ImportHour}
use Rattle.tariff.specs.Sheet.{is_hour, is_capacity, is_price}
use Rattle.tariff.specs.Reply.{FORM, RANGE, ORDER, SECONDS, Verdict, clear, fault, unless, ◌then◌, first_of}
use Rattle.tariff.specs.Import.{curtailed_in_range, curtailed, import_form, import_range, import_order, import_seconds, import_fault}
use Rattle.tariff.proofs.Checks.{unless_gives, Without, without_fault, without_unless, without_then, without_first}
use Rattle.keys.specs.Keys.{IMPORT_HOUR}
use Rattle.lines.specs.Line.{is_at, and_then, value_in}
use Rattle.lines.specs.Series.{Series, line_count, broken_line}
use Rattle.lines.proofs.Series.{series_few}
use Rattle.imports.specs.Import.{head_line, head_place, head_in_range, head_fault, import_hour_line, curtailed_line, curtailed_lines, ImportBlock, broken, read, with_curtailed, after_import_line1, import_block_at, block_verdict}

never_read : {line : ℕ} {h : ImportHour} → broken line ≡ read h → ⊥
never_read e = impossible cc

-- ---- a record that is read has no line too many

module _ (s : List ℕ) (h : ImportHour) where
  few : (v : ℕ → ℤ) (at : ℕ) (r : Series) → curtailed_lines s at ≡ r → with_curtailed v s at r ≡ read h → h.n ≤ 30
  few v at (broken_line line) e q = absurd (never_read q)
  few v at (line_count n) e q =
      let same : n ≡ h.n = ap count_in q in
      let u = series_few curtailed_line 2 30 s at n e in
      omega arith
    where
      count_in : ImportBlock → ℕ
      count_in (broken line) = 0
      count_in (read g) = g.n

  line1_few : (x : Next) → after_import_line1 x s 0 ≡ read h → h.n ≤ 30
  line1_few (Some at) q = few (value_in IMPORT_HOUR s 0) at (curtailed_lines s at) refl q
  line1_few None q = absurd (never_read q)

  read_form : import_block_at s 0 ≡ read h → import_form h ≡ clear
  unfolding import_form import_block_at
  read_form q = rw (le-leb h.n 30 (line1_few (import_hour_line s 0) q))

-- ---- no check after the first gives FORM

not_range : (hours : ℕ) (h : ImportHour) → Without FORM (import_range hours h)
unfolding import_range
not_range hours h =
    let first = is_hour hours h.hour && is_capacity h.den.0 && is_price h.dec.0 in
    let each : ℕ → Verdict = λ i. unless (curtailed_in_range (curtailed h i)) RANGE (i + 2) in
    without_then FORM (unless first RANGE 1) (first_of each h.n)
    (without_unless FORM first RANGE 1 (λ e. omega arith))
    (without_first FORM each h.n (λ i. without_unless FORM (curtailed_in_range (curtailed h i)) RANGE (i + 2) (λ e. omega arith)))

not_order : (h : ImportHour) (k : ℕ) → Without FORM (import_order h k)
unfolding import_order
not_order h k = without_unless FORM (eq_z h.hour (pos k)) ORDER 1 (λ e. omega arith)

not_seconds : (h : ImportHour) → Without FORM (import_seconds h)
unfolding import_seconds
not_seconds h = without_unless FORM (eq_z (sum_to (λ i. (curtailed h i).s.0) h.n) (pos 3600)) SECONDS 0 (λ e. omega arith)

not_form : (hours : ℕ) (h : ImportHour) (k : ℕ) → import_form h ≡ clear → Without FORM (import_fault hours h k)
not_form hours h k f =
    rw f
    (without_then FORM (import_range hours h) (import_order h k then import_seconds h) (not_range hours h)
    (without_then FORM (import_order h k) (import_seconds h) (not_order h k) (not_seconds h)))

-- ---- a block

module _ (hours : ℕ) (s : List ℕ) (k line : ℕ) where
  form_broken : (b : ImportBlock) → ((h : ImportHour) → b ≡ read h → import_form h ≡ clear) → block_verdict hours b k ≡ fault FORM line → b ≡ broken line
  form_broken (broken l) form e = cc
  form_broken (read h) form e = absurd (without_fault FORM (import_fault hours h k) line (not_form hours h k (form h refl)) e)

  pub block_form : (block_verdict hours (import_block_at s 0) k ≡ fault FORM line) ↔ (import_block_at s 0 ≡ broken line)
  block_form = (form_broken (import_block_at s 0) (λ h. read_form s h), λ e. ap (λ (b : ImportBlock). block_verdict hours b k) e)

-- ---- the first two lines: their three checks

module _ (s : List ℕ) where
  abbrev pub line1 : Verdict
  line1 = unless (is_at (head_line s)) FORM 1

  abbrev pub line2 : Verdict
  line2 = unless (is_at (head_place s)) FORM 2

  abbrev pub ranges : Verdict
  ranges = unless (head_in_range s) RANGE 1

  -- they know FORM and RANGE only
  pub head_order : (place : ℕ) → head_fault s ≡ fault ORDER place → ⊥
  unfolding head_fault
  head_order place =
      without_fault ORDER (line1 then line2 then ranges) place
      (without_then ORDER line1 (line2 then ranges) (without_unless ORDER (is_at (head_line s)) FORM 1 (λ e. omega arith))
      (without_then ORDER line2 ranges (without_unless ORDER (is_at (head_place s)) FORM 2 (λ e. omega arith))
      (without_unless ORDER (head_in_range s) RANGE 1 (λ e. omega arith))))

  -- each can give its own number and place alone
  pub from_line1 : {number place : ℕ} → line1 ≡ fault number place → (is_at (head_line s) ≡ false) × (number ≡ FORM) × (place ≡ 1)
  from_line1 = unless_gives (is_at (head_line s)) FORM _ 1 _

  pub from_line2 : {number place : ℕ} → line2 ≡ fault number place → (is_at (head_place s) ≡ false) × (number ≡ FORM) × (place ≡ 2)
  from_line2 = unless_gives (is_at (head_place s)) FORM _ 2 _

  pub from_ranges : {number place : ℕ} → ranges ≡ fault number place → (head_in_range s ≡ false) × (number ≡ RANGE) × (place ≡ 1)
  from_ranges = unless_gives (head_in_range s) RANGE _ 1 _

-- an empty line behind line 1 needs that line
pub second_first : (x : Next) (f : ℕ → Next) → is_at (and_then x f) ≡ true → is_at x ≡ true
second_first (Some at) f e = refl
second_first None f e = e
