-- Laws of an import's block: which intervals its sum reads, and how large its part of the day can be.
use mathlib.Core.Path.{◌≡◌, ◌∙◌, ap}
use mathlib.Core.Bool.{false}
use Prim.Native.Nat.{ℕ}
use native.Mathlib.Decide.{ℕ_discrete}
use native.Mathlib.Omega.{arith}
use lib.IntN.{ℤ, pos, ◌-ℤ◌}
use lib.Signed.{◌≤ℤ◌}
use Rattle.exact.specs.Whole.{eq_z, Within, sum_to}
use Rattle.exact.proofs.Parts.{arithℤ, apart, less_parts, max_parts}
use Rattle.exact.proofs.Range.{within_more, within_lit, within_zero, within_less, within_mul, within_max}
use Rattle.exact.proofs.Sums.{sum_same, sum_zeros, sum_within}
use Rattle.tariff.specs.declared.Curtailed.{Curtailed}
use Rattle.tariff.specs.declared.ImportHour.{ImportHour}
use Rattle.tariff.specs.Reply.{clear}
use Rattle.tariff.specs.Import.{curtailed, import_fault, counts, import_grains, import_sum, import_part}
use Rattle.tariff.proofs.Limits.{within_if}
use Rattle.tariff.proofs.ImportRanges.{CurtailedFits, FirstFits, import_form_says, import_range_says, import_clear_says}

-- ---- an interval that does not count gives nothing

uncounted : (cts : ℤ) (h : ImportHour) (v : Curtailed) → counts cts h v ≡ false → import_grains cts h v ≡ pos 0
unfolding import_grains
uncounted cts h v e = rw e

-- what an interval gives reads the schedule and the bid of line 1 alone
same_first : (cts : ℤ) (h g : ImportHour) (v : Curtailed) → h.den ≡ g.den → h.dec ≡ g.dec → import_grains cts h v ≡ import_grains cts g v
unfolding import_grains counts
same_first cts h g v d e = rw (d, e)

module _ (cts : ℤ) (h g : ImportHour) (i : ℕ) (den : h.den ≡ g.den) (dec : h.dec ≡ g.dec) (n : h.n ≡ g.n)
    (others : (j : ℕ) → (j ≡ i → ⊥) → curtailed h j ≡ curtailed g j)
    (not-h : counts cts h (curtailed h i) ≡ false) (not-g : counts cts g (curtailed g i) ≡ false) where
  each_same : (k : ℕ) → Dec (k ≡ i) → import_grains cts h (curtailed h k) ≡ import_grains cts g (curtailed g k)
  each_same k (yes e) = rw (e, uncounted cts h (curtailed h i) not-h, uncounted cts g (curtailed g i) not-g)
  each_same k (no u) = same_first cts h g (curtailed h k) den dec ∙ ap (import_grains cts g) (others k u)

  -- An interval that does not count may say anything: two hours that differ in at most one such interval have one sum.
  pub not_counting_changes_nothing : import_sum cts h ≡ import_sum cts g
  unfolding import_sum
  not_counting_changes_nothing = sum_same _ _ h.n (λ k u. each_same k (ℕ_discrete k i)) ∙ ap (sum_to (λ k. import_grains cts g (curtailed g k))) n

-- ---- nothing counts on a CTS import

cts_uncounted : (cts : ℤ) (h : ImportHour) (v : Curtailed) → eq_z cts (pos 0) ≡ false → counts cts h v ≡ false
unfolding counts
cts_uncounted cts h v e = rw e

-- No hour of an import at a CTS enabled bus gives anything.
pub cts_pays_nothing : (cts : ℤ) (h : ImportHour) → eq_z cts (pos 0) ≡ false → import_sum cts h ≡ pos 0
unfolding import_sum
cts_pays_nothing cts h e = sum_zeros _ h.n (λ k u. uncounted cts h (curtailed h k) (cts_uncounted cts h (curtailed h k) e))

-- ---- how large a part can be

-- what was cut off lies between 0 and the schedule, or what was added between 0 and the range's end
gap_within : {a b : ℤ} → pos 0 ≤ℤ a → pos 0 ≤ℤ b → Within 2000000 a → Within 2000000 b → Within 2000000 (a -ℤ b)
gap_within {a} {b} f g v w = omega (arithℤ, less_parts a b, apart (a -ℤ b))

-- 2,000,000 cents per MWh, 2,000,000 kW and 900 seconds at most
pub grains_within : (cts : ℤ) (hours : ℕ) (h : ImportHour) (v : Curtailed) → FirstFits hours h → CurtailedFits v → Within 3600000000000000 (import_grains cts h v)
unfolding import_grains
grains_within cts hours h v f w =
    let cut = gap_within f.den_least w.rten_least f.den w.rten in
    within_if (counts cts h v) (within_lit tt (within_mul (within_mul (within_less w.lbmp (within_max f.dec (omega arith))) cut) w.s)) (within_zero 3600000000000000)

-- A part is not below 0, and 30 intervals of 900 seconds, 2,000,000 kW and 2,000,000 cents per MWh bound it.
pub part_least : (cts : ℤ) (h : ImportHour) → pos 0 ≤ℤ import_part cts h
unfolding import_part
part_least cts h = omega (arithℤ, max_parts (import_sum cts h) (pos 0))

pub part_within : (cts : ℤ) (hours : ℕ) (h : ImportHour) (k : ℕ) → import_fault hours h k ≡ clear → Within 108000000000000000 (import_part cts h)
unfolding import_part import_sum
part_within cts hours h k e =
    let says = import_clear_says hours h k e in
    let each = import_range_says hours h says.1 in
    let all = sum_within 3600000000000000 (λ i. import_grains cts h (curtailed h i)) h.n (λ i u. grains_within cts hours h (curtailed h i) each.0 (each.1 i u)) in
    within_max (within_more (omega (arith, import_form_says h says.0)) all) (within_zero 108000000000000000)
