-- An interval that does not count changes nothing: not the verdict on its block, and not its part of the day.
use mathlib.Core.Path.{◌≡◌, ap}
use mathlib.Core.Bool.{Bool}
use Prim.Native.Nat.{ℕ, ◌+◌}
use native.Mathlib.Decide.{ℕ_discrete}
use lib.IntN.{ℤ}
use Rattle.exact.proofs.Sums.{sum_same}
use Rattle.tariff.specs.declared.ImportHour.{ImportHour}
use Rattle.tariff.specs.declared.Seconds.{Seconds}
use Rattle.tariff.specs.Reply.{RANGE, unless}
use Rattle.tariff.specs.Import.{curtailed_in_range, curtailed, import_form, import_range, import_order, import_seconds, import_fault, import_part}
use Rattle.tariff.proofs.Checks.{first_same}
use Rattle.tariff.proofs.ImportGrains.{not_counting_changes_nothing}
use Rattle.imports.specs.Import.{ImportBlock, block_verdict, block_part}
use Rattle.imports.specs.Demand.{UncountedApart, ImportBlocksApart, same, apart}

module _ (cts : ℤ) (h g : ImportHour) (o : UncountedApart cts h g) where
  range_at : (i : ℕ) → Dec (i ≡ o.at) → curtailed_in_range (curtailed h i) ≡ curtailed_in_range (curtailed g i)
  range_at i (yes e) = rw e o.range
  range_at i (no u) = ap curtailed_in_range (o.others i u)

  seconds_at : (i : ℕ) → Dec (i ≡ o.at) → (curtailed h i).s.0 ≡ (curtailed g i).s.0
  seconds_at i (yes e) = rw e (ap (λ (s : Seconds). s.0) o.seconds)
  seconds_at i (no u) = rw (o.others i u)

  -- ---- the checks
  form_same : import_form h ≡ import_form g
  unfolding import_form
  form_same = rw o.n

  range_same : (hours : ℕ) → import_range hours h ≡ import_range hours g
  unfolding import_range
  range_same hours =
      let each = first_same (λ i. unless (curtailed_in_range (curtailed h i)) RANGE (i + 2)) (λ i. unless (curtailed_in_range (curtailed g i)) RANGE (i + 2)) h.n
      (λ i u. ap (λ (b : Bool). unless b RANGE (i + 2)) (range_at i (ℕ_discrete i o.at))) in
      rw (o.hour, o.den, o.dec, each, o.n)

  order_same : (k : ℕ) → import_order h k ≡ import_order g k
  unfolding import_order
  order_same k = rw o.hour

  seconds_same : import_seconds h ≡ import_seconds g
  unfolding import_seconds
  seconds_same =
      let sums = sum_same (λ i. (curtailed h i).s.0) (λ i. (curtailed g i).s.0) h.n (λ i u. seconds_at i (ℕ_discrete i o.at)) in
      rw (sums, o.n)

  fault_same : (hours k : ℕ) → import_fault hours h k ≡ import_fault hours g k
  fault_same hours k = rw (form_same, range_same hours, order_same k, seconds_same)

  part_same : import_part cts h ≡ import_part cts g
  unfolding import_part
  part_same = rw (not_counting_changes_nothing cts h g o.at o.den o.dec o.n o.others o.not_one o.not_other)

-- ---- blocks

pub blocks_alike : (cts : ℤ) (hours : ℕ) (b c : ImportBlock) (k : ℕ) → ImportBlocksApart cts b c
    → (block_verdict hours b k ≡ block_verdict hours c k) × (block_part cts b ≡ block_part cts c)
blocks_alike cts hours b c k (same e) = (rw e, rw e)
blocks_alike cts hours b c k (apart h g p q o) = (rw (p, q) (fault_same cts h g o hours k), rw (p, q) (part_same cts h g o))
