-- What every check of an hour but ROOM finds and the intervals come to, by the way that the work ends.
use Rattle.std.specs.Prelude.{Err, Ok}
use mathlib.Core.Path.{◌≡◌, refl, sym, ap, ◌∙◌}
use Prim.Native.Nat.{ℕ, ◌<◌, ◌≤◌}
use Rattle.exact.specs.Whole.{sum_to}
use Rattle.exact.proofs.Sums.{sum_same}
use Rattle.tariff.specs.declared.Check.{Check}
use Rattle.tariff.specs.declared.Grains.{Grains}
use Rattle.tariff.specs.declared.Expected.{Expected}
use Rattle.tariff.specs.Outcome.{Outcome, fault_at, first_stop, amount, sum_by}
use Rattle.tariff.specs.Reply.{Verdict, shown, clear, ◌then◌}
use Rattle.tariff.specs.Checks.{Parts, form_of, range_of, order_of, curves_of, seconds_of, fault_of}
use Rattle.tariff.proofs.Checks.{never_clear, then_clear, first_same}
use Rattle.tariff.proofs.Ranges.{form_says}
use Rattle.intervals.specs.declared.steps.Walked.{Walked}
use Rattle.intervals.specs.declared.Contributions.{Contributions}
use Rattle.intervals.specs.Walk.{grains_at, WalkedTo, refused_by, ContributionsBy}

-- without faults 1 to 5 the counts and the numbers are in their ranges
pub no_fault_says : (p : Parts) (expected : Expected) → fault_of p expected ≡ clear → (form_of p ≡ clear) × (range_of p expected ≡ clear) × (p.n ≤ 30)
no_fault_says b expected e =
    let later = order_of b expected then curves_of b then seconds_of b in
    let p = then_clear (form_of b) (range_of b expected then later) e in
    (p.0, (then_clear (range_of b expected) later p.1).0, (form_says b p.0).2)

-- where no check over the block refuses, and each task comes to what its interval does
pub contributions_alike : {block : Verdict} {tasks outcome : ℕ → Outcome} {n : ℕ} → block ≡ clear → ((i : ℕ) → i < n → tasks i ≡ outcome i)
    → (r : Contributions) → ContributionsBy clear tasks n r → ContributionsBy block outcome n r
unfolding first_stop sum_by
contributions_alike {block} {tasks} {outcome} {n} b same r w =
    record {
      found = w.found ∙ rw b (first_same (λ i. fault_at i (tasks i)) (λ i. fault_at i (outcome i)) n (λ i u. ap (fault_at i) (same i u)));
      long = w.long;
      few = w.few;
      written = λ q i u. w.written q i u ∙ ap amount (same i u);
      rest = w.rest;
      sum = λ q. w.sum q ∙ sum_same (λ i. amount (tasks i)) (λ i. amount (outcome i)) n (λ i u. ap amount (same i u));
      refused = w.refused;
    }

module _ {block : Verdict} {outcome : ℕ → Outcome} {n : ℕ} where
  refused : (r : Contributions) (check : Check) → r ≡ refused_by (Err check) → (block then first_stop outcome n) ≡ shown (Err check)
      → ContributionsBy block outcome n r
  refused r check f e =
      rw f
      record {
        found = sym e;
        long = refl;
        few = λ q. absurd (never_clear q);
        written = λ q. absurd (never_clear q);
        rest = λ q. absurd (never_clear q);
        sum = λ q. absurd (never_clear q);
        refused = λ other q. ap refused_by q;
      }

  pub refused_by_block : (r : Contributions) (check : Check) → r ≡ refused_by (Err check) → block ≡ shown (Err check) → ContributionsBy block outcome n r
  refused_by_block r check f b = refused r check f (rw b)

  module _ (b : block ≡ clear) where
    pub refused_by_walk : (r : Contributions) (check : Check) → r ≡ refused_by (Err check) → first_stop outcome n ≡ shown (Err check)
        → ContributionsBy block outcome n r
    refused_by_walk r check f w = refused r check f (rw (b, w))

    -- the walk found nothing: its parts, and their sum
    pub worked_out_lem : n ≤ 30 → (w : Walked) → WalkedTo outcome n w → w.found ≡ Ok tt → (sum : Grains) → sum.0 ≡ sum_to (grains_at w.parts) n
        → ContributionsBy block outcome n (record { found = Ok tt; parts = w.parts; sum = sum })
    unfolding sum_by
    worked_out_lem few w of f sum s =
        let clean : shown w.found ≡ clear = ap shown f in
        record {
          found = rw (b, ← of.first, f);
          long = of.long;
          few = λ q. few;
          written = λ q. of.written clean;
          rest = λ q. of.rest clean;
          sum = λ q. s ∙ sum_same (grains_at w.parts) (λ i. amount (outcome i)) n (of.written clean);
          refused = λ check q. absurd (never_clear (sym (ap shown q)));
        }
