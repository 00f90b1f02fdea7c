-- The walk over the intervals, whatever they come to: what holds at interval i, one interval more, and each way that it ends.
use Rattle.std.specs.Prelude.{Err, Ok}
use mathlib.Core.Path.{◌≡◌, refl, sym, ap, ◌∙◌}
use mathlib.Core.List.{List}
use Prim.Native.Nat.{ℕ, zero, suc, ◌+◌, ◌<◌, ◌≤◌}
use native.Mathlib.Numerals.{add-one}
use native.Mathlib.Decide.{ℕ_discrete}
use native.Mathlib.Omega.{arith}
use lib.IntN.{pos}
use lib.ListN.{length, get_or, set, replicate, length-set}
use lib.Seq.{get_or-set_same, get_or-set_other}
use Rattle.exact.specs.Whole.{Within}
use Rattle.exact.proofs.Range.{within_zero}
use Rattle.tariff.specs.declared.Grains.{Grains}
use Rattle.tariff.specs.declared.Check.{Check}
use Rattle.tariff.specs.Units.{grains}
use Rattle.tariff.specs.Reply.{number_of, place_of, Verdict, clear, first_of, Found}
use Rattle.tariff.specs.Outcome.{Outcome, gives, stops, fault_at, first_stop, amount}
use Rattle.tariff.proofs.Checks.{never_clear, first_clear, fault_first}
use Rattle.intervals.specs.declared.steps.Walked.{Walked}
use Rattle.intervals.specs.Walk.{grains_at, Bounded, WalkedTo}

-- the intervals before i are clear, their contributions stand in front, and 0 behind them
pub record Walking (outcome : ℕ → Outcome) (n : ℕ) (parts : List Grains) (i : ℕ) : Type 0 where
  pub within : i ≤ n
  pub long : length parts ≡ 30
  pub bounded : Bounded parts
  pub cleared : first_stop outcome i ≡ clear
  pub written : (k : ℕ) → k < i → grains_at parts k ≡ amount (outcome k)
  pub rest : (k : ℕ) → i ≤ k → grains_at parts k ≡ pos 0

-- an entry of a list in which entry i is set: it is the one that was set, or as before
pub by_entry : {A : Type 0} (l : List A) (i : ℕ) (x other : A) → i < length l → (P : ℕ → A → Type 0) → P i x
    → ((k : ℕ) → (k ≡ i → ⊥) → P k (get_or l k other)) → (k : ℕ) → P k (get_or (set l i x) k other)
by_entry l i x other u P here behind k = go (ℕ_discrete k i)
  where
    go : Dec (k ≡ i) → P k (get_or (set l i x) k other)
    go (yes e) = rw (e, get_or-set_same l i x other u) here
    go (no e) = rw (get_or-set_other l i k x other e) (behind k e)

pub repeated : {A : Type 0} (n i : ℕ) (x : A) → get_or (replicate n x) i x ≡ x
repeated zero i x = refl
repeated (suc n) zero x = refl
repeated (suc n) (suc i) x = repeated n i x

zeros_at : (n i : ℕ) → grains_at (replicate n (grains (pos 0))) i ≡ pos 0
zeros_at n i = ap (λ (x : Grains). x.0) (repeated n i (grains (pos 0)))

pub zeros_bounded : Bounded (replicate 30 (grains (pos 0)))
zeros_bounded = record { each = λ i. rw (zeros_at 30 i) (within_zero 100000000000000000) }

pub walk_begins : (outcome : ℕ → Outcome) (n : ℕ) → Walking outcome n (replicate 30 (grains (pos 0))) 0
unfolding first_stop first_of
walk_begins outcome n =
    record {
      within = omega arith;
      long = refl;
      bounded = zeros_bounded;
      cleared = refl;
      written = λ k u. absurd (omega arith);
      rest = λ k u. zeros_at 30 k;
    }

abbrev pub walked : (found : Found) → List Grains → Walked
walked found parts = record { found = found; parts = parts }

module _ {outcome : ℕ → Outcome} {n : ℕ} {parts : List Grains} {i : ℕ} (w : Walking outcome n parts i) where
  pub walk_ends : n ≤ i → WalkedTo outcome n (walked (Ok tt) parts)
  walk_ends u =
      let same : i ≡ n = let v = w.within in omega arith in
      record {
        first = sym (ap (first_stop outcome) (sym same) ∙ w.cleared);
        long = w.long;
        bounded = w.bounded;
        written = λ _ k v. w.written k (omega arith);
        rest = λ _ k v. w.rest k (omega arith);
      }

  module _ (more : i < n) where
    pub walk_stops : (check : Check) → outcome i ≡ stops (number_of check) → place_of check ≡ i + 1 → WalkedTo outcome n (walked (Err check) parts)
    unfolding first_stop
    walk_stops check e p =
        let each : ℕ → Verdict = λ k. fault_at k (outcome k) in
        record {
          first = sym (fault_first each n _ _ (record { at = i; below = more; before = first_clear each i w.cleared; gives = rw (e, p) }));
          long = w.long;
          bounded = w.bounded;
          written = λ q. absurd (never_clear q);
          rest = λ q. absurd (never_clear q);
        }

    module _ (g : Grains) (few : n ≤ 30) where
      entry : (P : ℕ → Grains → Type 0) → P i g → ((k : ℕ) → (k ≡ i → ⊥) → P k (get_or parts k (grains (pos 0)))) → (k : ℕ) → P k (get_or (set parts i g) k (grains (pos 0)))
      entry = by_entry parts i g (grains (pos 0)) (let l = w.long in omega arith)

      pub walk_goes_on : outcome i ≡ gives g.0 → Within 100000000000000000 g.0 → Walking outcome n (set parts i g) (i + 1)
      unfolding first_stop first_of
      walk_goes_on e b =
          record {
            within = omega arith;
            long = length-set parts i g ∙ w.long;
            bounded = record { each = entry (λ k x. Within 100000000000000000 x.0) b (λ k _. w.bounded.each k) };
            cleared = rw (add-one, w.cleared, e);
            written = entry (λ k x. k < i + 1 → x.0 ≡ amount (outcome k)) (λ _. sym (ap amount e)) (λ k u v. w.written k (omega arith));
            rest = entry (λ k x. i + 1 ≤ k → x.0 ≡ pos 0) (λ v. absurd (omega arith)) (λ k _ v. w.rest k (omega arith));
          }
