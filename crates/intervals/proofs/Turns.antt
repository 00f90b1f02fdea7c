-- A turn of the walk: what a task asks, and how the walk goes on or ends by the cost of that.
use Rattle.std.specs.Prelude.{Err, Ok}
use mathlib.Core.Path.{◌≡◌, refl, sym, ap, ◌∙◌}
use mathlib.Core.Bool.{true, false}
use mathlib.Core.List.{List}
use Prim.Native.Nat.{ℕ, ◌+◌, ◌<◌, ◌≤◌}
use lib.IntN.{ℤ}
use lib.ListN.{set}
use lib.Signed.{lt_z}
use Rattle.exact.proofs.Range.{within_min, within_max}
use Rattle.tariff.specs.declared.Check.{Check}
use Rattle.tariff.specs.declared.Check.TheVariants.{Reach}
use Rattle.tariff.specs.declared.Curve.{Curve}
use Rattle.tariff.specs.declared.Grains.{Grains}
use Rattle.tariff.specs.Curve.{none}
use Rattle.tariff.specs.Contributions.{curve_in}
use Rattle.tariff.specs.Outcome.{Outcome, gives}
use Rattle.tariff.proofs.Ranges.{curve_fits}
use Rattle.tasks.specs.declared.Task.{Task}
use Rattle.intervals.specs.Task.{task_at, low_of, high_of, cost_up, finished, of_cost, outcomes_of, Fitting, Walkable}
use Rattle.intervals.specs.Walk.{WalkedTo}
use Rattle.intervals.proofs.Scans.{Stretch, Priced, cost_before}
use Rattle.intervals.proofs.Tasks.{finished_within}
use Rattle.intervals.proofs.Walks.{Walking, walked, walk_stops, walk_goes_on}

-- interval i asks task t: to price the stretch from low up to high on curve c
pub record Asks (outcome : ℕ → Outcome) (n i : ℕ) (t : Task) (c : Curve) (low high : ℤ) : Type 0 where
  pub few : n ≤ 30
  pub more : i < n
  pub fits : Fitting t
  pub by_cost : outcome i ≡ of_cost t (cost_up c low high t.s.0)
  pub stretch : lt_z low high ≡ true → lt_z low c.start.0 ≡ false → Stretch c low high t.s.0

module _ {tasks : List Task} {n : ℕ} {da rt : Curve} (ok : Walkable tasks n da rt) {i : ℕ} (more : i < n) where
  abbrev t : Task
  t = task_at tasks i

  pub asks : t.stop ≡ Ok tt → {c : Curve} {low high : ℤ} → c ≡ curve_in t.lower da rt → low ≡ low_of t → high ≡ high_of t
      → Asks (outcomes_of da rt tasks) n i t c low high
  asks free ec el eh =
      let f = ok.fits i more in
      rw (ec, el, eh)
      record {
        few = ok.few;
        more = more;
        fits = f;
        by_cost = rw free;
        stretch =
            λ up started.
            record {
              few = ok.steps t.lower;
              fits = curve_fits (curve_in t.lower da rt) (ok.in_range t.lower);
              lowest = within_min f.from f.limit;
              highest = within_max f.from f.limit;
              seconds = f.s;
              up = up;
              started = started;
            };
      }

  -- a check stops the task
  pub turn_stops : {parts : List Grains} → Walking (outcomes_of da rt tasks) n parts i → {check : Check} → t.stop ≡ Err check
      → WalkedTo (outcomes_of da rt tasks) n (walked (Err check) parts)
  turn_stops w {check} e = walk_stops w more check (rw e) (ok.placed i more check e)

module _ {outcome : ℕ → Outcome} {n i : ℕ} {t : Task} {c : Curve} {low high : ℤ} (a : Asks outcome n i t c low high)
    {parts : List Grains} (w : Walking outcome n parts i) where
  pub turn_unreached : cost_up c low high t.s.0 ≡ none → WalkedTo outcome n (walked (Err (Reach (i + 1))) parts)
  turn_unreached e = walk_stops w a.more (Reach (i + 1)) (a.by_cost ∙ ap (of_cost t) e) refl

  pub turn_before : lt_z low high ≡ true → lt_z low c.start.0 ≡ true → WalkedTo outcome n (walked (Err (Reach (i + 1))) parts)
  turn_before up late = turn_unreached (cost_before c low high t.s.0 up late)

  pub turn_goes_on : {cost : ℤ} → Priced c low high t.s.0 cost → (g : Grains) → g.0 ≡ finished t cost → Walking outcome n (set parts i g) (i + 1)
  turn_goes_on {cost} p g e =
      walk_goes_on w a.more g a.few
      (a.by_cost ∙ ap (of_cost t) p.amount ∙ ap gives (sym e))
      (rw e (finished_within t cost a.fits p.size))
