-- The theorems of request 7 for a day: when an hour of it is refused for its operating point, and that any cutting of its curves is settled alike.
use mathlib.Core.Path.{◌≡◌, sym, ◌∙◌}
use mathlib.Core.Logic.{◌↔◌}
use Prim.Native.Nat.{ℕ, ◌+◌, ◌<◌}
use native.Mathlib.Omega.{arith}
use lib.IntN.{pos}
use Rattle.tariff.specs.declared.Hour.{Hour}
use Rattle.tariff.specs.declared.Expected.TheVariants.{Says}
use Rattle.tariff.specs.Reply.{refused, REACH, POINT, clear}
use Rattle.tariff.specs.Demand.{PointRefused, FirstPointless, SomePointless, WholeHour}
use Rattle.tariff.proofs.PointDemands.{a_point_refusal_bars_reach}
use Rattle.lines.specs.Pieces.{piece}
use Rattle.blocks.specs.Block.{block_of, read}
use Rattle.sheet.specs.Apart.{CurvesApart}
use Rattle.sheet.proofs.BlockPoints.{block_point_exactly_when_nothing_to_find_it_on, block_refused_for_point_exactly_when_some_interval_has_none}
use Rattle.ledger.specs.Day.{generator_answer, Front, day_reply}
use Rattle.ledger.specs.Demand.{SettledAlike, Recut, DaysApart, BothRead}
use Rattle.ledger.proofs.HourOfDay.{read_reply}
use Rattle.ledger.proofs.SheetFront.{generator_decides}
use Rattle.ledger.proofs.BlocksApart.{blocks_recut}
use Rattle.ledger.proofs.TwoDays.{hours_settled}
use Rattle.ledger.proofs.DayDemands.{an_hour_of_a_day_is_its_blocks}

module _ (f : Front) (kind : f.answer ≡ generator_answer) (readable : f.fault ≡ clear) (k : ℕ) (h : Hour) (x : block_of (piece k f.body) ≡ read h) where
  -- POINT is given exactly when no check from 1 to 5 refuses the hour and an eligible interval of it has `eop=-` over an empty real-time curve: at
  -- the first such interval, and where no DERATE and no REACH comes first.
  pub point_of_an_hour_exactly_when_nothing_to_find_it_on :
      (i : ℕ) → (day_reply f k ≡ refused POINT (i + 1)) ↔ (WholeHour h (Says (pos k) f.hours) × FirstPointless h (f.is_excluded k) i)
  point_of_an_hour_exactly_when_nothing_to_find_it_on i =
      rw (an_hour_of_a_day_is_its_blocks f kind readable k 30 (omega arith))
      (block_point_exactly_when_nothing_to_find_it_on (piece k f.body) h (f.is_excluded k) (Says (pos k) f.hours) 30 i x)

  -- So it is refused for its point exactly when no check from 1 to 5 refuses it, some eligible interval has `eop=-` over an empty real-time curve,
  -- and no derate or reach refusal comes before that interval.
  pub an_hour_is_refused_for_point_exactly_when_some_interval_has_none :
      ((place : ℕ) × (day_reply f k ≡ refused POINT place)) ↔ (WholeHour h (Says (pos k) f.hours) × SomePointless h (f.is_excluded k))
  an_hour_is_refused_for_point_exactly_when_some_interval_has_none =
      rw (an_hour_of_a_day_is_its_blocks f kind readable k 30 (omega arith))
      (block_refused_for_point_exactly_when_some_interval_has_none (piece k f.body) h (f.is_excluded k) (Says (pos k) f.hours) 30 x)

  -- A POINT interval bars REACH from there on.
  pub an_interval_without_its_point_bars_reach_in_a_day : (i j : ℕ) → PointRefused h (f.is_excluded k) i → day_reply f k ≡ refused REACH (j + 1) → j < i
  an_interval_without_its_point_bars_reach_in_a_day i j p e =
      a_point_refusal_bars_reach h (f.is_excluded k) (Says (pos k) f.hours) 30 i j p (sym (read_reply f kind readable k h x) ∙ e)

-- Days whose hours are the same, or differ in how their curves are cut into steps, have the same answers and the same total.
pub any_cutting_of_a_day_settles_alike :
    (f g : Front)
    → DaysApart f g
    → BothRead f g (λ k h j. Recut h j (Says (pos k) f.hours))
    → SettledAlike f g
any_cutting_of_a_day_settles_alike f g d cut =
    hours_settled generator_answer generator_decides CurvesApart f g d (λ k u. blocks_recut _ _ _ _ (d.blocks k u) (cut k u))
