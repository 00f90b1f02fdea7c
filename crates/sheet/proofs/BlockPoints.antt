-- The theorems of request 7 for a block: when it is refused for its operating point, and that any cutting of its curves is settled alike.
use mathlib.Core.Path.{◌≡◌}
use mathlib.Core.Bool.{Bool}
use mathlib.Core.List.{List}
use mathlib.Core.Logic.{◌↔◌}
use Prim.Native.Nat.{ℕ, ◌+◌}
use lib.IntN.{ℤ}
use lib.ListN.{length}
use Rattle.tariff.specs.declared.Hour.{Hour}
use Rattle.tariff.specs.declared.Expected.{Expected}
use Rattle.tariff.specs.Reply.{refused, POINT}
use Rattle.tariff.specs.Demand.{FirstPointless, SomePointless, SamePrices, Lawful, WholeHour}
use Rattle.tariff.proofs.PointDemands.{point_exactly_when_nothing_to_find_it_on, refused_for_point_exactly_when_some_interval_has_none, any_cutting_settles_alike}
use Rattle.blocks.specs.Block.{block_of, read}
use Rattle.sheet.specs.Settle.{reply_to, row_to}
use Rattle.sheet.specs.Apart.{CurvesApart}
use Rattle.sheet.proofs.BlockDemands.{curves_apart_are_alike}

-- POINT is given exactly when no check from 1 to 5 refuses and an eligible interval has `eop=-` over an empty real-time curve: at the first such
-- interval, and where no DERATE and no REACH comes first.
pub block_point_exactly_when_nothing_to_find_it_on :
    (s : List ℕ) (h : Hour) (is_excluded : Bool) (expected : Expected) (room i : ℕ)
    → block_of s ≡ read h
    → (reply_to (block_of s) is_excluded expected room ≡ refused POINT (i + 1)) ↔ (WholeHour h expected × FirstPointless h is_excluded i)
block_point_exactly_when_nothing_to_find_it_on s h is_excluded expected room i x = rw x (point_exactly_when_nothing_to_find_it_on h is_excluded expected room i)

-- So a block is refused for its point exactly when no check from 1 to 5 refuses it, some eligible interval has `eop=-` over an empty real-time
-- curve, and no derate or reach refusal comes before that interval.
pub block_refused_for_point_exactly_when_some_interval_has_none :
    (s : List ℕ) (h : Hour) (is_excluded : Bool) (expected : Expected) (room : ℕ)
    → block_of s ≡ read h
    → ((place : ℕ) × (reply_to (block_of s) is_excluded expected room ≡ refused POINT place)) ↔ (WholeHour h expected × SomePointless h is_excluded)
block_refused_for_point_exactly_when_some_interval_has_none s h is_excluded expected room x =
    rw x (refused_for_point_exactly_when_some_interval_has_none h is_excluded expected room)

-- Blocks that differ in how their curves are cut into steps have one reply and one row.
pub any_cutting_of_a_block_settles_alike :
    (s t : List ℕ) (h g : Hour) (is_excluded : Bool) (expected : Expected) (row : List ℤ)
    → CurvesApart s t
    → block_of s ≡ read h
    → block_of t ≡ read g
    → Lawful h expected
    → Lawful g expected
    → SamePrices h.da g.da
    → SamePrices h.rt g.rt
    → (reply_to (block_of s) is_excluded expected (length row) ≡ reply_to (block_of t) is_excluded expected (length row)) × (row_to (block_of s) is_excluded expected row ≡ row_to (block_of t) is_excluded expected row)
any_cutting_of_a_block_settles_alike s t h g is_excluded expected row o x y f f' da rt =
    rw (x, y) (any_cutting_settles_alike h g is_excluded expected row (curves_apart_are_alike s t o h g x y) f f' da rt)
