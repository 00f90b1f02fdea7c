-- The promises of request 6, "nearest cent", of what an hour, a controllable line's hour and an import are paid, on one page. Demand 2 says that cents are `cents_of` of
-- their sum; here is what these cents are, said by how far off they are from it (tariff/specs/Nearest.antt).
use mathlib.Core.Path.{◌≡◌, refl, sym, ◌∙◌, ap, subst}
use mathlib.Core.Bool.{Bool}
use mathlib.Core.List.{List}
use mathlib.Core.Logic.{◌↔◌}
use Prim.Native.Nat.{ℕ, ◌≤◌}
use lib.IntN.{ℤ, pos}
use lib.Signed.{◌≤ℤ◌}
use Rattle.exact.specs.Whole.{max_z}
use Rattle.tariff.specs.declared.Expected.{Expected}
use Rattle.tariff.specs.Units.{cents_of}
use Rattle.tariff.specs.Nearest.{off_by, Nearest}
use Rattle.tariff.specs.Reply.{paid}
use Rattle.tariff.specs.Import as import
use Rattle.tariff.proofs.Nearest.{cents_are_the_nearest, none_is_nearer, owed_least}
use Rattle.blocks.specs.Block.{block_of}
use Rattle.sheet.specs.Settle.{reply_to}
use Rattle.iclblocks.specs.IclBlock.{icl_block_of}
use Rattle.iclsheet.specs.IclSettle.{icl_reply_to}
use Rattle.ledger.specs.declared.hours.Kind.TheVariants.{Generator, Icl}
use Rattle.ledger.specs.Day.{front_of, day_reply}
use Rattle.ledger.specs.IclDay.{icl_front_of}
use Rattle.ledger.proofs.Walks.{all_rounded, hour_rounded}
use Rattle.imports.specs.Import.{import_reply}
use Rattle.imports.proofs.ImportDemands.{never_negative}
use Rattle.demands.proofs.Demands.{an_hour_pays_its_contributions, an_import_pays_its_hours}
use Rattle.demands.proofs.LineDemands.{a_line_hour_pays_its_contributions}

-- The cents of a sum are the nearest to the greater of it and 0: off from that by half a cent at most, and if by exactly half a cent, not below it.
-- No others are.
pub the_cents_are_the_nearest : (sum cents : ℤ) → (cents ≡ cents_of sum) ↔ Nearest (max_z sum (pos 0)) cents
the_cents_are_the_nearest = cents_are_the_nearest

-- No other cents are nearer, and any that are as near are not more: a half goes up.
pub no_cents_are_nearer :
    (sum cents other : ℤ)
    → Nearest sum cents
    → (off_by sum cents ≤ off_by sum other) × (off_by sum other ≡ off_by sum cents → other ≤ℤ cents)
no_cents_are_nearer = none_is_nearer

-- ---- what is paid

nearest_of : {sum grains cents : ℤ} → sum ≡ grains → cents ≡ cents_of grains → Nearest (max_z sum (pos 0)) cents
nearest_of {sum} {grains} {cents} same rounded = (cents_are_the_nearest sum cents).0 (rounded ∙ ap cents_of (sym same))

-- An hour is paid the nearest cent to its sum, or to 0 where that is below 0,
pub an_hour_pays_the_nearest_cent :
    (s : List ℕ) (is_excluded : Bool) (expected : Expected) (room : ℕ) (sum cents : ℤ)
    → reply_to (block_of s) is_excluded expected room ≡ paid sum cents
    → Nearest (max_z sum (pos 0)) cents
an_hour_pays_the_nearest_cent s is_excluded expected room sum cents e =
    let w = (an_hour_pays_its_contributions s is_excluded expected room sum cents).0 e in nearest_of w.3 w.4

-- also as an hour of its day;
pub an_hour_of_a_day_pays_the_nearest_cent :
    (s : List ℕ) (k : ℕ) (sum cents : ℤ) → day_reply (front_of s) k ≡ paid sum cents → Nearest (max_z sum (pos 0)) cents
an_hour_of_a_day_pays_the_nearest_cent s k sum cents e = nearest_of refl ((hour_rounded (front_of s) (all_rounded Generator) k).cents sum cents e)

-- so is an hour of a controllable line,
pub a_line_hour_pays_the_nearest_cent :
    (s : List ℕ) (is_excluded : Bool) (expected : Expected) (room : ℕ) (sum cents : ℤ)
    → icl_reply_to (icl_block_of s) is_excluded expected room ≡ paid sum cents
    → Nearest (max_z sum (pos 0)) cents
a_line_hour_pays_the_nearest_cent s is_excluded expected room sum cents e =
    let w = (a_line_hour_pays_its_contributions s is_excluded expected room sum cents).0 e in nearest_of w.3 w.4

-- also as an hour of its day;
pub an_hour_of_a_line_day_pays_the_nearest_cent :
    (s : List ℕ) (k : ℕ) (sum cents : ℤ) → day_reply (icl_front_of s) k ≡ paid sum cents → Nearest (max_z sum (pos 0)) cents
an_hour_of_a_line_day_pays_the_nearest_cent s k sum cents e = nearest_of refl ((hour_rounded (icl_front_of s) (all_rounded Icl) k).cents sum cents e)

-- and so is an import, whose sum is never below 0.
pub an_import_pays_the_nearest_cent : (s : List ℕ) (name g c : ℤ) → import_reply s ≡ import.paid name g c → Nearest g c
an_import_pays_the_nearest_cent s name g c e =
    subst (λ (z : ℤ). Nearest z c) (owed_least g (never_negative s name g c e).0) (nearest_of refl ((an_import_pays_its_hours s name g c).0 e).cents)
