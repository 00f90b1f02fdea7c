-- `heads::judge` meets its contract: each header in the order read, then the units, the day before first.
use Rattle.std.specs.Prelude.{Ok}
use mathlib.Core.Path.{◌≡◌, refl, sym, ap, ◌∙◌}
use mathlib.Core.Bool.{Bool, not, ◌&&◌}
use mathlib.Core.List.{List}
use Prim.Native.Nat.{ℕ}
use Rattle.exact.specs.Whole.{eq_z}
use Rattle.tariff.specs.Reply.{RANGE, clear, unless, shown}
use Rattle.header.specs.Header.{header_fault}
use Rattle.ledger.specs.declared.heads.Head.{Head}
use Rattle.ledger.specs.Headers.{neighbour_fault, unit_fault}
use Rattle.ledger.specs.Walk.{OwnRead, NeighbourRead}
use Rattle.ledger.proofs.ThreeHeads.{unit_judged, judged_as, before_refuses, own_refuses, after_refuses, unit_before_refuses, unit_after_refuses, none_refuses}
use Rattle.ledger.proofs.heads.judge.Goals as goal

-- what a header that was looked at found
module _ (b o a : List ℕ) (before own after : Head) (rb : NeighbourRead b before) (ro : OwnRead o own) (ra : NeighbourRead a after) where
  first_clear : before.found ≡ Ok tt → neighbour_fault b ≡ clear
  first_clear e = sym rb.fault ∙ ap shown e

  second-clear : own.found ≡ Ok tt → header_fault o ≡ clear
  second-clear e = sym ro.fault ∙ ap shown e

  third-clear : after.found ≡ Ok tt → neighbour_fault a ≡ clear
  third-clear e = sym ra.fault ∙ ap shown e

  -- whether the unit is another, by the code's answer
  before-unit : before.found ≡ Ok tt → own.found ≡ Ok tt → (other : Bool) → other ≡ (not before.lacking && not (eq_z before.unit own.unit))
      → unit_fault b o ≡ unless (not other) RANGE before.line
  before-unit e f other says = unit_judged b o before own rb ro (first_clear e) (second-clear f) other says

  after-unit : own.found ≡ Ok tt → after.found ≡ Ok tt → (other : Bool) → other ≡ (not after.lacking && not (eq_z after.unit own.unit))
      → unit_fault a o ≡ unless (not other) RANGE after.line
  after-unit f g other says = unit_judged a o after own ra ro (third-clear g) (second-clear f) other says

pub returns-in-Err : goal.returns-in-Err
returns-in-Err c b o a rb ro ra =
    let found = ap shown c.in-Err.is in
    judged_as b o a _ (before_refuses b o a (sym rb.fault ∙ found)) found refl

pub returns-in-Err-found : goal.returns-in-Err-found
returns-in-Err-found c b o a rb ro ra =
    let found = ap shown c.in-Err-found.is in
    judged_as b o a _ (own_refuses b o a (first_clear b o a _ _ _ rb ro ra c.in_default.is) (sym ro.fault ∙ found)) found refl

pub returns-in-Err-found-2 : goal.returns-in-Err-found-2
returns-in-Err-found-2 c b o a rb ro ra =
    let found = ap shown c.in-Err-found-2.is in
    judged_as b o a _
    (after_refuses b o a (first_clear b o a _ _ _ rb ro ra c.in_default.is) (second-clear b o a _ _ _ rb ro ra c.in_default-found.is) (sym ra.fault ∙ found))
    found refl

-- the three are read
pub returns-then-is_other : goal.returns-then-is_other
returns-then-is_other c b o a rb ro ra =
    let e = c.in_default.is in
    let f = c.in_default-found.is in
    let g = c.in_default-found-2.is in
    let before = before-unit b o a _ _ _ rb ro ra e f _ c.is_other.ensures in
    judged_as b o a _
    (unit_before_refuses b o a (first_clear b o a _ _ _ rb ro ra e) (second-clear b o a _ _ _ rb ro ra f) (third-clear b o a _ _ _ rb ro ra g)
    (before ∙ rw c.if-is_other.true))
    refl refl

pub returns-then-is_other-2 : goal.returns-then-is_other-2
returns-then-is_other-2 c b o a rb ro ra =
    let e = c.in_default.is in
    let f = c.in_default-found.is in
    let g = c.in_default-found-2.is in
    let before = before-unit b o a _ _ _ rb ro ra e f _ c.is_other.ensures in
    let after = after-unit b o a _ _ _ rb ro ra f g _ c.is_other-2.ensures in
    judged_as b o a _
    (unit_after_refuses b o a (first_clear b o a _ _ _ rb ro ra e) (second-clear b o a _ _ _ rb ro ra f) (third-clear b o a _ _ _ rb ro ra g)
    (before ∙ rw c.if-is_other.false) (after ∙ rw c.if-is_other-2.true))
    refl refl

pub returns : goal.returns
returns c b o a rb ro ra =
    let e = c.in_default.is in
    let f = c.in_default-found.is in
    let g = c.in_default-found-2.is in
    let before = before-unit b o a _ _ _ rb ro ra e f _ c.is_other.ensures in
    let after = after-unit b o a _ _ _ rb ro ra f g _ c.is_other-2.ensures in
    judged_as b o a _
    (none_refuses b o a (first_clear b o a _ _ _ rb ro ra e) (second-clear b o a _ _ _ rb ro ra f) (third-clear b o a _ _ _ rb ro ra g)
    (before ∙ rw c.if-is_other.false) (after ∙ rw c.if-is_other-2.false))
    refl refl
