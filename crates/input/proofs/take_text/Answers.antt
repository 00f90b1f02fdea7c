use mathlib.Core.Path.{refl, ap}
use native.Mathlib.Omega.{arith}
use borrow.Author.Rules.{rules}
use Rattle.intake.specs.declared.Taken.{Taken}
use Rattle.intake.proofs.Store.{kept_within, counts}
use Rattle.intake.proofs.Arrived.{none_yet, a_part_more, taken_in}
use Rattle.input.proofs.take_text.Goals as goal

pub loop-turns-init : goal.loop-turns-init
loop-turns-init c =
    let begun = rw c.heads_of.ensures at c.begin-taken.ensures in
    (refl, let e = ap (λ (t : Taken). t.kept.n) begun in omega arith, none_yet _ _ _ _ begun)

-- a read more: what is kept lies in the store, and some text leaves it
pub returns-then-taken : goal.returns-then-taken
returns-then-taken c =
    let l = c.loop-turns in
    let p = c.take_some-taken in
    let inside = kept_within l.store p.new.store l.taken.kept _ _ p.ensures.state (search rules) l.invariant.1 in
    record { within = counts _ _ inside; taken = taken_in _ _ _ _ _ (a_part_more _ _ _ _ _ l.invariant.2 _ _ p.ensures) }

pub pieces_in-requires : goal.pieces_in-requires
pieces_in-requires c =
    let l = c.loop-turns in
    let p = c.take_some-taken in
    counts _ _ (kept_within l.store p.new.store l.taken.kept _ _ p.ensures.state (search rules) l.invariant.1)

pub returns-then-goes_past : goal.returns-then-goes_past
returns-then-goes_past c =
    let l = c.loop-turns in
    let p = c.take_some-taken in
    let inside = kept_within l.store p.new.store l.taken.kept _ _ p.ensures.state (search rules) l.invariant.1 in
    record { within = counts _ _ inside; taken = taken_in _ _ _ _ _ (a_part_more _ _ _ _ _ l.invariant.2 _ _ p.ensures) }

pub loop-turns-preserved : goal.loop-turns-preserved
loop-turns-preserved c =
    let l = c.loop-turns in
    let p = c.take_some-taken in
    let inside = kept_within l.store p.new.store l.taken.kept _ _ p.ensures.state (search rules) l.invariant.1 in
    (search rules, inside, a_part_more _ _ _ _ _ l.invariant.2 _ _ p.ensures)

pub returns : goal.returns
returns c =
    let l = c.loop-turns in
    record { within = counts _ _ l.invariant.1; taken = taken_in _ _ _ _ _ l.invariant.2 }
