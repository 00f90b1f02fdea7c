-- `faults::form_fault` meets its contract: the first count that is too large is told.
use borrow.Author.Tests.{le-leb, lt-leb}
use Rattle.tariff.specs.Checks.{form_in}
use Rattle.checks.proofs.faults.form_fault.Goals as goal

pub returns-then-da-gt12 : goal.returns-then-da-gt12
unfolding form_in
returns-then-da-gt12 c = let a = c.args in rw (lt-leb a.da.n 12 c.if-da-gt12.true)

pub returns-then-rt-gt12 : goal.returns-then-rt-gt12
unfolding form_in
returns-then-rt-gt12 c =
    let a = c.args in
    rw (le-leb a.da.n 12 c.if-da-gt12.false, lt-leb a.rt.n 12 c.if-rt-gt12.true)

pub returns-then-n-gt30 : goal.returns-then-n-gt30
unfolding form_in
returns-then-n-gt30 c =
    let a = c.args in
    rw (le-leb a.da.n 12 c.if-da-gt12.false, le-leb a.rt.n 12 c.if-rt-gt12.false, lt-leb a.n 30 c.if-n-gt30.true)

pub returns : goal.returns
unfolding form_in
returns c =
    let a = c.args in
    rw (le-leb a.da.n 12 c.if-da-gt12.false, le-leb a.rt.n 12 c.if-rt-gt12.false, le-leb a.n 30 c.if-n-gt30.false)
