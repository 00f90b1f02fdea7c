-- `settle_behind` meets its contract: a refused front refuses every hour, and behind a front that is read the blocks are settled.
use mathlib.Core.Path.{◌≡◌, sym, ap, ◌∙◌}
use Rattle.tariff.specs.declared.Check.{Check}
use Rattle.tariff.specs.Reply.{clear, fault, number_of, place_of, shown}
use Rattle.tariff.specs.Total.{told_total, told_all}
use Rattle.ledger.specs.declared.Day.{Day}
use Rattle.ledger.proofs.Days.{all_refused, total_withheld, replies_are, total_is}
use Rattle.ledger.proofs.settle_behind.Goals as goal

pub returns-in-Err : goal.returns-in-Err
returns-in-Err c f kind front =
    let check : Check = c.in-Err.check in
    let same = c.refused_day.ensures in
    let e : f.fault ≡ fault (number_of check) (place_of check) = sym front.fault ∙ ap shown c.in-Err.is in
    record {
      found = ap (λ (d : Day). shown d.found) same ∙ sym e;
      header = ap (λ (d : Day). d.header) same ∙ front.header;
      count = ap (λ (d : Day). d.count) same ∙ front.hours;
      hours = ap (λ (d : Day). told_all d.hours) same ∙ all_refused f check e front.few;
      total = ap (λ (d : Day). told_total d.total) same ∙ total_withheld f check e front.some;
    }

pub returns : goal.returns
returns c f kind front =
    let settled = c.settle_hours-settled in
    let e : f.fault ≡ clear = sym front.fault ∙ ap shown c.in_default.is in
    let done = rw front.hours at settled.ensures in
    record {
      found = front.fault;
      header = front.header;
      count = front.hours;
      hours = replies_are f _ (sym kind) e _ front.excluded _ front.body settled.result done;
      total = total_is f _ (sym kind) e _ front.excluded _ front.body settled.result done;
    }
