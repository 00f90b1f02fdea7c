-- No two different replies satisfy the contract of a day call.
use Rattle.tariff.specs.Reply.{Found}
use Rattle.std.specs.Prelude.{None, Some}
use mathlib.Core.Path.{◌≡◌, refl, sym, ap, ◌∙◌}
use mathlib.Core.List.{List}
use Prim.Native.Nat.{ℕ}
use Rattle.exact.proofs.Unique.{OneReply}
use Rattle.tariff.specs.Units.{cents}
use Rattle.tariff.proofs.Demands.{one_finding}
use Rattle.ledger.specs.declared.Day.{Day}
use Rattle.tariff.specs.declared.Answer.{Answer}
use Rattle.tariff.specs.Total.{Sum, total, no_total, told_total, Total}
use Rattle.tariff.proofs.HourAnswers.{answers_one}
use Rattle.ledger.specs.Day.{Front, front_of}
use Rattle.ledger.specs.IclDay.{icl_front_of}
use Rattle.ledger.specs.Walk.{DayOf}
use Rattle.ledger.proofs.settle_day.Reads as settle_day
use Rattle.ledger.proofs.settle_icl_day.Reads as settle_icl_day

abbrev total_told : Sum → Total
total_told (total c) = Some (cents c)
total_told no_total = None

total_back : (t : Total) → total_told (told_total t) ≡ t
total_back (Some c) = refl
total_back None = refl

total_one : (t u : Total) → told_total t ≡ told_total u → t ≡ u
total_one t u e = sym (total_back t) ∙ ap total_told e ∙ total_back u

abbrev day : Found → (header count : ℕ) → List Answer → Total → Day
day found header count hours t = record { found = found; header = header; count = count; hours = hours; total = t }

-- two days of one front
one_day : (f : Front) (r s : Day) → DayOf f r → DayOf f s → r ≡ s
one_day f r s p q = λ i.
    day
    (one_finding r.found s.found _ p.found q.found i)
    ((p.header ∙ sym q.header) i)
    ((p.count ∙ sym q.count) i)
    (answers_one r.hours s.hours (p.hours ∙ sym q.hours) i)
    (total_one r.total s.total (p.total ∙ sym q.total) i)

pub one_settle_day : OneReply settle_day.Post
one_settle_day κ a r s u v p q =
    one_day (front_of a.0.now) r s
    (record { found = p.0; header = p.1.0; count = p.1.1.0; hours = p.1.1.1.0; total = p.1.1.1.1 })
    (record { found = q.0; header = q.1.0; count = q.1.1.0; hours = q.1.1.1.0; total = q.1.1.1.1 })

pub one_settle_icl_day : OneReply settle_icl_day.Post
one_settle_icl_day κ a r s u v p q =
    one_day (icl_front_of a.0.now) r s
    (record { found = p.0; header = p.1.0; count = p.1.1.0; hours = p.1.1.1.0; total = p.1.1.1.1 })
    (record { found = q.0; header = q.1.0; count = q.1.1.0; hours = q.1.1.1.0; total = q.1.1.1.1 })
