-- Document 01's own rule, which looks inside the day alone. Request 5 lets the two hours pass midnight; this stays to compare with.
use Rattle.std.specs.Prelude.{Bool, ◌&&◌, ◌||◌, ℕ, eqb, get_or}
use Rattle.tariff.specs.declared.Marks.{Marks}
use Rattle.tariff.specs.declared.MarkedDay.{MarkedDay}
use Rattle.tariff.specs.Eligible.{marked, some_to, near}

-- category 0, x1, x2 and x3 exclude their own hour
abbrev pub by_itself : Marks → ℕ → Bool
by_itself m h = eqb (get_or m.cat h 0) 0 || marked m.x1 h || marked m.x2 h || marked m.x3 h

-- an hour of the day, which has `hours` of them, is marked at h or at most two before or after
abbrev pub marked_near : ℕ → ℕ → ℕ → Bool
marked_near hours word h = some_to (λ g. marked word g && near g h) hours

-- x4, and with `rtc=1` x5 and x6, exclude the two hours before and after as well
unfoldable pub excluded_alone : MarkedDay → ℕ → Bool
excluded_alone d h =
    by_itself d.marks h
    || marked_near d.hours d.marks.x4 h
    || (d.marks.rtc && (marked_near d.hours d.marks.x5 h || marked_near d.hours d.marks.x6 h))
