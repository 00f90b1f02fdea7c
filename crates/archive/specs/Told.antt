-- What refuses a sheet, by what is read of its header: the header's fault or none, its form, and the count of its day's hours.
use Rattle.std.specs.Prelude.{if◌then◌else◌, Bool, false, ℕ, eqb}
use Rattle.tariff.specs.Reply.{FORM, RANGE, BACK, Verdict, clear, fault, unless, ◌then◌}
use Rattle.archive.specs.declared.Way.{Way}
use Rattle.archive.specs.Move.{goes, fits}

abbrev pub is_form : Verdict → Bool
is_form clear = false
is_form (fault number place) = eqb number FORM

unfoldable pub fault_by : Way → Verdict → (two : Bool) → (hours : ℕ) → Verdict
fault_by way v two hours = if is_form v then v else (unless (goes way two) RANGE 1 then v then unless (fits way hours) BACK 2)
