-- What is asked of a line and its record: the line's keys are in the table, and the record reads no more values than the line has.
use Rattle.std.specs.Prelude.{◌≡◌, refl, true, ℕ, ◌<◌, ℤ}
use Rattle.std.proofs.Common.{ap}
use Rattle.keys.specs.Keys.{INTERVAL, CURTAILED, ICL_INTERVAL}
use Rattle.lines.specs.Line.{is_line}
use Rattle.lines.proofs.Lines.{first_same}
use Rattle.records.specs.Records.{interval_of, curtailed_of, icl_interval_of}

pub record LineLaws {A : Type 0} (first fields : ℕ) (of : (ℕ → ℤ) → A) : Type 0 where
  pub is_a_line : is_line first fields ≡ true
  pub reads : (f g : ℕ → ℤ) → ((n : ℕ) → n < fields → f n ≡ g n) → of f ≡ of g

-- the three kinds of interval lines
pub interval_laws : LineLaws INTERVAL 20 interval_of
interval_laws = record { is_a_line = refl; reads = λ f g h. ap interval_of (first_same 20 f g h) }

pub curtailed_laws : LineLaws CURTAILED 7 curtailed_of
curtailed_laws = record { is_a_line = refl; reads = λ f g h. ap curtailed_of (first_same 7 f g h) }

pub icl_interval_laws : LineLaws ICL_INTERVAL 6 icl_interval_of
icl_interval_laws = record { is_a_line = refl; reads = λ f g h. ap icl_interval_of (first_same 6 f g h) }
