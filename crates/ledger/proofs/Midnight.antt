-- What request 5's theorems cite: which header refuses, neighbours that are lacking both, and two inputs with the same blocks.
use mathlib.Core.Path.{◌≡◌, sym, ap, ◌∙◌}
use mathlib.Core.Bool.{true}
use mathlib.Core.List.{List}
use Prim.Native.Nat.{ℕ}
use Rattle.std.specs.Prelude.{if◌then◌else◌}
use Rattle.exact.proofs.Parts.{false-eq_z}
use Rattle.tariff.specs.declared.MarkedDay.{MarkedDay}
use Rattle.tariff.specs.Reply.{RANGE, fault}
use Rattle.tariff.specs.Eligible.{excluded, no_day}
use Rattle.lines.specs.Pieces.{rest_after, is_some}
use Rattle.header.specs.Header.{unit_of, unit_line}
use Rattle.ledger.specs.Headers.{is_lacking, day_said, unit_fault, in_header, headers_fault, at_line, which_header}
use Rattle.ledger.specs.Day.{generator_answer, front_of, day_reply}
use Rattle.ledger.specs.Demand.{SettledAlike}
use Rattle.ledger.specs.Midnight.{OtherUnit, Refuses, SameBlocks, NeighboursAlike}
use Rattle.ledger.proofs.HourOfDay.{hour_same, settled_alike}

pub refuses : (s : List ℕ) {header number place : ℕ} → headers_fault s (rest_after 1 s) (rest_after 2 s) ≡ fault number (in_header header place)
    → Refuses s header number place
refuses s e = (ap at_line e, ap which_header e)

pub other_unit : (t own : List ℕ) → OtherUnit t own → unit_fault t own ≡ fault RANGE (unit_line t)
other_unit t own o = rw (o.0, false-eq_z (unit_of t) (unit_of own) o.1)

pub lacking_both : (s : List ℕ) → is_lacking s ≡ true → is_lacking (rest_after 2 s) ≡ true → (k : ℕ)
    → (front_of s).is_excluded k ≡ excluded no_day (day_said (rest_after 1 s)) no_day k
lacking_both s b a k =
    λ i. excluded (if b i then no_day else day_said s) (day_said (rest_after 1 s)) (if a i then no_day else day_said (rest_after 2 s)) k

module _ (s t : List ℕ) (o : SameBlocks s t) where
  pub block_settles : (k : ℕ) → (front_of s).is_excluded k ≡ (front_of t).is_excluded k → day_reply (front_of s) k ≡ day_reply (front_of t) k
  block_settles k e =
      hour_same (front_of s) (front_of t) k (o.one_read ∙ sym o.other_read_lem) o.hours e
      (ap (λ (b : List ℕ). generator_answer (rest_after k b)) o.body)

  pub blocks_settle : ((k : ℕ) → (front_of s).is_excluded k ≡ (front_of t).is_excluded k) → SettledAlike (front_of s) (front_of t)
  blocks_settle e =
      settled_alike (front_of s) (front_of t) o.one_read o.other_read_lem o.hours (λ k u. block_settles k (e k))
      (λ i. is_some (rest_after (o.hours i) (o.body i)))

-- neighbours that are alike in one way are so in another that follows
pub neighbours_by : {P Q : (d e : MarkedDay) → Type 0} {s t : List ℕ} → ((d e : MarkedDay) → P d e → Q d e) → NeighboursAlike P s t → NeighboursAlike Q s t
neighbours_by f o = record { blocks = o.blocks; own = o.own; before = f _ _ o.before; after = f _ _ o.after }
