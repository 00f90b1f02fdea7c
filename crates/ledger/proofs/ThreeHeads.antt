-- The three headers as the code reads them: one by one, whether a neighbour is of another unit, and which of them refuses.
use mathlib.Core.Path.{◌≡◌, refl, sym, ap, ◌∙◌, subst}
use mathlib.Core.Bool.{Bool, true, false, not, ◌&&◌, false≢true}
use mathlib.Core.List.{List}
use Prim.Native.Nat.{ℕ}
use Rattle.std.specs.Prelude.{if◌then◌else◌}
use Rattle.exact.specs.Whole.{eq_z}
use Rattle.tariff.specs.Reply.{RANGE, Finding, Verdict, clear, fault, unless, ◌then◌, put_in, shown}
use Rattle.tariff.specs.Eligible.{no_day}
use Rattle.header.specs.Header.{hours_of, header_fault, unit_of, unit_line, marks_under, unit_under}
use Rattle.ledger.specs.declared.heads.Head.{Head}
use Rattle.ledger.specs.declared.heads.Judged.{Judged}
use Rattle.ledger.specs.Headers.{is_lacking, day_said, neighbour_fault, unit_fault, HeaderLine, in_header, headers_fault, at_line, which_header}
use Rattle.ledger.specs.Walk.{OwnRead, NeighbourRead, JudgedAs}

-- ---- a header that is read, and one that is lacking

pub own_read : (t : List ℕ) (r : Head) → shown r.found ≡ header_fault t → r.day.marks ≡ marks_under (header_fault t) t → r.day.hours ≡ hours_of t
    → r.unit ≡ unit_under (header_fault t) t → r.line ≡ unit_line t → r.lacking ≡ false → OwnRead t r
own_read t r found marks hours unit line here = record {
  lacking = here;
  fault = found;
  day = λ i. record { hours = hours i; marks = marks i };
  unit = λ e. unit ∙ ap (λ (v : Verdict). unit_under v t) e;
  line = line;
}

module _ (t : List ℕ) (r : Head) where
  pub lacking_read : is_lacking t ≡ true → r.lacking ≡ true → shown r.found ≡ clear → r.day ≡ no_day → NeighbourRead t r
  lacking_read e here found day = record {
    lacking = here ∙ sym e;
    fault = found ∙ ap (λ (b : Bool). if b then clear else header_fault t) (sym e);
    day = day ∙ ap (λ (b : Bool). if b then no_day else day_said t) (sym e);
    unit = λ q. absurd (false≢true (sym q ∙ e));
    line = λ q. absurd (false≢true (sym q ∙ e));
  }

  pub standing_read : is_lacking t ≡ false → OwnRead t r → NeighbourRead t r
  standing_read e own = record {
    lacking = own.lacking ∙ sym e;
    fault = own.fault ∙ ap (λ (b : Bool). if b then clear else header_fault t) (sym e);
    day = own.day ∙ ap (λ (b : Bool). if b then no_day else day_said t) (sym e);
    unit = λ q. own.unit;
    line = λ q. own.line;
  }

-- ---- whether a neighbour that is read is of another unit than the day

not_twice : (b : Bool) → not (not b) ≡ b
not_twice true = refl
not_twice false = refl

pub unit_judged : (t own : List ℕ) (n o : Head) → NeighbourRead t n → OwnRead own o → neighbour_fault t ≡ clear → header_fault own ≡ clear → (other : Bool)
    → other ≡ (not n.lacking && not (eq_z n.unit o.unit)) → unit_fault t own ≡ unless (not other) RANGE n.line
unit_judged t own n o reads owns read clears other says = go (is_lacking t) refl
  where
    go : (b : Bool) → is_lacking t ≡ b → unit_fault t own ≡ unless (not other) RANGE n.line
    go true e =
        let none : other ≡ false = says ∙ ap (λ (b : Bool). not b && not (eq_z n.unit o.unit)) (reads.lacking ∙ e) in
        ap (λ (b : Bool). if b then clear else unless (eq_z (unit_of t) (unit_of own)) RANGE (unit_line t)) e
        ∙ ap (λ (b : Bool). unless (not b) RANGE n.line) (sym none)
    go false e =
        let stands : header_fault t ≡ clear = ap (λ (b : Bool). if b then clear else header_fault t) (sym e) ∙ read in
        let unit = reads.unit e stands in
        let own-unit = owns.unit clears in
        let same : other ≡ not (eq_z (unit_of t) (unit_of own)) = says ∙ (λ i. not ((reads.lacking ∙ e) i) && not (eq_z (unit i) (own-unit i))) in
        ap (λ (b : Bool). if b then clear else unless (eq_z (unit_of t) (unit_of own)) RANGE (unit_line t)) e
        ∙ (λ i. unless (sym (ap not same ∙ not_twice (eq_z (unit_of t) (unit_of own))) i) RANGE (sym (reads.line e) i))

-- ---- which header refuses

-- by the five checks
abbrev pub judged_by : (before own after unit_before unit_after : Verdict) → Finding HeaderLine
judged_by before own after unit_before unit_after =
    put_in (in_header 0) before then put_in (in_header 1) own then put_in (in_header 2) after then put_in (in_header 0) unit_before then put_in (in_header 2) unit_after

module _ (b o a : List ℕ) where
  pub judged_as : (r : Judged) {j : Finding HeaderLine} → headers_fault b o a ≡ j → shown r.found ≡ at_line j → r.header ≡ which_header j
      → JudgedAs (headers_fault b o a) r
  judged_as r e found which = subst (λ (j : Finding HeaderLine). JudgedAs j r) (sym e) (record { fault = found; header = which })

  module _ {number place : ℕ} where
    pub before_refuses : neighbour_fault b ≡ fault number place → headers_fault b o a ≡ fault number (in_header 0 place)
    before_refuses e = λ i. judged_by (e i) (header_fault o) (neighbour_fault a) (unit_fault b o) (unit_fault a o)

    module _ (first : neighbour_fault b ≡ clear) where
      pub own_refuses : header_fault o ≡ fault number place → headers_fault b o a ≡ fault number (in_header 1 place)
      own_refuses e = λ i. judged_by (first i) (e i) (neighbour_fault a) (unit_fault b o) (unit_fault a o)

      module _ (second : header_fault o ≡ clear) where
        pub after_refuses : neighbour_fault a ≡ fault number place → headers_fault b o a ≡ fault number (in_header 2 place)
        after_refuses e = λ i. judged_by (first i) (second i) (e i) (unit_fault b o) (unit_fault a o)

        module _ (third : neighbour_fault a ≡ clear) where
          pub unit_before_refuses : unit_fault b o ≡ fault number place → headers_fault b o a ≡ fault number (in_header 0 place)
          unit_before_refuses e = λ i. judged_by (first i) (second i) (third i) (e i) (unit_fault a o)

          pub unit_after_refuses : unit_fault b o ≡ clear → unit_fault a o ≡ fault number place → headers_fault b o a ≡ fault number (in_header 2 place)
          unit_after_refuses fourth e = λ i. judged_by (first i) (second i) (third i) (fourth i) (e i)

  pub none_refuses : neighbour_fault b ≡ clear → header_fault o ≡ clear → neighbour_fault a ≡ clear → unit_fault b o ≡ clear → unit_fault a o ≡ clear
      → headers_fault b o a ≡ clear
  none_refuses first second third fourth fifth = λ i. judged_by (first i) (second i) (third i) (fourth i) (fifth i)
