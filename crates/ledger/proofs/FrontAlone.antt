-- Three headers that are read, and nothing behind them, stand in front of every day that begins with them.
use mathlib.Core.Path.{◌≡◌, refl, sym, ap, ◌∙◌}
use mathlib.Core.Bool.{Bool, true, false, false≢true}
use mathlib.Core.List.{List, [], ◌∷◌, ◌++◌}
use Prim.Native.Nat.{ℕ, zero, suc, ◌<◌, ◌≤◌}
use mathlib.Core.Logic.{inl, inr, ⊎_elim}
use native.Mathlib.Omega.{arith}
use Rattle.std.specs.Prelude.{if◌then◌else◌, Some}
use Rattle.exact.specs.Whole.{eq_z}
use Rattle.exact.proofs.Parts.{by_test, true-eq_z, eq_z-true}
use Rattle.tariff.specs.Reply.{RANGE, Finding, Verdict, clear, fault, unless, ◌then◌, put_in}
use Rattle.tariff.proofs.Checks.{never_clear, then_clear, put_clear, unless_clear}
use Rattle.lines.specs.Cut.{empty_in, behind}
use Rattle.lines.specs.Pieces.{rest_after, first_piece, piece}
use Rattle.lines.proofs.Closed.{closed_first, closed_behind}
use Rattle.header.specs.Header.{form_of, header_fault, unit_of, unit_line}
use Rattle.header.proofs.HeaderBehind.{ends_empty_lem}
use Rattle.ledger.specs.Headers.{is_lacking, neighbour_fault, unit_fault, HeaderLine, in_header, headers_fault, at_line}
use Rattle.ledger.specs.Day.{front_of}
use Rattle.ledger.specs.Midnight.{Stands}
use Rattle.ledger.proofs.AnyFront.{SameFront}
use Rattle.ledger.proofs.SheetFront.{same_front, same_piece}

-- ---- where none of the checks refuses, each is clear
line_clear : (j : Finding HeaderLine) → at_line j ≡ clear → j ≡ clear
line_clear clear e = refl
line_clear (fault number (in_header header line)) e = absurd (never_clear e)

both_clear : (header : ℕ) (v : Verdict) (rest : Finding HeaderLine) → (put_in (in_header header) v then rest) ≡ clear → (v ≡ clear) × (rest ≡ clear)
both_clear header v rest e = let p = then_clear (put_in (in_header header) v) rest e in (put_clear (in_header header) v p.0, p.1)

pub record AllClear (before own after : List ℕ) : Type 0 where
  pub first : neighbour_fault before ≡ clear
  pub second : header_fault own ≡ clear
  pub third : neighbour_fault after ≡ clear
  pub unit_before : unit_fault before own ≡ clear
  pub unit_after : unit_fault after own ≡ clear

pub all_clear : (s : List ℕ) → (front_of s).fault ≡ clear → AllClear s (rest_after 1 s) (rest_after 2 s)
all_clear s e =
    let own = rest_after 1 s in
    let after = rest_after 2 s in
    let last = put_in (in_header 2) (unit_fault after own) in
    let units = put_in (in_header 0) (unit_fault s own) then last in
    let behind-own = put_in (in_header 2) (neighbour_fault after) then units in
    let a = both_clear 0 (neighbour_fault s) (put_in (in_header 1) (header_fault own) then behind-own) (line_clear (headers_fault s own after) e) in
    let b = both_clear 1 (header_fault own) behind-own a.1 in
    let c = both_clear 2 (neighbour_fault after) units b.1 in
    let d = both_clear 0 (unit_fault s own) last c.1 in
    record { first = a.0; second = b.0; third = c.0; unit_before = d.0; unit_after = put_clear (in_header 2) (unit_fault after own) d.1 }

-- ---- so a neighbour stands that no check refuses, and the other way round

module _ (t own : List ℕ) where
  pub neighbour_stands : neighbour_fault t ≡ clear → unit_fault t own ≡ clear → Stands t own
  neighbour_stands =
      by_test (is_lacking t)
      (λ b. (if b then clear else header_fault t) ≡ clear → (if b then clear else unless (eq_z (unit_of t) (unit_of own)) RANGE (unit_line t)) ≡ clear → Stands t own)
      (λ l e u. inl l)
      (λ l e u. inr (e, eq_z-true (unit_of t) (unit_of own) (unless_clear (eq_z (unit_of t) (unit_of own)) RANGE (unit_line t) u)))

  pub stands_clear : Stands t own → (neighbour_fault t ≡ clear) × (unit_fault t own ≡ clear)
  stands_clear =
      ⊎_elim
      (λ l. (rw l, rw l))
      (λ w.
      let unit = ap (λ (b : Bool). unless b RANGE (unit_line t)) (true-eq_z (unit_of t) (unit_of own) w.1) in
      by_test (is_lacking t)
      (λ b. ((if b then clear else header_fault t) ≡ clear) × ((if b then clear else unless (eq_z (unit_of t) (unit_of own)) RANGE (unit_line t)) ≡ clear))
      (λ l. (refl, refl))
      (λ l. (w.0, unit)))

-- ---- a header that is read is closed by its empty line, and so is one that is lacking

lacking_closed : (t : List ℕ) → is_lacking t ≡ true → empty_in true t 0 ≡ Some 1
unfolding empty_in
lacking_closed [] e = absurd (false≢true e)
lacking_closed (b ∷ t) e = rw e

abbrev Closed : List ℕ → Type 0
Closed t = (k : ℕ) × (empty_in true t 0 ≡ Some k)

header_closed : (t : List ℕ) → header_fault t ≡ clear → Closed t
header_closed t e = (_, ends_empty_lem (form_of t) t e)

neighbour_closed : (t : List ℕ) → neighbour_fault t ≡ clear → Closed t
neighbour_closed t e = go (is_lacking t) refl
  where
    go : (b : Bool) → is_lacking t ≡ b → Closed t
    go true l = (1, lacking_closed t l)
    go false l = header_closed t (ap (λ (b : Bool). if b then clear else header_fault t) (sym l) ∙ e)

-- ---- what follows them
module _ (head : List ℕ) (read : (front_of head).fault ≡ clear) (body : List ℕ) where
  closed : (k : ℕ) → k < 3 → Closed (rest_after k head)
  unfolding rest_after
  closed zero u = neighbour_closed head (all_clear head read).first
  closed (suc zero) u = header_closed (rest_after 1 head) (all_clear head read).second
  closed (suc (suc zero)) u = neighbour_closed (rest_after 2 head) (all_clear head read).third
  closed (suc (suc (suc k))) u = absurd (omega arith)

  rest_grows : (k : ℕ) → k ≤ 3 → rest_after k (head ++ body) ≡ rest_after k head ++ body
  unfolding rest_after
  rest_grows zero u = refl
  rest_grows (suc k) u =
      let ends = closed k (omega arith) in
      ap behind (rest_grows k (omega arith)) ∙ closed_behind (rest_after k head) body ends.0 ends.1

  piece_stays : (k : ℕ) → k < 3 → piece k (head ++ body) ≡ piece k head
  piece_stays k u =
      let ends = closed k u in
      ap first_piece (rest_grows k (omega arith)) ∙ closed_first (rest_after k head) body ends.0 ends.1

  pub front_stays : SameFront (front_of (head ++ body)) (front_of head)
  front_stays = same_front (head ++ body) head (λ k u. same_piece (rest_after k (head ++ body)) (rest_after k head) (piece_stays k u))

  pub front_behind : (front_of head).body ≡ [] → (front_of (head ++ body)).body ≡ body
  front_behind alone = rest_grows 3 (omega arith) ∙ ap (λ (l : List ℕ). l ++ body) alone
