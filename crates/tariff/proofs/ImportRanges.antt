-- What the range tests of an import's numbers say, and its checks 1 and 2 where they find nothing.
use mathlib.Core.Path.{◌≡◌}
use mathlib.Core.Bool.{true, ◌&&◌, and-eq-true_iff}
use Prim.Native.Nat.{ℕ, ◌+◌, ◌<◌, ◌≤◌}
use borrow.Author.Tests.{leb-true}
use lib.IntN.{pos}
use lib.Signed.{◌≤ℤ◌}
use Rattle.exact.specs.Whole.{Within}
use Rattle.tariff.specs.declared.Curtailed.{Curtailed}
use Rattle.tariff.specs.declared.ImportHour.{ImportHour}
use Rattle.tariff.specs.Sheet.{is_hour, is_capacity, is_price}
use Rattle.tariff.specs.Reply.{FORM, RANGE, Verdict, clear, unless, ◌then◌, first_of}
use Rattle.tariff.specs.Import.{curtailed_in_range, curtailed, import_form, import_range, import_order, import_seconds, import_fault}
use Rattle.tariff.proofs.Checks.{then_clear, unless_clear, first_clear}
use Rattle.tariff.proofs.Tests.{and_left, and_right, and_both}
use Rattle.tariff.proofs.Ranges.{seconds_within, capacity_within, capacity_least, price_within}

-- ---- an interval line

pub record CurtailedFits (v : Curtailed) : Type 0 where
  pub s : Within 900 v.s.0
  pub prof : Within 2000000 v.prof.0
  pub rten : Within 2000000 v.rten.0
  pub rten_least : pos 0 ≤ℤ v.rten.0
  pub lbmp : Within 1000000 v.lbmp.0
  pub bid : Within 1000000 v.bid.0
  pub def : Within 1000000 v.def.0

pub curtailed_fits : (v : Curtailed) → curtailed_in_range v ≡ true → CurtailedFits v
unfolding curtailed_in_range
curtailed_fits v e =
    let h = simp and-eq-true_iff at e in
    search (seconds_within, capacity_within, capacity_least, price_within, and_both)

-- ---- line 1

pub record FirstFits (hours : ℕ) (h : ImportHour) : Type 0 where
  pub hour : is_hour hours h.hour ≡ true
  pub den : Within 2000000 h.den.0
  pub den_least : pos 0 ≤ℤ h.den.0
  pub dec : Within 1000000 h.dec.0

first_fits : (hours : ℕ) (h : ImportHour) → (is_hour hours h.hour && is_capacity h.den.0 && is_price h.dec.0) ≡ true → FirstFits hours h
first_fits hours h e =
    let two = is_hour hours h.hour && is_capacity h.den.0 in
    let t = and_left two (is_price h.dec.0) e in
    let den = and_right (is_hour hours h.hour) (is_capacity h.den.0) t in
    record {
      hour = and_left (is_hour hours h.hour) (is_capacity h.den.0) t;
      den = capacity_within den;
      den_least = capacity_least den;
      dec = price_within (and_right two (is_price h.dec.0) e);
    }

-- ---- checks 1 and 2

pub import_form_says : (h : ImportHour) → import_form h ≡ clear → h.n ≤ 30
unfolding import_form
import_form_says h e = leb-true _ _ (unless_clear _ FORM 32 e)

pub import_range_says : (hours : ℕ) (h : ImportHour) → import_range hours h ≡ clear → FirstFits hours h × ((i : ℕ) → i < h.n → CurtailedFits (curtailed h i))
unfolding import_range
import_range_says hours h e =
    let first = is_hour hours h.hour && is_capacity h.den.0 && is_price h.dec.0 in
    let each : ℕ → Verdict = λ i. unless (curtailed_in_range (curtailed h i)) RANGE (i + 2) in
    let p = then_clear (unless first RANGE 1) (first_of each h.n) e in (
      first_fits hours h (unless_clear first RANGE 1 p.0),
      λ i u. curtailed_fits (curtailed h i) (unless_clear _ RANGE (i + 2) (first_clear each h.n p.1 i u)),
    )

-- a block without a fault passes both
pub import_clear_says : (hours : ℕ) (h : ImportHour) (k : ℕ) → import_fault hours h k ≡ clear → (import_form h ≡ clear) × (import_range hours h ≡ clear)
import_clear_says hours h k e =
    let later = import_order h k then import_seconds h in
    let p = then_clear (import_form h) (import_range hours h then later) e in
    (p.0, (then_clear (import_range hours h) later p.1).0)
