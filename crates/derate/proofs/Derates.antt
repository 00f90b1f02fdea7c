-- The derate step by step: the arrays that the code makes hold the schedules, the potentials and the shares of document 01.
use native.Mathlib.Omega.{arith}
use Rattle.std.specs.Prelude.{None, Some}
use mathlib.Core.Path.{◌≡◌, refl, ◌∙◌}
use mathlib.Core.Bool.{Bool, true, false, ◌&&◌, and_assoc, and-true}
use mathlib.Core.List.{List}
use Prim.Native.Nat.{ℕ, ◌<◌, ◌≤◌}
use lib.Dec.{ltb}
use lib.IntN.{ℤ, pos, ◌-ℤ◌}
use borrow.Author.Tests.{lt-ltb, le-ltb}
use Rattle.exact.specs.Whole.{over, sum_to}
use Rattle.tariff.specs.declared.Kw.{Kw}
use Rattle.tariff.specs.declared.DayAhead.{DayAhead}
use Rattle.tariff.specs.declared.Interval.{Interval}
use Rattle.tariff.specs.Sheet.{is_power, all_to}
use Rattle.tariff.specs.Derate.{day_ahead, real_time, of_five, red_tot, pot_red, share, exceeds_room, reduced}
use Rattle.derate.specs.declared.cuts.Cut.{Cut}
use Rattle.derate.specs.Five.{kw_five, cut_five, kw_at, cut_at}
use Rattle.derate.specs.Derated.{are_powers, all_powers, deratable, no_room, derate_of}
use Rattle.derate.proofs.Fives.{kws_back, cuts_back}

-- ---- the two answers

module _ (a : DayAhead) (v : Interval) where
  refused : no_room a v ≡ true → None ≡ derate_of a v
  unfolding derate_of
  refused e = rw e

  kept : no_room a v ≡ false → {q : List Kw} → q ≡ kw_five (reduced a v) → Some q ≡ derate_of a v
  unfolding derate_of
  kept e eq = rw (e, eq)

  -- without a limit
  pub derated_none : v.uol ≡ None → Some (kw_five (day_ahead a)) ≡ derate_of a v
  unfolding exceeds_room reduced
  derated_none h = kept (rw h) (rw h)

-- ---- with a limit: the tests of the schedules, then the potentials, the reduction and the shares

-- five tests, one behind the other
tests : (f : ℕ → ℤ) → are_powers f ≡ all_powers (kw_five f)
unfolding all_to
tests f = simp (and_assoc, and-true)

module _ (a : DayAhead) (v : Interval) {limit : Kw} (h : v.uol ≡ Some limit) where
  abbrev ahead : Bool
  ahead = all_powers (kw_five (day_ahead a))

  abbrev live : Bool
  live = all_powers (kw_five (real_time v))

  judged : deratable a v ≡ (ahead && live && is_power limit.0)
  judged = grind (arith, tests)

  -- figures that no sheet has
  pub out : (ahead && live && is_power limit.0) ≡ false → None ≡ derate_of a v
  out e = grind (arith, judged, refused)

  module _ (ea : ahead ≡ true) (ev : live ≡ true) (eu : is_power limit.0 ≡ true) {das rts : List Kw} (ed : das ≡ kw_five (day_ahead a)) (el : rts ≡ kw_five (real_time v))
      {pot : List Cut} (ep : pot ≡ cut_five (λ j. over (kw_at das j -ℤ kw_at rts j)))
      {sum : ℤ} (es : sum ≡ sum_to (kw_at das) 5) {red : ℕ} (er : red ≡ over (sum -ℤ limit.0)) where
    inside : deratable a v ≡ true
    inside = judged ∙ rw (ea, ev, eu)

    ahead_at : kw_at das ≡ day_ahead a
    ahead_at = rw ed (kws_back (day_ahead a) (λ k. refl))

    pots_at : cut_at pot ≡ pot_red a v
    pots_at = rw (ep, ed, el) (cuts_back (pot_red a v) (λ k. refl))

    red_at : red ≡ red_tot a limit.0
    red_at = grind (arith, ahead_at)

    over_room : exceeds_room a v ≡ ltb (of_five (cut_at pot)) red
    unfolding exceeds_room
    over_room = grind (arith, pots_at, red_at)

    pub exceeded : of_five (cut_at pot) < red → None ≡ derate_of a v
    exceeded u = grind (arith, refused, inside, over_room, lt-ltb)

    pub shared :
        red ≤ of_five (cut_at pot)
        → {l : List Cut}
        → l ≡ cut_five (share (cut_at pot) red)
        → {q : List Kw}
        → q ≡ kw_five (λ j. kw_at das j -ℤ pos (cut_at l j))
        → Some q ≡ derate_of a v
    unfolding reduced
    shared u f g = grind (arith, kept, inside, over_room, le-ltb, ahead_at, pots_at, red_at)
