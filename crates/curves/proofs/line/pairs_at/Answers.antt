use Rattle.std.specs.Prelude.{None}
use mathlib.Core.Path.{◌≡◌, refl, sym, ◌∙◌, ap}
use Prim.Native.Nat.{◌<◌}
use native.Mathlib.Omega.{arith}
use borrow.Author.Rules.{rules}
use lib.IntN.{pos}
use Rattle.exact.specs.Whole.{up_to}
use Rattle.tariff.specs.Units.{kw, price}
use Rattle.keys.specs.Keys.{PAIR}
use Rattle.curves.specs.CurveLine.{after_pair, after_pairs, end_said, price_said, end_of_pair, price_of_pair}
use Rattle.exact.proofs.Held.{held_is}
use Rattle.lines.proofs.Fill.{fill_next}
use Rattle.lines.proofs.Lines.{fields_read}
use Rattle.lines.proofs.Series.{place_first, place_next, place_said}
use Rattle.curves.proofs.CurveLines.{pairs_break}
use Rattle.curves.proofs.line.pairs_at.Goals as goal

pub loop-j-init : goal.loop-j-init
unfolding up_to
loop-j-init c = record { place = place_first after_pair _ _; ends = refl; paid = refl }

pub returns-in_err-i : goal.returns-in_err-i
returns-in_err-i c =
    let a = c.args in
    let l = c.loop-j in
    let none : after_pairs a.n a.s.now a.at ≡ None =
    pairs_break _ _ _ _ _ l.invariant.place c.loop-j-test.true (sym (fields_read PAIR 2 _ _ _ refl c.fields_at-pair.ensures).next ∙ c.in_err-i.was) in
    rw (c.from_residual.ensures, none)

pub loop-j-preserved : goal.loop-j-preserved
loop-j-preserved c =
    let a = c.args in
    let l = c.loop-j in
    let r = fields_read PAIR 2 _ _ _ refl c.fields_at-pair.ensures in
    let few : l.j < 12 = omega arith in
    let place = l.invariant.place in
    record {
      place = place_next after_pair _ _ _ _ place ∙ sym r.next ∙ c.in_ok-i.was;
      ends =
          fill_next (end_of_pair a.s.now a.at) (kw (pos 0)) l.j 12 few l.invariant.ends
          (ap kw (held_is _ _ (search rules) (r.values 0 (omega arith))) ∙ sym (place_said after_pair _ _ _ _ place end_said _));
      paid =
          fill_next (price_of_pair a.s.now a.at) (price (pos 0)) l.j 12 few l.invariant.paid
          (ap price (held_is _ _ (search rules) (r.values 1 (omega arith))) ∙ sym (place_said after_pair _ _ _ _ place price_said _));
    }

pub returns : goal.returns
returns c =
    let l = c.loop-j in
    let last : c.args.n ≡ l.j = omega arith in
    rw (last, l.invariant.place, l.invariant.ends, l.invariant.paid)
