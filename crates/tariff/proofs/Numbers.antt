-- Each check over a block gives no number but its own, whatever kind its hour is.
use mathlib.Core.Bool.{◌&&◌}
use Prim.Native.Nat.{◌+◌}
use lib.Dec.{leb}
use lib.IntN.{pos}
use Rattle.exact.specs.Whole.{eq_z, sum_to}
use Rattle.tariff.specs.declared.Expected.{Expected}
use Rattle.tariff.specs.declared.Expected.TheVariants.{Any, Says}
use Rattle.tariff.specs.Sheet.{is_hour, curve_in_range, curve_keeps}
use Rattle.tariff.specs.Reply.{FORM, RANGE, ORDER, CURVE, SECONDS, unless}
use Rattle.tariff.specs.Checks.{form_in, range_in, order_in, curves_in, seconds_in, Parts, hours_around, form_of, range_of, order_of, curves_of, seconds_of}
use Rattle.tariff.proofs.Turns.{Only, only_unless, only_behind, only_first}

module _ (p : Parts) where
  pub form_only : Only FORM (form_of p)
  unfolding form_in
  form_only = only_behind FORM (leb p.da.n 12) 2 _ (only_behind FORM (leb p.rt.n 12) 3 _ (only_unless FORM (leb p.n 30) 34))

  pub range_only : (expected : Expected) → Only RANGE (range_of p expected)
  unfolding range_in
  range_only expected =
      only_behind RANGE (is_hour (hours_around expected) p.hour && p.ahead_in_range) 1 _
      (only_behind RANGE (curve_in_range p.da) 2 _
      (only_behind RANGE (curve_in_range p.rt) 3 _
      (only_first RANGE (λ i. unless (p.interval_in_range i) RANGE (i + 4)) p.n (λ i. only_unless RANGE (p.interval_in_range i) (i + 4)))))

  pub order_only : (expected : Expected) → Only ORDER (order_of p expected)
  unfolding order_in
  order_only Any = tt
  order_only (Says hour hours) = only_unless ORDER (eq_z p.hour hour) 1

  pub curves_only : Only CURVE (curves_of p)
  unfolding curves_in
  curves_only = only_behind CURVE (curve_keeps p.da) 2 _ (only_unless CURVE (curve_keeps p.rt) 3)

  pub seconds_only : Only SECONDS (seconds_of p)
  unfolding seconds_in
  seconds_only = only_unless SECONDS (eq_z (sum_to p.seconds p.n) (pos 3600)) 0
