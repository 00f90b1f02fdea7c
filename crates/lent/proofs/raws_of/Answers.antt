-- `raws_of` takes the whole number of each contribution.
use lib.IntN.{pos}
use Rattle.std.proofs.Common.{rules, arith}
use Rattle.std.proofs.Math.ListN.{get_or-map}
use Rattle.std.proofs.lemmas.List.{ext_get_or, length-map}
use Rattle.tariff.specs.declared.Grains.{Grains}
use Rattle.tariff.specs.Units.{grains}
use Rattle.lent.specs.Lent.{raws}
use Rattle.lent.proofs.raws_of.Goals as goal

pub returns : goal.returns
returns c =
    let items = c.map.ensures.items in
    let long = items.long in
    ext_get_or (pos 0) c.map.result (raws c.args.parts) (simp length-map (omega arith))
    (λ i u.
    let ran = items.at i (grains (pos 0)) (pos 0) (omega (arith, long)) in
    rw (get_or-map (λ (g : Grains). g.0) c.args.parts i (grains (pos 0))) (search rules))
