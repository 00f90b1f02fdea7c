-- No two different replies satisfy the contract of a public function.
use mathlib.Core.Path.{ap}
use Rattle.exact.proofs.Unique.{one, OneReply}
use Rattle.tariff.specs.Units.{kw, price, move_price, grains, cents}
use Rattle.units.proofs.below.Reads as below
use Rattle.units.proofs.same.Reads as same
use Rattle.units.proofs.price_at_most.Reads as price_at_most
use Rattle.units.proofs.kw_min.Reads as kw_min
use Rattle.units.proofs.kw_max.Reads as kw_max
use Rattle.units.proofs.price_or_zero.Reads as price_or_zero
use Rattle.units.proofs.move_or_zero.Reads as move_or_zero
use Rattle.units.proofs.loss_or_zero.Reads as loss_or_zero
use Rattle.units.proofs.gain_or_zero.Reads as gain_or_zero
use Rattle.units.proofs.cents_of.Reads as cents_of
use Rattle.units.proofs.lies_in.Reads as lies_in
use Rattle.units.proofs.magnitude.Reads as magnitude

pub one_below : OneReply below.Post
one_below κ a r s u v p q = one r s p q

pub one_same : OneReply same.Post
one_same κ a r s u v p q = one r s p q

pub one_price_at_most : OneReply price_at_most.Post
one_price_at_most κ a r s u v p q = one r s p q

pub one_kw_min : OneReply kw_min.Post
one_kw_min κ a r s u v p q = ap kw (one r.0 s.0 p q)

pub one_kw_max : OneReply kw_max.Post
one_kw_max κ a r s u v p q = ap kw (one r.0 s.0 p q)

pub one_price_or_zero : OneReply price_or_zero.Post
one_price_or_zero κ a r s u v p q = ap price (one r.0 s.0 p q)

pub one_move_or_zero : OneReply move_or_zero.Post
one_move_or_zero κ a r s u v p q = ap move_price (one r.0 s.0 p q)

pub one_loss_or_zero : OneReply loss_or_zero.Post
one_loss_or_zero κ a r s u v p q = ap grains (one r.0 s.0 p q)

pub one_gain_or_zero : OneReply gain_or_zero.Post
one_gain_or_zero κ a r s u v p q = ap grains (one r.0 s.0 p q)

pub one_cents_of : OneReply cents_of.Post
one_cents_of κ a r s u v p q = ap cents (one r.0 s.0 p q)

pub one_magnitude : OneReply magnitude.Post
one_magnitude κ a r s u v p q = one r s p q

pub one_lies_in : OneReply lies_in.Post
one_lies_in κ a r s u v p q = one r s p q
