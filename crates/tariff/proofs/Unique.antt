-- No two different replies satisfy the contract of a public function, or of an operator.
use mathlib.Core.Path.{ap}
use Rattle.exact.proofs.Unique.{one, OneReply}
use Rattle.tariff.specs.Units.{kw, price, move_price, seconds, grains, cents}
use Rattle.tariff.proofs.number_of.Reads as number_of_lem
use Rattle.tariff.proofs.place_of.Reads as place_of
use Rattle.tariff.proofs.sums.KwAdd.add.Reads as kw_sum
use Rattle.tariff.proofs.sums.KwSub.sub.Reads as kw_difference
use Rattle.tariff.proofs.sums.PriceSub.sub.Reads as price_difference
use Rattle.tariff.proofs.sums.MovePriceSub.sub.Reads as move_price_difference
use Rattle.tariff.proofs.sums.GrainsAdd.add.Reads as grains_sum
use Rattle.tariff.proofs.sums.GrainsSub.sub.Reads as grains_difference
use Rattle.tariff.proofs.sums.SecondsAdd.add.Reads as seconds_sum
use Rattle.tariff.proofs.sums.CentsAdd.add.Reads as cents_sum
use Rattle.tariff.proofs.Kw.priced.Reads as priced
use Rattle.tariff.proofs.Kw.moved.Reads as moved

pub one_number_of : OneReply number_of_lem.Post
one_number_of κ a r s u v p q = one r s p q

pub one_place_of : OneReply place_of.Post
one_place_of κ a r s u v p q = one r s p q

pub one_kw_sum : OneReply kw_sum.Post
one_kw_sum κ a r s u v p q = ap kw (one r.0 s.0 p q)

pub one_kw_difference : OneReply kw_difference.Post
one_kw_difference κ a r s u v p q = ap kw (one r.0 s.0 p q)

pub one_price_difference : OneReply price_difference.Post
one_price_difference κ a r s u v p q = ap price (one r.0 s.0 p q)

pub one_move_price_difference : OneReply move_price_difference.Post
one_move_price_difference κ a r s u v p q = ap move_price (one r.0 s.0 p q)

pub one_grains_sum : OneReply grains_sum.Post
one_grains_sum κ a r s u v p q = ap grains (one r.0 s.0 p q)

pub one_grains_difference : OneReply grains_difference.Post
one_grains_difference κ a r s u v p q = ap grains (one r.0 s.0 p q)

pub one_seconds_sum : OneReply seconds_sum.Post
one_seconds_sum κ a r s u v p q = ap seconds (one r.0 s.0 p q)

pub one_cents_sum : OneReply cents_sum.Post
one_cents_sum κ a r s u v p q = ap cents (one r.0 s.0 p q)

pub one_priced : OneReply priced.Post
one_priced κ a r s u v p q = ap grains (one r.0 s.0 p q)

pub one_moved : OneReply moved.Post
one_moved κ a r s u v p q = ap grains (one r.0 s.0 p q)
