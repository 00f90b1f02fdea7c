-- No two different replies satisfy the contract of a public function.
use mathlib.Core.Path.{ap}
use Rattle.exact.proofs.Unique.{one, OneReply}
use Rattle.tariff.specs.Units.{kw}
use Rattle.limits.proofs.lags.Reads as lags
use Rattle.limits.proofs.is_lower.Reads as is_lower
use Rattle.limits.proofs.limit_of.Reads as limit_of

pub one_lags : OneReply lags.Post
one_lags κ a r s u v p q = one r s p q

pub one_is_lower : OneReply is_lower.Post
one_is_lower κ a r s u v p q = one r s p q

pub one_limit_of : OneReply limit_of.Post
one_limit_of κ a r s u v p q = ap kw (one r.0 s.0 p q)
