-- No two different replies satisfy the contract of a public function.
use Rattle.exact.proofs.Unique.{one, OneReply}
use Rattle.ranges.proofs.is_count.Reads as is_count
use Rattle.ranges.proofs.hours_by.Reads as hours_by
use Rattle.ranges.proofs.is_seconds.Reads as is_seconds
use Rattle.ranges.proofs.is_hour.Reads as is_hour
use Rattle.ranges.proofs.is_capacity.Reads as is_capacity
use Rattle.ranges.proofs.is_price.Reads as is_price
use Rattle.ranges.proofs.is_mark.Reads as is_mark
use Rattle.ranges.proofs.ahead_in_range.Reads as ahead_in_range
use Rattle.ranges.proofs.curve_in_range.Reads as curve_in_range
use Rattle.ranges.proofs.interval_in_range.Reads as interval_in_range
use Rattle.ranges.proofs.icl_ahead_in_range.Reads as icl_ahead_in_range
use Rattle.ranges.proofs.icl_interval_in_range.Reads as icl_interval_in_range

pub one_is_count : OneReply is_count.Post
one_is_count κ a r s u v p q = one r s p q

pub one_hours_by : OneReply hours_by.Post
one_hours_by κ a r s u v p q = one r s p q

pub one_is_seconds : OneReply is_seconds.Post
one_is_seconds κ a r s u v p q = one r s p q

pub one_is_hour : OneReply is_hour.Post
one_is_hour κ a r s u v p q = one r s p q

pub one_is_capacity : OneReply is_capacity.Post
one_is_capacity κ a r s u v p q = one r s p q

pub one_is_price : OneReply is_price.Post
one_is_price κ a r s u v p q = one r s p q

pub one_is_mark : OneReply is_mark.Post
one_is_mark κ a r s u v p q = one r s p q

pub one_ahead_in_range : OneReply ahead_in_range.Post
one_ahead_in_range κ a r s u v p q = one r s p q

pub one_curve_in_range : OneReply curve_in_range.Post
one_curve_in_range κ a r s u v p q = one r s p q

pub one_interval_in_range : OneReply interval_in_range.Post
one_interval_in_range κ a r s u v p q = one r s p q

pub one_icl_ahead_in_range : OneReply icl_ahead_in_range.Post
one_icl_ahead_in_range κ a r s u v p q = one r s p q

pub one_icl_interval_in_range : OneReply icl_interval_in_range.Post
one_icl_interval_in_range κ a r s u v p q = one r s p q
