-- No two different replies satisfy the contract of a public function, and no two different values are a record's default.
use mathlib.Core.Path.{◌≡◌}
use borrow.Author.Rules.{rules}
use denote.RattleType.{RattleType}
use Rattle.tariff.specs.Hour.{blank}
use Rattle.tariff.specs.Import.{blank_curtailed}
use Rattle.tariff.specs.Controllable.{blank_icl}
use Rattle.exact.proofs.Unique.{one, OneReply}
use Rattle.records.proofs.ahead_of.Reads as ahead_of_lem
use Rattle.records.proofs.series.series_at.Reads as series_at
use Rattle.records.proofs.intervals.IntervalIntervalLine.of.Reads as interval_of
use Rattle.tariff.proofs.IntervalDefault.default.Reads as blank_interval
use Rattle.records.proofs.intervals.CurtailedIntervalLine.of.Reads as curtailed_of
use Rattle.tariff.proofs.CurtailedDefault.default.Reads as blank_curtailed
use Rattle.records.proofs.intervals.IclIntervalIntervalLine.of.Reads as icl_interval_of
use Rattle.tariff.proofs.IclIntervalDefault.default.Reads as blank_icl

pub one_ahead_of : OneReply ahead_of_lem.Post
one_ahead_of κ a r s u v p q = one r s p q

pub one_series_at : (T : RattleType) (L : _) (C : _) (line : _) (d : _) (clone : _) (e : _) (default : _) (f : _) → OneReply (series_at.Post T L C line d clone e default f)
one_series_at T L C line d clone e default f κ a r s u v p q = one r s p q

pub one_interval_of : OneReply interval_of.Post
one_interval_of κ a r s u v p q = one r s p q

pub one_blank_interval : OneReply blank_interval.Post
one_blank_interval κ a r s u v p q = let x : r ≡ blank = search rules in let y : s ≡ blank = search rules in one r s x y

pub one_curtailed_of : OneReply curtailed_of.Post
one_curtailed_of κ a r s u v p q = one r s p q

pub one_blank_curtailed : OneReply blank_curtailed.Post
one_blank_curtailed κ a r s u v p q = let x : r ≡ blank_curtailed = search rules in let y : s ≡ blank_curtailed = search rules in one r s x y

pub one_icl_interval_of : OneReply icl_interval_of.Post
one_icl_interval_of κ a r s u v p q = one r s p q

pub one_blank_icl : OneReply blank_icl.Post
one_blank_icl κ a r s u v p q = let x : r ≡ blank_icl = search rules in let y : s ≡ blank_icl = search rules in one r s x y
