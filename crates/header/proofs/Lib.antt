-- Laws that the proofs of the crate's functions cite. For callers: where a header without fault ends (HeaderEnds), whatever follows it
-- (HeaderAlong), that it ends at the first empty line (HeaderBehind), that any header is judged by what stands up to that line (HeaderFirst), as in
-- a squeezed text (HeaderSqueezed), and by the first bytes of that (HeaderLocal); what its count decides (HeaderCounts); that one that is not refused is
-- squeezed to itself (HeaderStands); that two with the same lines from `unit` on say the same, whatever their first lines are (HeaderBeside); and each of
-- these but the last for an internal controllable line's header (IclHeaders).
pub mod Digits
pub mod HeaderLines
pub mod Said
pub mod Forms
pub mod HeaderAlike
pub mod HeaderPlaced
pub mod HeaderEnds
pub mod HeaderBehind
pub mod HeaderSame
pub mod HeaderFirst
pub mod HeaderAlong
pub mod HeaderSqueezed
pub mod HeaderLocal
pub mod HeaderCounts
pub mod HeaderStands
pub mod HeaderBeside
pub mod IclHeaders
pub mod Unique
