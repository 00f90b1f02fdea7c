-- Laws that the proofs of the crate's functions and of its callers' cite, those by which texts of blocks of any kind are compared, and that the
-- contract has one reply (Unique).
pub mod CurveLines
pub mod CurveShared
pub mod Frames
pub mod FrameShared
pub mod FrameEnds
pub mod FrameReads
pub mod FrameApart
pub mod Unique
