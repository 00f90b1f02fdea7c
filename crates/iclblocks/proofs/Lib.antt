-- Laws that the proofs of the crate's functions and of its callers' cite, those of a block's text, and that the contract has one reply (Unique).
pub mod IclBlocks
pub mod IclClosing
pub mod IclReads
pub mod IclApart
pub mod Unique
