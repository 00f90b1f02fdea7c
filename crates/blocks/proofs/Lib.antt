-- Laws that the proofs of the crate's functions and of its callers' cite, and that the contract has one reply (Unique).
pub mod Values
pub mod Unique
