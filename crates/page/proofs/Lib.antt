-- Laws that the proofs of the crate's functions and of its callers' cite, and that each contract has one reply (Unique).
pub mod Pages
pub mod Numerals
pub mod Unique
