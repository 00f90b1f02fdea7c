-- Laws that the proofs of the crate's functions cite, and that each contract has one reply (Unique).
pub mod Numbered
pub mod Unique
