-- Laws that the proofs of the crate's functions cite, that no text is longer than the programs' rows (Fits), and that each contract has
-- one reply (Unique).
pub mod Texts
pub mod Fits
pub mod Unique
