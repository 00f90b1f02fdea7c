-- Laws that the proofs of the crate's functions cite, and a test that every key of the table passes (AllKeys).
pub mod Keys
pub mod AllKeys
pub mod Unique
