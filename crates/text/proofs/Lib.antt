-- Laws that the proofs of the crate's functions cite.
pub mod Numbers
pub mod Keys
pub mod Unique
