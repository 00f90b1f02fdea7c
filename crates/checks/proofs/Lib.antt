-- The laws that the checks' proofs share, and those of the crate's public functions.
pub mod Lines
pub mod Seconds
pub mod Unique
