-- Laws that the proofs of the crate's functions cite; `Unique` has the laws of the public ones.
pub mod Schedules
pub mod Tasks
pub mod Scans
pub mod Walks
pub mod Fits
pub mod Turns
pub mod Works
pub mod Unique
