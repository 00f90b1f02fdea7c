-- Laws that the proofs of the crate's functions cite; `Sheets` is for callers, and `Unique` has the law of the public one.
pub mod Fives
pub mod Searches
pub mod Rounds
pub mod Derates
pub mod Sheets
pub mod Unique
