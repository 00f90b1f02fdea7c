-- The laws of the crate's public functions.
pub mod Unique
