-- The laws of the crate's functions.
pub mod Signs
pub mod Unique
