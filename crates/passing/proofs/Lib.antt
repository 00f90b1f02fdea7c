-- The front of a sheet decides how its header is judged.
pub mod Decided
