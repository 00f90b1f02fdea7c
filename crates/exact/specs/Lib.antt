-- Whole numbers with a sign.
pub mod Whole
