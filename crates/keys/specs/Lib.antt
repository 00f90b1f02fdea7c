-- The one table of keys.
pub mod Keys
