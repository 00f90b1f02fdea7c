-- A reply as numbers, for callers in other languages.
pub mod Numbers
