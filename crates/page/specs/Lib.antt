-- Bytes in a lent page, and keys with numbers as they are printed.
pub mod Page
pub mod Numerals
