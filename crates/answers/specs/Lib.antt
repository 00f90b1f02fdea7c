-- The lines of each kind of answer, byte by byte, with document 01's listing.
pub mod Answers
pub mod Examples
