-- What is accepted is what is printed: `Spelling` states it. The others hold the laws that it cites, from a byte up.
pub mod Pairs
pub mod Places
pub mod Digits
pub mod Fields
pub mod Series
pub mod Curves
pub mod Ends
pub mod Blocks
pub mod Back
pub mod Headers
pub mod Imports
pub mod Spelling
