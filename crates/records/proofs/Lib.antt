-- The interval lines of a block as the code reads them; and that each contract has one reply.
pub mod Turns
pub mod Unique
