-- What the numbers of a line say, and what is read of the interval lines of a block.
pub mod Records
pub mod Laws
pub mod Told
