-- The laws of the steps that are taken and of where an interval stands, and that the public contract has one reply.
pub mod Stands
pub mod Taken
pub mod Unique
