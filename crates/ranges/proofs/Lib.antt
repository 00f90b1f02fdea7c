-- The laws of a curve's steps, and of the public functions.
pub mod Steps
pub mod Unique
