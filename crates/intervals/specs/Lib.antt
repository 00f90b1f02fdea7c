-- What the functions of this crate promise to each other.
pub mod Task
pub mod Walk
