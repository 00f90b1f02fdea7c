-- What the functions of this crate promise.
pub mod Five
pub mod Derated
