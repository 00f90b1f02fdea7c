-- What is proved of the exports.
pub mod Unique
pub mod Exports
