-- The laws of the row, and of the public function.
pub mod Rows
pub mod Settled
pub mod Unique
