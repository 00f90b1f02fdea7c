-- An hour block: its lines, and the record that it is read to.
pub mod Block
pub mod Laws
