-- An hour block of an internal controllable line: its lines, and the record that it is read to.
pub mod IclBlock
pub mod Laws
pub mod IclApart
pub mod Examples
