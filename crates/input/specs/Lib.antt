-- What the first bytes of a text say of its length.
pub mod Said
