-- What stands in a text, and the printed text of what is read: of a line's values, a header, an import.
pub mod Spelt
pub mod Value
pub mod Header
pub mod Import
pub mod Examples
