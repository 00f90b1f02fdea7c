-- The sheet as bytes: what its lines say, as document 01 prints them.
pub mod Settle
pub mod Apart
pub mod Print
pub mod Examples
