-- Texts that the front pages and their witnesses speak of: document 01's listing, and a small block and its day, of a generator and of a line, and
-- a small block that leaves its operating points to the curve.
pub mod Listing
pub mod Small
pub mod LineSmall
pub mod Pointed
