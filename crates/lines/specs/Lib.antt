-- Lines of keys and numbers, as document 01 prints them, and the text cut at its empty lines.
pub mod Line
pub mod Series
pub mod Print
pub mod Cut
pub mod Pieces
pub mod Squeezed
