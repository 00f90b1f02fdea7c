-- Laws of what is kept of a text, byte by byte and piece by piece, and of the front of a sheet.
pub mod Squeezes
pub mod Step
pub mod Store
pub mod Stretches
pub mod Kept
pub mod Past
pub mod Arrived
pub mod Fronts
pub mod Unique
