-- A header as bytes, of a day's sheet and of an internal controllable line's day: its lines, their ranges, and the marks that they say.
pub mod Layout
pub mod Header
pub mod IclHeader
pub mod Places
pub mod Examples
pub mod IclExamples
