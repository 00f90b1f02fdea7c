-- What a program keeps of a text of any length.
pub mod Squeeze
pub mod Intake
pub mod Stretch
pub mod Front
