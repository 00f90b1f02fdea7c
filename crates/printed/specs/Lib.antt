-- What each program prints of a text.
pub mod Printed
