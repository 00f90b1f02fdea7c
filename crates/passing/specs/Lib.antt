-- What is answered to a sheet that comes on standard input.
pub mod Passed
