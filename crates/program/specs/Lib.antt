-- How a program is used, and whether it is asked to say so.
pub mod Usage
