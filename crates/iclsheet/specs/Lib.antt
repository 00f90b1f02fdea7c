-- The answer to a block of an internal controllable line.
pub mod IclSettle
