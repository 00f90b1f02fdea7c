-- Rows of marks as words, the days that a day stands between, document 01's rule inside a day, what a neighbour's mark reaches, and days alike
-- but for an hour.
pub mod Word
pub mod Days
pub mod Alone
pub mod Reached
pub mod Alike
pub mod Examples
