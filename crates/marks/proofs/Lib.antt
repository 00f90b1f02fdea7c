-- What is proved of the rule: `Midnight` compares it with document 01's and says what it asks of a neighbour, `Far` how far a mark acts. `Rows` tells
-- callers what a word marks, and `Excluded` which word a day has. The others are laws that these and the functions' proofs cite.
pub mod Marked
pub mod Rows
pub mod Some
pub mod Near
pub mod Joined
pub mod Reach
pub mod Spread
pub mod Window
pub mod Excluded
pub mod Inside
pub mod Midnight
pub mod Far
pub mod Unique
