-- What an interval asks of the walk.
pub mod Task
