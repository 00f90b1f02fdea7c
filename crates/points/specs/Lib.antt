-- Where an interval stands before its derate, in the code's words.
pub mod Standing
