-- A curve line of an hour block, and the frame of such a block: line 1, the two curve lines, and the interval lines; and what is
-- answered to it.
pub mod CurveLine
pub mod Frame
pub mod Answered
pub mod Apart
pub mod Closed
pub mod Told
