-- A stored sheet that moves up to form 2, or back down to form 1.
pub mod Move
pub mod Told
pub mod Examples
