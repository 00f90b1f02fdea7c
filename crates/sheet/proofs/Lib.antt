-- What is proved of the sheet's definitions: `BlockDemands` and `BlockPoints` state it. The others hold the laws that it and the functions' proofs cite.
pub mod Closing
pub mod Apart
pub mod PrintsCurve
pub mod PrintsHour
pub mod ReadHours
pub mod ReadsBack
pub mod BlockDemands
pub mod BlockPoints
pub mod Unique
