-- What is proved of days: `DayDemands`, `MidnightDemands` and `IclDayDemands` state it of the definitions, `Unique` that a day call has one reply. The others hold the laws that
-- these and the functions' proofs cite.
pub mod Totals
pub mod Walks
pub mod Days
pub mod Unique
pub mod RoomEnough
pub mod HourOfDay
pub mod AnyFront
pub mod ThreeHeads
pub mod SheetFront
pub mod FrontAlone
pub mod StoredDays
pub mod StoredAlike
pub mod Midnight
pub mod IclFront
pub mod ByReading
pub mod BlocksApart
pub mod IclBlocksApart
pub mod TwoDays
pub mod DayDemands
pub mod DayPoints
pub mod MidnightDemands
pub mod IclDayDemands
