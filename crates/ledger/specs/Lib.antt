-- A day: its front, its blocks, the answer of each hour, and the total.
pub mod Headers
pub mod Day
pub mod Stored
pub mod IclDay
pub mod Demand
pub mod IclDemand
pub mod Examples
pub mod Midnight
pub mod Walk
