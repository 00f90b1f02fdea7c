-- What is proved of the definitions: `IclBlockDemands` states it; and that the block call has one reply.
pub mod IclBlockDemands
pub mod Unique
