-- What is proved of an import's definitions: `ImportDemands` states it. The others hold the laws that it and the functions' proofs cite.
pub mod Heads
pub mod Blocks
pub mod Added
pub mod Closing
pub mod Forms
pub mod Uncounted
pub mod KeptHead
pub mod KeptImport
pub mod Replies
pub mod Payments
pub mod ImportDemands
pub mod Unique
