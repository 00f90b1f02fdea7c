-- An import's text: its first two lines, its blocks, and the reply to the whole.
pub mod Import
pub mod Read
pub mod Demand
pub mod Examples
