-- The promises of request 2 on one page (ArchiveDemands), and what they rest on: a sheet that moves begins with its form's first lines (Moving), and
-- the part of it that a program has read decides (Fronts).
pub mod Moving
pub mod Fronts
pub mod ArchiveDemands
