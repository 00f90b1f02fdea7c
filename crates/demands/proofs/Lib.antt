-- The demands on one page, those for internal controllable lines on another, and those of requests 2, 5, 6 and 7 on one each; the laws that carry
-- theorems over to the texts that are read and printed; document 01's listing from end to end; and small texts that meet the pages' conditions.
pub mod Blocks
pub mod Printed
pub mod Opened
pub mod Listing
pub mod Taken
pub mod Demands
pub mod MoveDemands
pub mod LineDemands
pub mod NeighbourDemands
pub mod CentDemands
pub mod PointDemands
pub mod Witness
pub mod LineWitness
pub mod NeighbourWitness
pub mod MoveWitness
pub mod PointWitness
