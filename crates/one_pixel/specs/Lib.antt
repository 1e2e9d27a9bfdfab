-- One pixel of another colour. Images that differ in one pixel at most.
pub mod Agreeing
-- Sums of numbers that are 0 but for one; sums over the sides of all pixels.
pub mod OneOfMany
pub mod SideSums
-- The number of regions.
pub mod ClassCounts
pub mod RegionCounts
-- The number of unit edges: what is counted, how it moves, and that it is the number of listed unit sides.
pub mod UnitEdges
pub mod EdgeCounts
pub mod ListedEdges
