-- The parents of the regions, found along the map: what the work list holds, the parent told by the pixel to the north, one region
-- settled, the pass over the blocks, and what it promises.
pub mod RegionsSettled
pub mod NorthOf
pub mod OneRegion
pub mod Blocks
pub mod Promise
pub mod Forest
pub mod AfterNumbering
