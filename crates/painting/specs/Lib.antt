-- What blocks to raster promises, and the laws its loops follow.
pub mod FourBlocks
pub mod Promise
pub mod Callers
