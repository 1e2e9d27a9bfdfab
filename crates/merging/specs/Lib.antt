-- What raster to blocks promises, and the laws its loops follow.
pub mod RasterNumber
pub mod MergeLoop
pub mod Growth
pub mod Promise
pub mod Callers
