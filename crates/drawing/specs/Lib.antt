-- The lines of a raster.
pub mod Outlines
pub mod Picturing
pub mod Tracings
