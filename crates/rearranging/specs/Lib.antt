-- Rasters row by row and in block order.
pub mod Ways
pub mod Moving
pub mod Promise
pub mod Rows
pub mod Callers
