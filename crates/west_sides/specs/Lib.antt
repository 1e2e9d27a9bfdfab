-- The region of each pixel told by the northward edges of given cycles.
pub mod Northward
pub mod Legs
pub mod Outlines
pub mod Cycles
pub mod Needed
pub mod Rows
pub mod Promise
pub mod Telling
